-- Worked examples of the definitions, in tables under one claim: the starred bench cases of 01 with their numbers, each refusal of receiver and
-- builder at both sides of its limits, two faults at once for each two neighbours of an order, our banner as 01 writes it out, and frames.
-- The frames that are not aborted were recorded on links between Ceph programs; the aborted ones are written out by 000's rules.
use Rattle.std.specs.Prelude.{List, [], ◌∷◌, ◌++◌, Bool, true, false, ℕ, ◌+◌, ◌-◌, set, replicate}
use Rattle.buffer.specs.Le.{words}
use Rattle.crc32c.specs.Crc.{crc_of}
use Rattle.refusal.specs.Refusals.{Judged, fine, refused, row}
use Rattle.banner.specs.declared.Revision.{Revision}
use Rattle.banner.specs.declared.Revision.TheVariants.{Msgr20, Msgr21}
use Rattle.banner.specs.Banner.{magic, banner_bytes, judge_own, judge_magic, judge_length, judge_features, revision_of}
use Rattle.preamble.specs.declared.Header.{Header}
use Rattle.preamble.specs.Layout.{total}
use Rattle.preamble.specs.Judge.{segment_limit, frame_limit, judge_fields, judge_preamble}
use Rattle.body.specs.Body.{segment_start, wire_length, frame_bytes}
use Rattle.body.specs.End.{Ended, whole, dropped, refused_for, ending}
use Rattle.builder.specs.Build.{judge_frame, judge_banner, frame_done, banner_done}
use Rattle.refusal.specs.Writes as writes
use Rattle.refusal.specs.Writes.{wrote, Done, done}
use Rattle.stream.specs.Rows.{Row, ◌⇒◌, Holds, segment, header, sized}

-- ---- what the rows ask, each definition named once

-- a refusal with one detail, and with three
abbrev refuse : ℕ → ℕ → Judged
refuse n d = refused (row n d 0 0)

abbrev refuse_bits : ℕ → ℕ → ℕ → ℕ → Judged
refuse_bits n bits lowest count = refused (row n bits lowest count)

-- a preamble whose checksum holds: its header, flags, reserved byte, and the store's length
abbrev fields : Header → ℕ → ℕ → ℕ → Judged
fields h flags reserved store = judge_fields (record { header = h; flags = flags; reserved = reserved; checksum = 0 }) store

-- a frame to be built: aborted or not, the source's length, the send buffer's length, the queued bytes
abbrev build : Revision → Header → Bool → ℕ → ℕ → ℕ → Judged
build revision h abort source space queued = judge_frame revision h abort source space queued

-- a header as the receiver reads it and as the builder is asked for it, with a store, a source and a room that fit exactly
abbrev asked : Header → Judged → List (Row Judged)
asked h j =
    fields h 0 0 (total h) ⇒ j
    ∷ build Msgr20 h false (total h) (wire_length Msgr20 h) 0 ⇒ j
    ∷ build Msgr21 h false (total h) (wire_length Msgr21 h) 0 ⇒ j
    ∷ []

-- the end of a body: the late byte, the checksum fields, the segments' bytes
abbrev ended : Revision → Header → ℕ → List ℕ → List ℕ → Ended
ended revision h late sums bytes = ending revision h (late ∷ words sums) bytes

abbrev away : ℕ → ℕ → Ended
away n d = refused_for (row n d 0 0)

-- one segment, an empty one, two, four
abbrev one : Header
one = sized 1 5 0 0 0

abbrev empty : Header
empty = sized 1 0 0 0 0

abbrev two : Header
two = sized 2 1 1 0 0

abbrev four : Header
four = sized 4 1 1 1 1

-- the checksums of "a", "b", "c" and "d"
abbrev sum-a : ℕ
sum-a = 0x3E2FBCCF

abbrev sum-b : ℕ
sum-b = 0x2D7F4F3B

abbrev sum-c : ℕ
sum-c = 0xDF14CC38

abbrev sum_d : ℕ
sum_d = 0x0BDEA8D3

abbrev letters : List ℕ
letters = 0x61 ∷ 0x62 ∷ 0x63 ∷ 0x64 ∷ []

-- the preamble of tag 16 and an empty segment
abbrev wait : List ℕ
wait = 0x10 ∷ 0x01 ∷ 0x00 ∷ 0x00 ∷ 0x00 ∷ 0x00 ∷ 0x08 ∷ 0x00 ∷ 0x00 ∷ 0x00 ∷ 0x00 ∷ 0x00 ∷ 0x00 ∷ 0x00 ∷ 0x00 ∷ 0x00 ∷ 0x00 ∷ 0x00 ∷ 0x00 ∷ 0x00 ∷ 0x00 ∷ 0x00 ∷ 0x00 ∷ 0x00 ∷ 0x00 ∷ 0x00 ∷ 0x00 ∷ 0x00 ∷ 0xC8 ∷ 0xE3 ∷ 0xAA ∷ 0xB0 ∷ []

-- ---- the tables. A row with two numbers has both faults at once: the order decides

-- checksums and lengths (bench cases 1 to 5)
unfoldable pub numbers : List (Row ℕ)
numbers =
    -- 1
    crc_of segment_start (0x31 ∷ 0x32 ∷ 0x33 ∷ 0x34 ∷ 0x35 ∷ 0x36 ∷ 0x37 ∷ 0x38 ∷ 0x39 ∷ []) ⇒ 0x1CF96D7C
    -- 2
    ∷ crc_of segment_start (replicate 32 0) ⇒ 0x756EC955
    -- 3
    ∷ crc_of 0 (replicate 28 0) ⇒ 0
    -- an empty segment's checksum
    ∷ crc_of segment_start [] ⇒ 0xFFFFFFFF
    -- 4
    ∷ wire_length Msgr21 (sized 1 0 0 0 0) ⇒ 32
    ∷ wire_length Msgr21 (sized 1 20 0 0 0) ⇒ 56
    ∷ wire_length Msgr21 (sized 2 0 70 0 0) ⇒ 115
    ∷ wire_length Msgr21 (sized 4 20 70 0 350) ⇒ 489
    -- 5
    ∷ wire_length Msgr20 (sized 1 0 0 0 0) ⇒ 49
    ∷ wire_length Msgr20 (sized 1 20 0 0 0) ⇒ 69
    ∷ wire_length Msgr20 (sized 2 0 70 0 0) ⇒ 119
    ∷ wire_length Msgr20 (sized 4 20 70 0 350) ⇒ 489
    ∷ []

-- the revision that both sides' supported features choose
unfoldable pub revisions : List (Row Revision)
revisions =
    -- msgr2.1 exactly when both have bit 0
    revision_of 1 1 ⇒ Msgr21
    ∷ revision_of 1 3 ⇒ Msgr21
    ∷ revision_of 1 0 ⇒ Msgr20
    ∷ revision_of 0 1 ⇒ Msgr20
    ∷ revision_of 0 0 ⇒ Msgr20
    ∷ revision_of 1 2 ⇒ Msgr20
    ∷ []

-- refusals 1 to 4 and 16
unfoldable pub banners : List (Row Judged)
banners =
    -- 1
    judge_magic magic ⇒ fine
    ∷ judge_magic (set magic 7 0x0D) ⇒ refuse 1 0
    ∷ judge_magic (set magic 0 0x43) ⇒ refuse 1 0
    -- 2, at both limits (bench case 11)
    ∷ judge_length 0 ⇒ refuse 2 0
    ∷ judge_length 15 ⇒ refuse 2 15
    ∷ judge_length 16 ⇒ fine
    ∷ judge_length 17 ⇒ fine
    ∷ judge_length 1024 ⇒ fine
    ∷ judge_length 1025 ⇒ refuse 2 1025
    ∷ judge_length 65535 ⇒ refuse 2 65535
    -- 3 (bench case 9); our features stand before the peer's, supported before required
    ∷ judge_features 1 0 0 0x14 ⇒ refuse_bits 3 0x14 2 2
    ∷ judge_features 1 0 1 1 ⇒ fine
    ∷ judge_features 0 0 1 1 ⇒ refuse_bits 3 1 0 1
    ∷ judge_features 1 0 0 0xFFFFFFFFFFFFFFFF ⇒ refuse_bits 3 0xFFFFFFFFFFFFFFFE 1 63
    ∷ judge_features 1 0 0 0x8000000000000000 ⇒ refuse_bits 3 0x8000000000000000 63 1
    -- 3 and 4
    ∷ judge_features 1 1 0 2 ⇒ refuse_bits 3 2 1 1
    -- 4
    ∷ judge_features 1 1 1 0 ⇒ fine
    ∷ judge_features 1 1 2 0 ⇒ refuse_bits 4 1 0 1
    ∷ judge_features 1 0x34 0x20 0 ⇒ refuse_bits 4 0x14 2 2
    -- 16
    ∷ judge_own 0 0 ⇒ fine
    ∷ judge_own 1 0 ⇒ fine
    ∷ judge_own 1 1 ⇒ fine
    ∷ judge_own 0 1 ⇒ refuse 16 0
    ∷ judge_own 2 0 ⇒ refuse 16 0
    ∷ judge_own 3 0 ⇒ refuse 16 0
    ∷ judge_own 3 2 ⇒ refuse 16 0
    ∷ judge_own 0 2 ⇒ refuse 16 0
    ∷ judge_own 0x8000000000000001 0 ⇒ refuse 16 0
    ∷ judge_magic (set magic 1 0x45) ⇒ refuse 1 0
    ∷ judge_magic (set magic 2 0x50) ⇒ refuse 1 0
    ∷ judge_magic (set magic 3 0x48) ⇒ refuse 1 0
    ∷ judge_magic (set magic 4 0x09) ⇒ refuse 1 0
    ∷ judge_magic (set magic 5 0x56) ⇒ refuse 1 0
    ∷ judge_magic (set magic 6 0x31) ⇒ refuse 1 0
    ∷ []

-- refusals 5, 7 and 10, and the order 5, 6, 7, 8, 9, 10
unfoldable pub preambles : List (Row Judged)
preambles =
    -- 5: a good preamble, and one whose first or last byte differs
    judge_preamble wait 0 ⇒ fine
    ∷ judge_preamble (set wait 0 0x11) 0 ⇒ refuse 5 28
    ∷ judge_preamble (set wait 31 0xB1) 0 ⇒ refuse 5 28
    -- 5: the checksum complemented
    ∷ judge_preamble (set (set (set (set wait 28 0x37) 29 0x1C) 30 0x55) 31 0x4F) 0 ⇒ refuse 5 28
    -- 5 and 6
    ∷ judge_preamble (set (replicate 32 0) 31 1) 0 ⇒ refuse 5 28
    -- 6: thirty-two zero bytes (bench case 6)
    ∷ judge_preamble (replicate 32 0) 0 ⇒ refuse 6 1
    -- 6 and 7
    ∷ fields (sized 0 0 0 0 0) 1 0 0 ⇒ refuse 6 1
    ∷ fields (header 17 1 (segment 0 0) (segment 0 0) (segment 0 0) (segment 0 1)) 0 1 0 ⇒ refuse 6 24
    -- 7, for either byte and for both
    ∷ fields empty 1 0 0 ⇒ refuse 7 26
    ∷ fields empty 0 1 0 ⇒ refuse 7 27
    ∷ fields empty 0x80 0x80 0 ⇒ refuse 7 26
    ∷ fields empty 0x7E 0 0 ⇒ refuse 7 26
    ∷ fields empty 0 0xFE 0 ⇒ refuse 7 27
    ∷ fields empty 0 0 0 ⇒ fine
    -- 7 and 8
    ∷ fields (header 21 1 (segment 0 0) (segment 0 0) (segment 0 0) (segment 0 0)) 1 0 0 ⇒ refuse 7 26
    ∷ fields (header 0 1 (segment 0 0) (segment 0 0) (segment 0 0) (segment 0 0)) 0 1 0 ⇒ refuse 7 27
    -- 8 and 9
    ∷ fields (header 21 1 (segment (segment_limit + 1) 0) (segment 0 0) (segment 0 0) (segment 0 0)) 0 0 frame_limit ⇒ refuse 8 21
    -- 9 and 10
    ∷ fields (sized 1 (segment_limit + 1) 0 0 0) 0 0 0 ⇒ refuse 9 2
    ∷ fields (sized 3 segment_limit segment_limit 1 0) 0 0 frame_limit ⇒ refuse 9 14
    -- 10
    ∷ fields one 0 0 5 ⇒ fine
    ∷ fields one 0 0 4 ⇒ refuse 10 5
    ∷ fields four 0 0 3 ⇒ refuse 10 4
    ∷ fields (sized 2 segment_limit segment_limit 0 0) 0 0 (frame_limit - 1) ⇒ refuse 10 frame_limit
    ∷ []

-- refusals 6, 8 and 9, of receiver and builder alike
unfoldable pub headers : List (Row Judged)
headers =
    -- 6: the count at both limits; bench case 7
    asked (sized 0 0 0 0 0) (refuse 6 1)
    ++ asked (sized 1 0 0 0 0) fine
    ++ asked (sized 4 1 1 1 1) fine
    ++ asked (sized 5 1 1 1 1) (refuse 6 1)
    ++ asked (sized 255 1 1 1 1) (refuse 6 1)
    -- 6: the last of more than one segment is empty
    ++ asked (sized 2 5 0 0 0) (refuse 6 8)
    ++ asked (sized 3 1 1 0 0) (refuse 6 14)
    ++ asked (sized 4 1 1 1 0) (refuse 6 20)
    ++ asked (sized 4 0 0 0 1) fine
    -- 6: an unused length
    ++ asked (sized 1 0 1 0 0) (refuse 6 8)
    ++ asked (sized 1 0 0 1 0) (refuse 6 14)
    ++ asked (sized 1 0 0 0 1) (refuse 6 20)
    -- 6: an unused alignment
    ++ asked (header 17 1 (segment 0 0) (segment 0 1) (segment 0 0) (segment 0 0)) (refuse 6 12)
    ++ asked (header 17 1 (segment 0 0) (segment 0 0) (segment 0 1) (segment 0 0)) (refuse 6 18)
    ++ asked (header 17 1 (segment 0 0) (segment 0 0) (segment 0 0) (segment 0 0x8000)) (refuse 6 24)
    -- 6: any alignment of a used segment
    ++ asked (header 17 4 (segment 0 0xFFFF) (segment 0 1) (segment 0 2) (segment 1 0x1000)) fine
    -- 6: an unused length and an unused alignment, behind two and three segments
    ++ asked (sized 2 1 1 1 0) (refuse 6 14)
    ++ asked (sized 2 1 1 0 1) (refuse 6 20)
    ++ asked (sized 3 1 1 1 1) (refuse 6 20)
    ++ asked (sized 1 0 0x10000 0 0) (refuse 6 8)
    ++ asked (header 17 1 (segment 0 0) (segment 0 0x100) (segment 0 0) (segment 0 0)) (refuse 6 12)
    ++ asked (header 17 2 (segment 1 0) (segment 1 0) (segment 0 1) (segment 0 0)) (refuse 6 18)
    ++ asked (header 17 2 (segment 1 0) (segment 1 0) (segment 0 0) (segment 0 1)) (refuse 6 24)
    ++ asked (header 17 3 (segment 1 0) (segment 1 0) (segment 1 0) (segment 0 1)) (refuse 6 24)
    -- 6: the first of two fields, for each two neighbours
    ++ asked (sized 0 1 0 0 0) (refuse 6 1)
    ++ asked (header 17 0 (segment 0 1) (segment 0 0) (segment 0 0) (segment 0 0)) (refuse 6 1)
    ++ asked (header 17 1 (segment 0 0) (segment 1 1) (segment 0 0) (segment 0 0)) (refuse 6 8)
    ++ asked (header 17 1 (segment 0 0) (segment 0 1) (segment 1 0) (segment 0 0)) (refuse 6 12)
    ++ asked (header 17 1 (segment 0 0) (segment 0 0) (segment 1 1) (segment 0 0)) (refuse 6 14)
    ++ asked (header 17 1 (segment 0 0) (segment 0 0) (segment 0 1) (segment 1 0)) (refuse 6 18)
    ++ asked (header 17 1 (segment 0 0) (segment 0 0) (segment 0 0) (segment 1 1)) (refuse 6 20)
    ++ asked (sized 2 0 0 1 0) (refuse 6 8)
    -- 6 and 8
    ++ asked (header 21 0 (segment 0 0) (segment 0 0) (segment 0 0) (segment 0 0)) (refuse 6 1)
    ++ asked (header 0 1 (segment 0 0) (segment 0 0) (segment 0 0) (segment 0 1)) (refuse 6 24)
    -- 8, at both limits
    ++ asked (header 0 1 (segment 0 0) (segment 0 0) (segment 0 0) (segment 0 0)) (refuse 8 0)
    ++ asked (header 1 1 (segment 0 0) (segment 0 0) (segment 0 0) (segment 0 0)) fine
    ++ asked (header 20 1 (segment 0 0) (segment 0 0) (segment 0 0) (segment 0 0)) fine
    ++ asked (header 21 1 (segment 0 0) (segment 0 0) (segment 0 0) (segment 0 0)) (refuse 8 21)
    ++ asked (header 255 1 (segment 0 0) (segment 0 0) (segment 0 0) (segment 0 0)) (refuse 8 255)
    -- 8 and 9
    ++ asked (header 0 1 (segment (segment_limit + 1) 0) (segment 0 0) (segment 0 0) (segment 0 0)) (refuse 8 0)
    ++ asked (header 21 3 (segment segment_limit 0) (segment segment_limit 0) (segment 1 0) (segment 0 0)) (refuse 8 21)
    -- 9: bench case 8
    ++ asked (sized 1 1048576 0 0 0) fine
    ++ asked (sized 1 1048577 0 0 0) (refuse 9 2)
    ++ asked (sized 2 1048576 1048576 0 0) fine
    ++ asked (sized 3 1048576 1048576 1 0) (refuse 9 14)
    -- 9: each segment at its limit and above it
    ++ asked (sized 1 segment_limit 0 0 0) fine
    ++ asked (sized 1 (segment_limit + 1) 0 0 0) (refuse 9 2)
    ++ asked (sized 2 0 segment_limit 0 0) fine
    ++ asked (sized 2 0 (segment_limit + 1) 0 0) (refuse 9 8)
    ++ asked (sized 3 0 0 segment_limit 0) fine
    ++ asked (sized 3 0 0 (segment_limit + 1) 0) (refuse 9 14)
    ++ asked (sized 4 0 0 0 segment_limit) fine
    ++ asked (sized 4 0 0 0 (segment_limit + 1)) (refuse 9 20)
    -- 9: the sum at its limit and above it
    ++ asked (sized 3 1 segment_limit (segment_limit - 1) 0) fine
    ++ asked (sized 3 1 segment_limit segment_limit 0) (refuse 9 14)
    ++ asked (sized 4 segment_limit 0 (segment_limit - 1) 1) fine
    ++ asked (sized 4 segment_limit 0 segment_limit 1) (refuse 9 20)
    ++ asked (sized 4 1 0 segment_limit segment_limit) (refuse 9 20)
    -- 9: the running sum passes before the last length that is not empty
    ++ asked (sized 4 segment_limit segment_limit 1 1) (refuse 9 14)
    ++ asked (sized 4 segment_limit (segment_limit - 1) 2 5) (refuse 9 14)
    -- 9: a long segment behind the place where the sum passes, and two long ones
    ++ asked (sized 4 segment_limit segment_limit 1 (segment_limit + 1)) (refuse 9 20)
    ++ asked (sized 4 (segment_limit + 1) 0 0 (segment_limit + 1)) (refuse 9 2)
    -- 9: four lengths whose sum is 0 in 32 bits (bench case 12)
    ++ asked (sized 4 0x40000000 0x40000000 0x40000000 0x40000000) (refuse 9 2)

-- refusals 13, 15, 14 and 16 of the builder, and its orders 6, 8, 9, 13, 15, 14 and 16, 14
unfoldable pub builds : List (Row Judged)
builds =
    -- 9 and 13
    build Msgr21 (sized 1 (segment_limit + 1) 0 0 0) false 0 64 0 ⇒ refuse 9 2
    ∷ build Msgr20 (sized 3 segment_limit segment_limit 1 0) false 0 64 0 ⇒ refuse 9 14
    -- 13
    ∷ build Msgr21 one false 5 41 0 ⇒ fine
    ∷ build Msgr21 one false 4 41 0 ⇒ refuse 13 0
    ∷ build Msgr21 one false 6 41 0 ⇒ refuse 13 0
    -- an aborted frame's source still has all bytes
    ∷ build Msgr21 two true 2 51 0 ⇒ fine
    ∷ build Msgr21 two true 1 51 0 ⇒ refuse 13 0
    -- 13 and 15
    ∷ build Msgr21 one true 4 41 0 ⇒ refuse 13 0
    -- 15, with one segment, in msgr2.1, and not otherwise
    ∷ build Msgr21 one true 5 41 0 ⇒ refuse 15 0
    ∷ build Msgr21 empty true 0 32 0 ⇒ refuse 15 0
    ∷ build Msgr20 one true 5 54 0 ⇒ fine
    -- 15 and 14
    ∷ build Msgr21 one true 5 40 0 ⇒ refuse 15 0
    -- 14: one byte short, in both revisions
    ∷ build Msgr21 one false 5 40 0 ⇒ refuse 14 41
    ∷ build Msgr20 one false 5 53 0 ⇒ refuse 14 54
    ∷ build Msgr20 one false 5 54 0 ⇒ fine
    ∷ build Msgr21 four false 4 53 0 ⇒ fine
    ∷ build Msgr21 four false 4 52 0 ⇒ refuse 14 53
    -- 14: behind queued bytes, and queued bytes that the buffer has not
    ∷ build Msgr21 one false 5 51 10 ⇒ fine
    ∷ build Msgr21 one false 5 51 11 ⇒ refuse 14 41
    ∷ build Msgr21 one false 5 51 52 ⇒ refuse 14 41
    ∷ build Msgr21 one false 5 51 0xFFFFFFFFFFFFFFFF ⇒ refuse 14 41
    -- a banner: 14
    ∷ judge_banner 1 0 26 0 ⇒ fine
    ∷ judge_banner 1 0 25 0 ⇒ refuse 14 26
    ∷ judge_banner 1 1 36 10 ⇒ fine
    ∷ judge_banner 1 1 36 11 ⇒ refuse 14 26
    ∷ judge_banner 0 0 36 0xFFFFFFFFFFFFFFFF ⇒ refuse 14 26
    -- 16, and 16 and 14
    ∷ judge_banner 2 0 26 0 ⇒ refuse 16 0
    ∷ judge_banner 0 1 26 0 ⇒ refuse 16 0
    ∷ judge_banner 0 1 25 0 ⇒ refuse 16 0
    ∷ []

-- the end of a body: 24, 12, drop, 11 (late_status: bench case 10 as 02 amends it)
unfoldable pub ends : List (Row Ended)
ends =
    -- msgr2.1: code words in the low four bits
    ended Msgr21 two 0x0E (sum-b ∷ 0 ∷ 0 ∷ []) (0x61 ∷ 0x62 ∷ []) ⇒ whole
    ∷ ended Msgr21 two 0x1E (sum-b ∷ 0 ∷ 0 ∷ []) (0x61 ∷ 0x62 ∷ []) ⇒ whole
    ∷ ended Msgr21 two 0xFE (sum-b ∷ 0 ∷ 0 ∷ []) (0x61 ∷ 0x62 ∷ []) ⇒ whole
    ∷ ended Msgr21 two 0x01 (sum-b ∷ 0 ∷ 0 ∷ []) (0x61 ∷ 0x62 ∷ []) ⇒ dropped
    ∷ ended Msgr21 two 0xE1 (sum-b ∷ 0 ∷ 0 ∷ []) (0x61 ∷ 0x62 ∷ []) ⇒ dropped
    -- 12: any other, with the whole byte
    ∷ ended Msgr21 two 0x00 (sum-b ∷ 0 ∷ 0 ∷ []) (0x61 ∷ 0x62 ∷ []) ⇒ away 12 0x00
    ∷ ended Msgr21 two 0x0F (sum-b ∷ 0 ∷ 0 ∷ []) (0x61 ∷ 0x62 ∷ []) ⇒ away 12 0x0F
    ∷ ended Msgr21 two 0x02 (sum-b ∷ 0 ∷ 0 ∷ []) (0x61 ∷ 0x62 ∷ []) ⇒ away 12 0x02
    ∷ ended Msgr21 two 0x10 (sum-b ∷ 0 ∷ 0 ∷ []) (0x61 ∷ 0x62 ∷ []) ⇒ away 12 0x10
    ∷ ended Msgr21 two 0xEF (sum-b ∷ 0 ∷ 0 ∷ []) (0x61 ∷ 0x62 ∷ []) ⇒ away 12 0xEF
    ∷ ended Msgr21 two 0x06 (sum-b ∷ 0 ∷ 0 ∷ []) (0x61 ∷ 0x62 ∷ []) ⇒ away 12 0x06
    -- 12 and 11
    ∷ ended Msgr21 two 0x10 (sum-a ∷ 0 ∷ 0 ∷ []) (0x61 ∷ 0x62 ∷ []) ⇒ away 12 0x10
    -- a drop and 11
    ∷ ended Msgr21 two 0x01 (sum-a ∷ 0 ∷ 0 ∷ []) (0x61 ∷ 0x62 ∷ []) ⇒ dropped
    -- 11 at each segment, and the lowest of two; 24 where an unused field is not 0
    ∷ ended Msgr21 two 0x0E (sum-a ∷ 0 ∷ 0 ∷ []) (0x61 ∷ 0x62 ∷ []) ⇒ away 11 2
    ∷ ended Msgr21 four 0x0E (sum-b ∷ sum-c ∷ sum_d ∷ []) letters ⇒ whole
    ∷ ended Msgr21 four 0x0E (sum-b ∷ 0 ∷ sum_d ∷ []) letters ⇒ away 11 3
    ∷ ended Msgr21 four 0x0E (sum-b ∷ sum-c ∷ 0 ∷ []) letters ⇒ away 11 4
    ∷ ended Msgr21 four 0x0E (sum-b ∷ 0 ∷ 0 ∷ []) letters ⇒ away 11 3
    ∷ ended Msgr21 two 0x0E (sum-b ∷ 7 ∷ 7 ∷ []) (0x61 ∷ 0x62 ∷ []) ⇒ away 24 3
    -- one segment: no epilogue, so no late byte
    ∷ ending Msgr21 one [] (replicate 5 0) ⇒ whole
    -- msgr2.0: late_flags is 0 or 1, else 24
    ∷ ended Msgr20 two 0x00 (sum-a ∷ sum-b ∷ 0 ∷ 0 ∷ []) (0x61 ∷ 0x62 ∷ []) ⇒ whole
    ∷ ended Msgr20 two 0x02 (sum-a ∷ sum-b ∷ 0 ∷ 0 ∷ []) (0x61 ∷ 0x62 ∷ []) ⇒ away 24 0
    ∷ ended Msgr20 two 0xFE (sum-a ∷ sum-b ∷ 0 ∷ 0 ∷ []) (0x61 ∷ 0x62 ∷ []) ⇒ away 24 0
    ∷ ended Msgr20 two 0x01 (sum-a ∷ sum-b ∷ 0 ∷ 0 ∷ []) (0x61 ∷ 0x62 ∷ []) ⇒ dropped
    ∷ ended Msgr20 two 0x03 (sum-a ∷ sum-b ∷ 0 ∷ 0 ∷ []) (0x61 ∷ 0x62 ∷ []) ⇒ away 24 0
    ∷ ended Msgr20 two 0xFF (sum-a ∷ sum-b ∷ 0 ∷ 0 ∷ []) (0x61 ∷ 0x62 ∷ []) ⇒ away 24 0
    -- a drop and 11
    ∷ ended Msgr20 two 0x01 (0 ∷ 0 ∷ 0 ∷ 0 ∷ []) (0x61 ∷ 0x62 ∷ []) ⇒ dropped
    -- 11 at each segment, and the lowest of two; 24 where an unused field is not 0
    ∷ ended Msgr20 four 0x00 (sum-a ∷ sum-b ∷ sum-c ∷ sum_d ∷ []) letters ⇒ whole
    ∷ ended Msgr20 four 0x00 (0 ∷ sum-b ∷ sum-c ∷ sum_d ∷ []) letters ⇒ away 11 1
    ∷ ended Msgr20 four 0x00 (sum-a ∷ 0 ∷ sum-c ∷ sum_d ∷ []) letters ⇒ away 11 2
    ∷ ended Msgr20 four 0x00 (sum-a ∷ sum-b ∷ 0 ∷ sum_d ∷ []) letters ⇒ away 11 3
    ∷ ended Msgr20 four 0x00 (sum-a ∷ sum-b ∷ sum-c ∷ 0 ∷ []) letters ⇒ away 11 4
    ∷ ended Msgr20 four 0x00 (0 ∷ 0 ∷ sum-c ∷ sum_d ∷ []) letters ⇒ away 11 1
    ∷ ended Msgr20 four 0x00 (sum-a ∷ 0 ∷ 0 ∷ sum_d ∷ []) letters ⇒ away 11 2
    ∷ ended Msgr20 four 0x00 (sum-a ∷ sum-b ∷ 0 ∷ 0 ∷ []) letters ⇒ away 11 3
    ∷ ended Msgr20 two 0x00 (sum-a ∷ sum-b ∷ 7 ∷ 7 ∷ []) (0x61 ∷ 0x62 ∷ []) ⇒ away 24 3
    -- empty segments have FFFFFFFF
    ∷ ended Msgr20 empty 0x00 (0xFFFFFFFF ∷ 0 ∷ 0 ∷ 0 ∷ []) [] ⇒ whole
    ∷ ended Msgr20 empty 0x00 (0 ∷ 0 ∷ 0 ∷ 0 ∷ []) [] ⇒ away 11 1
    -- late_status: each other code word, and each bit of the high nibble
    ∷ ended Msgr21 two 0x03 (sum-b ∷ 0 ∷ 0 ∷ []) (0x61 ∷ 0x62 ∷ []) ⇒ away 12 0x03
    ∷ ended Msgr21 two 0x04 (sum-b ∷ 0 ∷ 0 ∷ []) (0x61 ∷ 0x62 ∷ []) ⇒ away 12 0x04
    ∷ ended Msgr21 two 0x05 (sum-b ∷ 0 ∷ 0 ∷ []) (0x61 ∷ 0x62 ∷ []) ⇒ away 12 0x05
    ∷ ended Msgr21 two 0x07 (sum-b ∷ 0 ∷ 0 ∷ []) (0x61 ∷ 0x62 ∷ []) ⇒ away 12 0x07
    ∷ ended Msgr21 two 0x08 (sum-b ∷ 0 ∷ 0 ∷ []) (0x61 ∷ 0x62 ∷ []) ⇒ away 12 0x08
    ∷ ended Msgr21 two 0x09 (sum-b ∷ 0 ∷ 0 ∷ []) (0x61 ∷ 0x62 ∷ []) ⇒ away 12 0x09
    ∷ ended Msgr21 two 0x0A (sum-b ∷ 0 ∷ 0 ∷ []) (0x61 ∷ 0x62 ∷ []) ⇒ away 12 0x0A
    ∷ ended Msgr21 two 0x0B (sum-b ∷ 0 ∷ 0 ∷ []) (0x61 ∷ 0x62 ∷ []) ⇒ away 12 0x0B
    ∷ ended Msgr21 two 0x0C (sum-b ∷ 0 ∷ 0 ∷ []) (0x61 ∷ 0x62 ∷ []) ⇒ away 12 0x0C
    ∷ ended Msgr21 two 0x0D (sum-b ∷ 0 ∷ 0 ∷ []) (0x61 ∷ 0x62 ∷ []) ⇒ away 12 0x0D
    ∷ ended Msgr21 two 0x2E (sum-b ∷ 0 ∷ 0 ∷ []) (0x61 ∷ 0x62 ∷ []) ⇒ whole
    ∷ ended Msgr21 two 0x4E (sum-b ∷ 0 ∷ 0 ∷ []) (0x61 ∷ 0x62 ∷ []) ⇒ whole
    ∷ ended Msgr21 two 0x8E (sum-b ∷ 0 ∷ 0 ∷ []) (0x61 ∷ 0x62 ∷ []) ⇒ whole
    ∷ ended Msgr21 two 0x11 (sum-b ∷ 0 ∷ 0 ∷ []) (0x61 ∷ 0x62 ∷ []) ⇒ dropped
    ∷ ended Msgr21 two 0x21 (sum-b ∷ 0 ∷ 0 ∷ []) (0x61 ∷ 0x62 ∷ []) ⇒ dropped
    ∷ ended Msgr21 two 0x41 (sum-b ∷ 0 ∷ 0 ∷ []) (0x61 ∷ 0x62 ∷ []) ⇒ dropped
    ∷ ended Msgr21 two 0x81 (sum-b ∷ 0 ∷ 0 ∷ []) (0x61 ∷ 0x62 ∷ []) ⇒ dropped
    ∷ []

-- the banner of 01, and frames
unfoldable pub bytes : List (Row (List ℕ))
bytes =
    banner_bytes 1 0 ⇒ (0x63 ∷ 0x65 ∷ 0x70 ∷ 0x68 ∷ 0x20 ∷ 0x76 ∷ 0x32 ∷ 0x0A ∷ 0x10 ∷ 0x00 ∷ 0x01 ∷ 0x00 ∷ 0x00 ∷ 0x00 ∷ 0x00 ∷ 0x00 ∷ 0x00 ∷ 0x00 ∷ 0x00 ∷ 0x00 ∷ 0x00 ∷ 0x00 ∷ 0x00 ∷ 0x00 ∷ 0x00 ∷ 0x00 ∷ [])
    -- tag 16, empty
    ∷ frame_bytes Msgr21 (header 16 1 (segment 0 8) (segment 0 0) (segment 0 0) (segment 0 0)) false [] ⇒ (0x10 ∷ 0x01 ∷ 0x00 ∷ 0x00 ∷ 0x00 ∷ 0x00 ∷ 0x08 ∷ 0x00 ∷ 0x00 ∷ 0x00 ∷ 0x00 ∷ 0x00 ∷ 0x00 ∷ 0x00 ∷ 0x00 ∷ 0x00 ∷ 0x00 ∷ 0x00 ∷ 0x00 ∷ 0x00 ∷ 0x00 ∷ 0x00 ∷ 0x00 ∷ 0x00 ∷ 0x00 ∷ 0x00 ∷ 0x00 ∷ 0x00 ∷ 0xC8 ∷ 0xE3 ∷ 0xAA ∷ 0xB0 ∷ [])
    -- tag 18, 8 bytes
    ∷ frame_bytes Msgr21 (header 18 1 (segment 8 8) (segment 0 0) (segment 0 0) (segment 0 0)) false (0x51 ∷ 0xC1 ∷ 0xF9 ∷ 0x6A ∷ 0x4D ∷ 0x2A ∷ 0xA6 ∷ 0x26 ∷ []) ⇒ (0x12 ∷ 0x01 ∷ 0x08 ∷ 0x00 ∷ 0x00 ∷ 0x00 ∷ 0x08 ∷ 0x00 ∷ 0x00 ∷ 0x00 ∷ 0x00 ∷ 0x00 ∷ 0x00 ∷ 0x00 ∷ 0x00 ∷ 0x00 ∷ 0x00 ∷ 0x00 ∷ 0x00 ∷ 0x00 ∷ 0x00 ∷ 0x00 ∷ 0x00 ∷ 0x00 ∷ 0x00 ∷ 0x00 ∷ 0x00 ∷ 0x00 ∷ 0xD8 ∷ 0xD5 ∷ 0xF5 ∷ 0x99 ∷ 0x51 ∷ 0xC1 ∷ 0xF9 ∷ 0x6A ∷ 0x4D ∷ 0x2A ∷ 0xA6 ∷ 0x26 ∷ 0x43 ∷ 0x74 ∷ 0x5D ∷ 0x84 ∷ [])
    -- tag 18, 8 bytes
    ∷ frame_bytes Msgr20 (header 18 1 (segment 8 8) (segment 0 0) (segment 0 0) (segment 0 0)) false (0x88 ∷ 0xC3 ∷ 0xF9 ∷ 0x6A ∷ 0xB2 ∷ 0x65 ∷ 0xF1 ∷ 0x08 ∷ []) ⇒ (0x12 ∷ 0x01 ∷ 0x08 ∷ 0x00 ∷ 0x00 ∷ 0x00 ∷ 0x08 ∷ 0x00 ∷ 0x00 ∷ 0x00 ∷ 0x00 ∷ 0x00 ∷ 0x00 ∷ 0x00 ∷ 0x00 ∷ 0x00 ∷ 0x00 ∷ 0x00 ∷ 0x00 ∷ 0x00 ∷ 0x00 ∷ 0x00 ∷ 0x00 ∷ 0x00 ∷ 0x00 ∷ 0x00 ∷ 0x00 ∷ 0x00 ∷ 0xD8 ∷ 0xD5 ∷ 0xF5 ∷ 0x99 ∷ 0x88 ∷ 0xC3 ∷ 0xF9 ∷ 0x6A ∷ 0xB2 ∷ 0x65 ∷ 0xF1 ∷ 0x08 ∷ 0x00 ∷ 0xC2 ∷ 0xFD ∷ 0x96 ∷ 0x60 ∷ 0x00 ∷ 0x00 ∷ 0x00 ∷ 0x00 ∷ 0x00 ∷ 0x00 ∷ 0x00 ∷ 0x00 ∷ 0x00 ∷ 0x00 ∷ 0x00 ∷ 0x00 ∷ [])
    -- tag 17, 41 and 18 bytes
    ∷ frame_bytes Msgr21 (header 17 2 (segment 41 8) (segment 18 8) (segment 0 0) (segment 0 0)) false (0x05 ∷ 0x00 ∷ 0x00 ∷ 0x00 ∷ 0x00 ∷ 0x00 ∷ 0x00 ∷ 0x00 ∷ 0x00 ∷ 0x00 ∷ 0x00 ∷ 0x00 ∷ 0x00 ∷ 0x00 ∷ 0x00 ∷ 0x00 ∷ 0x13 ∷ 0x00 ∷ 0x7F ∷ 0x00 ∷ 0x01 ∷ 0x00 ∷ 0x00 ∷ 0x00 ∷ 0x00 ∷ 0x00 ∷ 0x00 ∷ 0x00 ∷ 0x03 ∷ 0x00 ∷ 0x00 ∷ 0x00 ∷ 0x00 ∷ 0x00 ∷ 0x00 ∷ 0x00 ∷ 0x03 ∷ 0x01 ∷ 0x00 ∷ 0x00 ∷ 0x00 ∷ 0x01 ∷ 0x00 ∷ 0x00 ∷ 0x00 ∷ 0x00 ∷ 0x00 ∷ 0x00 ∷ 0x00 ∷ 0x06 ∷ 0x00 ∷ 0x00 ∷ 0x00 ∷ 0x6F ∷ 0x73 ∷ 0x64 ∷ 0x6D ∷ 0x61 ∷ 0x70 ∷ []) ⇒ (0x11 ∷ 0x02 ∷ 0x29 ∷ 0x00 ∷ 0x00 ∷ 0x00 ∷ 0x08 ∷ 0x00 ∷ 0x12 ∷ 0x00 ∷ 0x00 ∷ 0x00 ∷ 0x08 ∷ 0x00 ∷ 0x00 ∷ 0x00 ∷ 0x00 ∷ 0x00 ∷ 0x00 ∷ 0x00 ∷ 0x00 ∷ 0x00 ∷ 0x00 ∷ 0x00 ∷ 0x00 ∷ 0x00 ∷ 0x00 ∷ 0x00 ∷ 0xD1 ∷ 0x01 ∷ 0x2E ∷ 0x8F ∷ 0x05 ∷ 0x00 ∷ 0x00 ∷ 0x00 ∷ 0x00 ∷ 0x00 ∷ 0x00 ∷ 0x00 ∷ 0x00 ∷ 0x00 ∷ 0x00 ∷ 0x00 ∷ 0x00 ∷ 0x00 ∷ 0x00 ∷ 0x00 ∷ 0x13 ∷ 0x00 ∷ 0x7F ∷ 0x00 ∷ 0x01 ∷ 0x00 ∷ 0x00 ∷ 0x00 ∷ 0x00 ∷ 0x00 ∷ 0x00 ∷ 0x00 ∷ 0x03 ∷ 0x00 ∷ 0x00 ∷ 0x00 ∷ 0x00 ∷ 0x00 ∷ 0x00 ∷ 0x00 ∷ 0x03 ∷ 0x01 ∷ 0x00 ∷ 0x00 ∷ 0x00 ∷ 0xF6 ∷ 0xE4 ∷ 0xC2 ∷ 0xF1 ∷ 0x01 ∷ 0x00 ∷ 0x00 ∷ 0x00 ∷ 0x00 ∷ 0x00 ∷ 0x00 ∷ 0x00 ∷ 0x06 ∷ 0x00 ∷ 0x00 ∷ 0x00 ∷ 0x6F ∷ 0x73 ∷ 0x64 ∷ 0x6D ∷ 0x61 ∷ 0x70 ∷ 0x0E ∷ 0x49 ∷ 0x83 ∷ 0x21 ∷ 0xCF ∷ 0x00 ∷ 0x00 ∷ 0x00 ∷ 0x00 ∷ 0x00 ∷ 0x00 ∷ 0x00 ∷ 0x00 ∷ [])
    -- tag 17, 41 and 18 bytes
    ∷ frame_bytes Msgr20 (header 17 2 (segment 41 8) (segment 18 8) (segment 0 0) (segment 0 0)) false (0x06 ∷ 0x00 ∷ 0x00 ∷ 0x00 ∷ 0x00 ∷ 0x00 ∷ 0x00 ∷ 0x00 ∷ 0x00 ∷ 0x00 ∷ 0x00 ∷ 0x00 ∷ 0x00 ∷ 0x00 ∷ 0x00 ∷ 0x00 ∷ 0x13 ∷ 0x00 ∷ 0x7F ∷ 0x00 ∷ 0x01 ∷ 0x00 ∷ 0x00 ∷ 0x00 ∷ 0x00 ∷ 0x00 ∷ 0x00 ∷ 0x00 ∷ 0x05 ∷ 0x00 ∷ 0x00 ∷ 0x00 ∷ 0x00 ∷ 0x00 ∷ 0x00 ∷ 0x00 ∷ 0x03 ∷ 0x01 ∷ 0x00 ∷ 0x00 ∷ 0x00 ∷ 0x01 ∷ 0x00 ∷ 0x00 ∷ 0x00 ∷ 0x00 ∷ 0x00 ∷ 0x00 ∷ 0x00 ∷ 0x06 ∷ 0x00 ∷ 0x00 ∷ 0x00 ∷ 0x6F ∷ 0x73 ∷ 0x64 ∷ 0x6D ∷ 0x61 ∷ 0x70 ∷ []) ⇒ (0x11 ∷ 0x02 ∷ 0x29 ∷ 0x00 ∷ 0x00 ∷ 0x00 ∷ 0x08 ∷ 0x00 ∷ 0x12 ∷ 0x00 ∷ 0x00 ∷ 0x00 ∷ 0x08 ∷ 0x00 ∷ 0x00 ∷ 0x00 ∷ 0x00 ∷ 0x00 ∷ 0x00 ∷ 0x00 ∷ 0x00 ∷ 0x00 ∷ 0x00 ∷ 0x00 ∷ 0x00 ∷ 0x00 ∷ 0x00 ∷ 0x00 ∷ 0xD1 ∷ 0x01 ∷ 0x2E ∷ 0x8F ∷ 0x06 ∷ 0x00 ∷ 0x00 ∷ 0x00 ∷ 0x00 ∷ 0x00 ∷ 0x00 ∷ 0x00 ∷ 0x00 ∷ 0x00 ∷ 0x00 ∷ 0x00 ∷ 0x00 ∷ 0x00 ∷ 0x00 ∷ 0x00 ∷ 0x13 ∷ 0x00 ∷ 0x7F ∷ 0x00 ∷ 0x01 ∷ 0x00 ∷ 0x00 ∷ 0x00 ∷ 0x00 ∷ 0x00 ∷ 0x00 ∷ 0x00 ∷ 0x05 ∷ 0x00 ∷ 0x00 ∷ 0x00 ∷ 0x00 ∷ 0x00 ∷ 0x00 ∷ 0x00 ∷ 0x03 ∷ 0x01 ∷ 0x00 ∷ 0x00 ∷ 0x00 ∷ 0x01 ∷ 0x00 ∷ 0x00 ∷ 0x00 ∷ 0x00 ∷ 0x00 ∷ 0x00 ∷ 0x00 ∷ 0x06 ∷ 0x00 ∷ 0x00 ∷ 0x00 ∷ 0x6F ∷ 0x73 ∷ 0x64 ∷ 0x6D ∷ 0x61 ∷ 0x70 ∷ 0x00 ∷ 0x49 ∷ 0x2D ∷ 0xF8 ∷ 0x9C ∷ 0x49 ∷ 0x83 ∷ 0x21 ∷ 0xCF ∷ 0x00 ∷ 0x00 ∷ 0x00 ∷ 0x00 ∷ 0x00 ∷ 0x00 ∷ 0x00 ∷ 0x00 ∷ [])
    -- aborted, 1, 2, 0 and 1 bytes
    ∷ frame_bytes Msgr21 (header 17 4 (segment 1 8) (segment 2 8) (segment 0 0) (segment 1 4096)) true (0x61 ∷ 0x62 ∷ 0x63 ∷ 0x64 ∷ []) ⇒ (0x11 ∷ 0x04 ∷ 0x01 ∷ 0x00 ∷ 0x00 ∷ 0x00 ∷ 0x08 ∷ 0x00 ∷ 0x02 ∷ 0x00 ∷ 0x00 ∷ 0x00 ∷ 0x08 ∷ 0x00 ∷ 0x00 ∷ 0x00 ∷ 0x00 ∷ 0x00 ∷ 0x00 ∷ 0x00 ∷ 0x01 ∷ 0x00 ∷ 0x00 ∷ 0x00 ∷ 0x00 ∷ 0x10 ∷ 0x00 ∷ 0x00 ∷ 0xD2 ∷ 0x82 ∷ 0xC5 ∷ 0xC2 ∷ 0x61 ∷ 0xCF ∷ 0xBC ∷ 0x2F ∷ 0x3E ∷ 0x00 ∷ 0x00 ∷ 0x00 ∷ 0x01 ∷ 0x2D ∷ 0x88 ∷ 0x9E ∷ 0x0E ∷ 0xFF ∷ 0xFF ∷ 0xFF ∷ 0xFF ∷ 0xAE ∷ 0xAC ∷ 0x82 ∷ 0xAD ∷ [])
    -- aborted, 1, 2, 0 and 1 bytes
    ∷ frame_bytes Msgr20 (header 17 4 (segment 1 8) (segment 2 8) (segment 0 0) (segment 1 4096)) true (0x61 ∷ 0x62 ∷ 0x63 ∷ 0x64 ∷ []) ⇒ (0x11 ∷ 0x04 ∷ 0x01 ∷ 0x00 ∷ 0x00 ∷ 0x00 ∷ 0x08 ∷ 0x00 ∷ 0x02 ∷ 0x00 ∷ 0x00 ∷ 0x00 ∷ 0x08 ∷ 0x00 ∷ 0x00 ∷ 0x00 ∷ 0x00 ∷ 0x00 ∷ 0x00 ∷ 0x00 ∷ 0x01 ∷ 0x00 ∷ 0x00 ∷ 0x00 ∷ 0x00 ∷ 0x10 ∷ 0x00 ∷ 0x00 ∷ 0xD2 ∷ 0x82 ∷ 0xC5 ∷ 0xC2 ∷ 0x61 ∷ 0x00 ∷ 0x00 ∷ 0x00 ∷ 0x01 ∷ 0xCF ∷ 0xBC ∷ 0x2F ∷ 0x3E ∷ 0x2D ∷ 0x88 ∷ 0x9E ∷ 0x0E ∷ 0xFF ∷ 0xFF ∷ 0xFF ∷ 0xFF ∷ 0xAE ∷ 0xAC ∷ 0x82 ∷ 0xAD ∷ [])
    ∷ []

-- builds: queued bytes and bytes behind stay, and a refused build changes nothing
unfoldable pub buffers : List (Row Done)
buffers =
    -- our banner
    banner_done 1 1 (replicate 29 0xAA) 2 ⇒ done (wrote 26) ((0xAA ∷ 0xAA ∷ []) ++ (0x63 ∷ 0x65 ∷ 0x70 ∷ 0x68 ∷ 0x20 ∷ 0x76 ∷ 0x32 ∷ 0x0A ∷ 0x10 ∷ 0x00 ∷ 0x01 ∷ 0x00 ∷ 0x00 ∷ 0x00 ∷ 0x00 ∷ 0x00 ∷ 0x00 ∷ 0x00 ∷ 0x01 ∷ 0x00 ∷ 0x00 ∷ 0x00 ∷ 0x00 ∷ 0x00 ∷ 0x00 ∷ 0x00 ∷ []) ++ (0xAA ∷ []))
    -- no room, and own features
    ∷ banner_done 1 1 (replicate 27 0xAA) 2 ⇒ done (writes.refused_for (row 14 26 0 0)) (replicate 27 0xAA)
    ∷ banner_done 3 0 (replicate 29 0xAA) 2 ⇒ done (writes.refused_for (row 16 0 0 0)) (replicate 29 0xAA)
    -- a frame
    ∷ frame_done Msgr21 (header 16 1 (segment 0 8) (segment 0 0) (segment 0 0) (segment 0 0)) false [] (replicate 34 0xAA) 1 ⇒ done (wrote 32) ((0xAA ∷ []) ++ wait ++ (0xAA ∷ []))
    ∷ frame_done Msgr21 (header 16 1 (segment 0 8) (segment 0 0) (segment 0 0) (segment 0 0)) false [] (replicate 34 0xAA) 3 ⇒ done (writes.refused_for (row 14 32 0 0)) (replicate 34 0xAA)
    ∷ frame_done Msgr20 one true [] (replicate 34 0xAA) 3 ⇒ done (writes.refused_for (row 13 0 0 0)) (replicate 34 0xAA)
    ∷ []

-- THE CLAIM: each row of each table holds
unfoldable pub Worked : Type 0
Worked = Holds numbers × Holds revisions × Holds banners × Holds preambles × Holds headers × Holds builds × Holds ends × Holds bytes × Holds buffers
