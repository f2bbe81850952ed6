-- The bytes behind a preamble, and whole frames (000, "msgr2.0-crc mode", "msgr2.1-crc mode"; 01, "Checksums", "Bodies").
use Rattle.std.specs.Prelude.{List, [], ◌∷◌, ◌++◌, Bool, true, false, cond, ℕ, suc, ◌+◌, ◌-◌, ◌*◌, length, take, drop, replicate, leb, eqb}
use Rattle.buffer.specs.Le.{le, words}
use Rattle.crc32c.specs.Crc.{crc_of}
use Rattle.banner.specs.declared.Revision.{Revision}
use Rattle.banner.specs.declared.Revision.TheVariants.{Msgr20, Msgr21}
use Rattle.preamble.specs.declared.Header.{Header}
use Rattle.preamble.specs.Layout.{total, preamble_bytes}

-- ---- checksums of segments

-- the start value of a segment's checksum
abbrev pub segment_start : ℕ
segment_start = 0xFFFFFFFF

abbrev pub segment_sum : List ℕ → ℕ
segment_sum bytes = crc_of segment_start bytes

-- a segment's field in an epilogue: its checksum where it is used, 0 where it is not
abbrev pub field : ℕ → ℕ → List ℕ → ℕ
field count k bytes = cond (leb k count) (segment_sum bytes) 0

-- the fields of the segments from number k on
abbrev pub fields_from : ℕ → ℕ → List (List ℕ) → List ℕ
fields_from count k [] = []
fields_from count k (s ∷ ss) = field count k s ∷ fields_from count (suc k) ss

-- ---- segments

-- bytes cut into so many of each
abbrev pub cut_into : List ℕ → List ℕ → List (List ℕ)
cut_into [] p = []
cut_into (n ∷ ns) p = take n p ∷ cut_into ns (drop n p)

-- the length of segments 2 to 4, and all four segments, where `rest` has the bytes of those
abbrev pub rest_length : Header → ℕ
rest_length h = h.s2.len + h.s3.len + h.s4.len

abbrev pub segments : Header → List ℕ → List ℕ → List (List ℕ)
segments h first rest = first ∷ cut_into (h.s2.len ∷ h.s3.len ∷ h.s4.len ∷ []) rest

-- an epilogue holds the checksums of all four in msgr2.0, of segments 2 to 4 in msgr2.1: from this number on
abbrev pub epilogue_from : Revision → ℕ
epilogue_from Msgr20 = 1
epilogue_from Msgr21 = 2

abbrev pub in_epilogue : Revision → List (List ℕ) → List (List ℕ)
in_epilogue Msgr20 ss = ss
in_epilogue Msgr21 ss = drop 1 ss

-- ---- lengths

-- segment 1 has a checksum behind it only in msgr2.1, and unless it is empty
abbrev pub no_first_sum : Revision → Header → Bool
no_first_sum Msgr20 h = true
no_first_sum Msgr21 h = eqb h.s1.len 0

abbrev pub first_sum_length : Revision → Header → ℕ
first_sum_length revision h = cond (no_first_sum revision h) 0 4

-- a one-segment msgr2.1 frame has no epilogue
abbrev pub no_epilogue : Revision → Header → Bool
no_epilogue Msgr20 h = false
no_epilogue Msgr21 h = leb h.count 1

-- how many checksums an epilogue holds, up to that of the fourth segment, and its length: the late byte, and four bytes for each
abbrev pub epilogue_sums : Revision → ℕ
epilogue_sums revision = 5 - epilogue_from revision

abbrev pub epilogue_length : Revision → Header → ℕ
epilogue_length Msgr20 h = 1 + 4 * epilogue_sums Msgr20
epilogue_length Msgr21 h = cond (no_epilogue Msgr21 h) 0 (1 + 4 * epilogue_sums Msgr21)

abbrev pub body_length : Revision → Header → ℕ
body_length revision h = total h + first_sum_length revision h + epilogue_length revision h

-- with the preamble
abbrev pub wire_length : Revision → Header → ℕ
wire_length revision h = 32 + body_length revision h

-- ---- bytes

abbrev pub first_sum : Revision → Header → List ℕ → List ℕ
first_sum revision h first = cond (no_first_sum revision h) [] (le 4 (segment_sum first))

-- the late byte that we write: late_flags, or late_status
abbrev pub late_byte : Revision → Bool → ℕ
late_byte Msgr20 abort = cond abort 0x01 0x00
late_byte Msgr21 abort = cond abort 0x01 0x0E

abbrev pub epilogue : Revision → Header → ℕ → List ℕ → List ℕ → List ℕ
epilogue revision h late first rest =
    cond (no_epilogue revision h) [] (late ∷ words (fields_from h.count (epilogue_from revision) (in_epilogue revision (segments h first rest))))

-- THE BODY: segment 1, its checksum, the other segments, the epilogue
unfoldable pub body : Revision → Header → ℕ → List ℕ → List ℕ → List ℕ
body revision h late first rest = first ++ first_sum revision h first ++ rest ++ epilogue revision h late first rest

-- behind segment 1, an aborted frame carries zeros
abbrev pub rest_sent : Bool → List ℕ → List ℕ
rest_sent abort rest = cond abort (replicate (length rest) 0) rest

-- THE FRAME, whole or aborted, of segments whose bytes, one behind the other, are source
unfoldable pub frame_bytes : Revision → Header → Bool → List ℕ → List ℕ
frame_bytes revision h abort source =
    preamble_bytes h ++ body revision h (late_byte revision abort) (take h.s1.len source) (rest_sent abort (drop h.s1.len source))
