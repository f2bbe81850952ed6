-- Streams of sealed frames, read from byte 58 on: worked examples, each a table.
use Rattle.std.specs.Prelude.{List, [], ◌∷◌, ◌++◌, ℕ, length, take, drop, set, replicate}
use Rattle.refusal.specs.Refusals.{Judged, fine, refused, row}
use Rattle.banner.specs.declared.Revision.TheVariants.{Msgr21}
use Rattle.preamble.specs.declared.Header.{Header}
use Rattle.body.specs.End.{Ended, refused_for}
use Rattle.stream.specs.declared.Event.TheVariants.{Banner}
use Rattle.stream.specs.Stream.{Entry, entry, Trace}
use Rattle.stream.specs.Rows.{Row, ◌⇒◌, features, segment, header, frame_at, drop_at, refusal_at}
use Rattle.secure.specs.Reading.{judge_first, last_ended, sealed_trace}
use Rattle.connection.specs.Switched.{behind, trace_with}
use Rattle.secure_examples.specs.Parts.{key, nonce0, two0, none0, none0_text, sum_and_shape0, shape_and_flags0, flags_and_tag0, tag_and_limit0, limit_and_store0, padded0, full0, full0_text, blocks0, two1, padded1, blocks1, blocks1_text, full1, full1_text, late1, none1, two2, aborted2, high2, high_aborted2, late_and_padding2, padding_and_drop2, padded2, single0, one0, first1}

-- ---- what the rows are made of

abbrev pub zeros : ℕ → List ℕ
zeros n = replicate n 0

-- the segments of the frame 49+1, and the headers of the frames
abbrev pub seg1 : List ℕ
seg1 = 0x01 ∷ 0x08 ∷ 0x0f ∷ 0x16 ∷ 0x1d ∷ 0x24 ∷ 0x2b ∷ 0x32 ∷ 0x39 ∷ 0x40 ∷ 0x47 ∷ 0x4e ∷ 0x55 ∷ 0x5c ∷ 0x63 ∷ 0x6a
    ∷ 0x71 ∷ 0x78 ∷ 0x7f ∷ 0x86 ∷ 0x8d ∷ 0x94 ∷ 0x9b ∷ 0xa2 ∷ 0xa9 ∷ 0xb0 ∷ 0xb7 ∷ 0xbe ∷ 0xc5 ∷ 0xcc ∷ 0xd3 ∷ 0xda
    ∷ 0xe1 ∷ 0xe8 ∷ 0xef ∷ 0xf6 ∷ 0xfd ∷ 0x04 ∷ 0x0b ∷ 0x12 ∷ 0x19 ∷ 0x20 ∷ 0x27 ∷ 0x2e ∷ 0x35 ∷ 0x3c ∷ 0x43 ∷ 0x4a
    ∷ 0x51 ∷ []

abbrev pub seg2 : List ℕ
seg2 = 0x5a ∷ []

abbrev pub two : Header
two = header 17 2 (segment 49 8) (segment 1 8) (segment 0 0) (segment 0 0)

abbrev pub single : Header
single = header 17 1 (segment 49 8) (segment 0 0) (segment 0 0) (segment 0 0)

abbrev pub one : Header
one = header 17 1 (segment 1 8) (segment 0 0) (segment 0 0) (segment 0 0)

abbrev pub none : Header
none = header 16 1 (segment 0 8) (segment 0 0) (segment 0 0) (segment 0 0)

-- a frame of four segments, none empty, and theirs one behind the other
abbrev pub full : Header
full = header 17 4 (segment 2 8) (segment 1 8) (segment 17 8) (segment 3 8)

abbrev pub full_segments : List ℕ
full_segments = 0x61 ∷ 0x62 ∷ 0x63
    ∷ 0x70 ∷ 0x71 ∷ 0x72 ∷ 0x73 ∷ 0x74 ∷ 0x75 ∷ 0x76 ∷ 0x77 ∷ 0x78 ∷ 0x79 ∷ 0x7a ∷ 0x7b ∷ 0x7c ∷ 0x7d ∷ 0x7e ∷ 0x7f ∷ 0x80
    ∷ 0x81 ∷ 0x82 ∷ 0x83 ∷ []

-- segment 1 of the frame 64+1: its rest is a whole block
abbrev pub seg64 : List ℕ
seg64 = take 48 seg1 ++ blocks1_text

-- a store, two bytes longer than the frames 49+1 and 2+1+17+3 need, and with bytes at its front
abbrev pub store : List ℕ
store = replicate 114 0xaa

abbrev pub front : List ℕ → List ℕ
front bytes = bytes ++ drop (length bytes) store

-- a stream from byte 58 on, as behind our banner and a frame of 32 bytes; so many parts were opened before it
abbrev pub reading : ℕ → List ℕ → List ℕ → List Entry → List ℕ → Row Trace
reading n stream store entries final = sealed_trace key nonce0 n 58 stream store ⇒ record { entries = entries; store = final }

-- ---- streams

-- frames and drops
unfoldable pub frame_rows : List (Row Trace)
frame_rows =
    -- three parts; the segments at the front, zeros behind them in what is needed
    reading 0 (two0 ++ two1 ++ two2) store (frame_at 234 two (front (seg1 ++ seg2 ++ zeros 62)) ∷ []) (front (seg1 ++ seg2 ++ zeros 62))
    -- two frames of one part each: the next nonce, whose counter has wrapped
    ∷ reading 0 (none0 ++ none1) store (frame_at 154 none (front (zeros 32)) ∷ frame_at 250 none (front (zeros 32)) ∷ []) (front (zeros 32))
    -- an aborted frame
    ∷ reading 0 (two0 ++ two1 ++ aborted2) store (drop_at 234 two (front (zeros 112)) ∷ []) (front (zeros 112))
    -- only the low four bits of late_status are read
    ∷ reading 0 (two0 ++ two1 ++ high2) store (frame_at 234 two (front (seg1 ++ seg2 ++ zeros 62)) ∷ []) (front (seg1 ++ seg2 ++ zeros 62))
    -- and aborted
    ∷ reading 0 (two0 ++ two1 ++ high_aborted2) store (drop_at 234 two (front (zeros 112)) ∷ []) (front (zeros 112))
    -- the last nonces of all
    ∷ reading 18446744073709551613 (two0 ++ two1 ++ two2) store (frame_at 234 two (front (seg1 ++ seg2 ++ zeros 62)) ∷ []) (front (seg1 ++ seg2 ++ zeros 62))
    -- a store with no byte to spare
    ∷ reading 0 (two0 ++ two1 ++ two2) (take 112 store) (frame_at 234 two (take 112 (front (seg1 ++ seg2 ++ zeros 62))) ∷ []) (take 112 (front (seg1 ++ seg2 ++ zeros 62)))
    -- two parts, with padding behind each of segments 2 to 4: the segments one behind the other
    ∷ reading 0 (full0 ++ full1) store (frame_at 250 full (front (full_segments ++ zeros 89)) ∷ []) (front (full_segments ++ zeros 89))
    -- one segment, in one part and in two: zeros behind it in what is needed
    ∷ reading 0 one0 store (frame_at 154 one (front (0x61 ∷ zeros 47)) ∷ []) (front (0x61 ∷ zeros 47))
    ∷ reading 0 (single0 ++ two1) store (frame_at 186 single (front (seg1 ++ zeros 47)) ∷ []) (front (seg1 ++ zeros 47))
    -- a frame of one part uses one nonce: the last two of all
    ∷ reading 18446744073709551614 (none0 ++ none1) store (frame_at 154 none (front (zeros 32)) ∷ frame_at 250 none (front (zeros 32)) ∷ []) (front (zeros 32))
    ∷ []

-- byte 96: 18, 17, 5, 6, 7, 8, 9, 10, 19. A row with two numbers has both faults at once: the order decides
unfoldable pub first_rows : List (Row Trace)
first_rows =
    -- 18 and 17
    reading 18446744073709551616 ((set two0 95 0xf8)) store (refusal_at 154 18 0 (store) ∷ []) (store)
    -- 17 and 5
    ∷ reading 0 ((set sum_and_shape0 95 0xf5)) store (refusal_at 154 17 0 (store) ∷ []) (store)
    -- 17, with parts behind it
    ∷ reading 18446744073709551615 ((set two0 95 0xf8) ++ two1 ++ two2) store (refusal_at 154 17 0 (store) ∷ []) (store)
    -- 5 and 6
    ∷ reading 0 (sum_and_shape0) store (refusal_at 154 5 28 (store) ∷ []) (store)
    -- 6 and 7
    ∷ reading 0 (shape_and_flags0) store (refusal_at 154 6 1 (store) ∷ []) (store)
    -- 7 and 8
    ∷ reading 0 (flags_and_tag0) store (refusal_at 154 7 27 (store) ∷ []) (store)
    -- 8 and 9
    ∷ reading 0 (tag_and_limit0) store (refusal_at 154 8 21 (store) ∷ []) (store)
    -- 9 and 10
    ∷ reading 0 (limit_and_store0) store (refusal_at 154 9 2 (store) ∷ []) (store)
    -- 10 and 19
    ∷ reading 0 (padded0) (take 47 store) (refusal_at 154 10 48 (take 47 store) ∷ []) (take 47 store)
    -- 19
    ∷ reading 0 (padded0) store (refusal_at 154 19 0 (store) ∷ []) (store)
    -- 10: the last byte of what is needed is missing
    ∷ reading 0 (two0 ++ two1) (take 111 store) (refusal_at 154 10 112 (take 111 store) ∷ []) (take 111 store)
    -- 18 behind an aborted frame, whose three nonces were the last
    ∷ reading 18446744073709551613 (two0 ++ two1 ++ aborted2 ++ none1) store (drop_at 234 two (front (zeros 112)) ∷ refusal_at 330 18 0 (front (zeros 112)) ∷ []) (front (zeros 112))
    -- and behind a frame of one segment in two parts: the store stays as that frame left it
    ∷ reading 18446744073709551614 (single0 ++ two1 ++ none1) store (frame_at 186 single (front (seg1 ++ zeros 47)) ∷ refusal_at 282 18 0 (front (seg1 ++ zeros 47)) ∷ []) (front (seg1 ++ zeros 47))
    ∷ []

-- the same judgements by themselves: all of the inline buffer behind segment 1 is padding, of an empty segment too; an empty frame needs 32 bytes; byte 26
abbrev pub flags0_text : List ℕ
flags0_text = set (set (set (set (set none0_text 26 0x01) 28 0xbf) 29 0x7b) 30 0x08) 31 0xa3

unfoldable pub judge_rows : List (Row Judged)
judge_rows =
    judge_first none0_text 32 ⇒ fine
    ∷ judge_first none0_text 31 ⇒ refused (row 10 32 0 0)
    ∷ judge_first flags0_text 114 ⇒ refused (row 7 26 0 0)
    ∷ judge_first (set none0_text 79 1) 114 ⇒ refused (row 19 0 0 0)
    ∷ judge_first (set full0_text 34 1) 114 ⇒ refused (row 19 0 0 0)
    ∷ []

-- the first and the last byte of each padding of a last part, in a complete frame and in an aborted one
abbrev pub padded : List ℕ → List ℕ → List (Row Ended)
padded text [] = []
padded text (i ∷ is) = last_ended full (set text i 1) ⇒ refused_for (row 19 0 0 0) ∷ padded text is

abbrev pub paddings : List ℕ
paddings = 1 ∷ 15 ∷ 33 ∷ 47 ∷ 51 ∷ 63 ∷ 65 ∷ 79 ∷ []

unfoldable pub padding_rows : List (Row Ended)
padding_rows = padded full1_text paddings ++ padded (set full1_text 64 1) paddings

-- the rest of segment 1: 18, 17, 19; the last part: 18, 17, 12, 19, drop
unfoldable pub later_rows : List (Row Trace)
later_rows =
    -- the rest of segment 1: 18 and 17
    reading 18446744073709551615 (two0 ++ (set two1 31 0x18)) store (refusal_at 186 18 0 (front (zeros 112)) ∷ []) (front (zeros 112))
    -- 17 and 19
    ∷ reading 0 (two0 ++ (set padded1 31 0x4a)) store (refusal_at 186 17 0 (front (zeros 112)) ∷ []) (front (zeros 112))
    -- 19
    ∷ reading 0 (two0 ++ padded1) store (refusal_at 186 19 0 (front (zeros 112)) ∷ []) (front (zeros 112))
    -- its first padding byte
    ∷ reading 0 (two0 ++ first1) store (refusal_at 186 19 0 (front (zeros 112)) ∷ []) (front (zeros 112))
    -- where no part follows
    ∷ reading 0 (single0 ++ padded1) store (refusal_at 186 19 0 (front (zeros 96)) ∷ []) (front (zeros 96))
    -- the last part: 18 and 17
    ∷ reading 18446744073709551614 (two0 ++ two1 ++ (set two2 47 0x7f)) store (refusal_at 234 18 0 (front (zeros 112)) ∷ []) (front (zeros 112))
    -- 17 and 12
    ∷ reading 0 (two0 ++ two1 ++ (set late_and_padding2 47 0x21)) store (refusal_at 234 17 0 (front (zeros 112)) ∷ []) (front (zeros 112))
    -- 12 and 19
    ∷ reading 0 (two0 ++ two1 ++ late_and_padding2) store (refusal_at 234 12 15 (front (zeros 112)) ∷ []) (front (zeros 112))
    -- 19 and a drop
    ∷ reading 0 (two0 ++ two1 ++ padding_and_drop2) store (refusal_at 234 19 0 (front (zeros 112)) ∷ []) (front (zeros 112))
    -- 19 behind a segment, although the frame is complete
    ∷ reading 0 (two0 ++ two1 ++ padded2) store (refusal_at 234 19 0 (front (zeros 112)) ∷ []) (front (zeros 112))
    -- 12 behind three segments: the detail is the whole byte
    ∷ reading 0 (full0 ++ late1) store (refusal_at 250 12 31 (front (zeros 112)) ∷ []) (front (zeros 112))
    ∷ []

-- streams that end before a judgement
unfoldable pub cut_rows : List (Row Trace)
cut_rows =
    -- one byte before the first judgement: nothing is in the store
    reading 0 (take 95 two0) store ([]) (store)
    -- the inline bytes, opened, and nothing else
    ∷ reading 0 (two0) store ([]) (front (take 48 seg1))
    -- sealed bytes of the rest of segment 1 behind them
    ∷ reading 0 (two0 ++ take 31 two1) store ([]) (front (take 48 seg1 ++ take 31 two1))
    -- segment 1, opened, and zeros to its part's end
    ∷ reading 0 (two0 ++ two1) store ([]) (front (seg1 ++ zeros 31))
    -- sealed bytes of the last part from the end of segment 1 on
    ∷ reading 0 (two0 ++ two1 ++ take 5 two2) store ([]) (front (seg1 ++ take 5 two2 ++ zeros 26))
    -- all but one
    ∷ reading 0 (two0 ++ two1 ++ take 47 two2) store ([]) (front (seg1 ++ take 47 two2))
    -- a frame, and a part of the next one
    ∷ reading 0 (none0 ++ take 95 none1) store (frame_at 154 none (front (zeros 32)) ∷ []) (front (zeros 32))
    -- a short segment 1, opened, and nothing else
    ∷ reading 0 (full0) store ([]) (front (take 2 full_segments))
    -- sealed bytes of the last part right behind it
    ∷ reading 0 (full0 ++ take 5 full1) store ([]) (front (take 2 full_segments ++ take 5 full1))
    -- a segment 1 that needs no padding, and zeros in the tag's place
    ∷ reading 0 (blocks0 ++ blocks1) store ([]) (front (seg64 ++ zeros 16))
    ∷ []

-- ---- a stream from its first byte on

-- the peer's banner and an empty frame of msgr2.1-crc
abbrev pub clear : List ℕ
clear = (0x63 ∷ 0x65 ∷ 0x70 ∷ 0x68 ∷ 0x20 ∷ 0x76 ∷ 0x32 ∷ 0x0a ∷ 0x10 ∷ 0x00 ∷ 0x01 ∷ zeros 15) ++ take 32 none0_text

abbrev pub banner_entry : Entry
banner_entry = entry (Banner (features 1 0) Msgr21) 26 store

-- the switch behind that frame, and a sealed one
unfoldable pub switched_rows : List (Row Trace)
switched_rows =
    trace_with (behind 1 key nonce0) (features 1 0) (clear ++ none0) store
    ⇒ record { entries = banner_entry ∷ frame_at 58 none store ∷ frame_at 154 none (front (zeros 32)) ∷ []; store = front (zeros 32) }
    ∷ []
