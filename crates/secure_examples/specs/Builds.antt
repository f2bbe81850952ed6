-- Layout, sending states and builds: worked examples, each a table.
use Rattle.std.specs.Prelude.{Bool, true, false, List, [], ◌∷◌, ◌++◌, ℕ, take, replicate}
use Rattle.refusal.specs.Refusals.{Judged, fine, refused, row}
use Rattle.refusal.specs.Writes.{wrote, refused_for}
use Rattle.preamble.specs.declared.Header.{Header}
use Rattle.stream.specs.Rows.{Row, ◌⇒◌, segment, header, sized}
use Rattle.aes.specs.Aes.{key_expansion}
use Rattle.secure.specs.Layout.{next_nonce, sealed_length, part_count, needed, texts, sealed_frame}
use Rattle.sealed_builder.specs.declared.Sending.{Sending}
use Rattle.sealed_builder.specs.Build.{Done, done, sending_state, fresh_sending, refused_sending, agrees, sent_more, judge_sealed, sealed_done}
use Rattle.secure_examples.specs.Parts.{key, nonce0, nonce1, nonce2, two0, none0, blocks1_text, two1, two2, aborted2}
use Rattle.secure_examples.specs.Examples.{zeros, seg1, seg2, seg64, two, none}

-- on the wire (000's examples; 02: 0+0+0+0 is 96, 105+70+0+350 is 640), in parts, and in the store
unfoldable pub length_rows : List (Row ℕ)
length_rows =
    sealed_length (sized 1 0 0 0 0) ⇒ 96
    ∷ sealed_length (sized 1 20 0 0 0) ⇒ 96
    ∷ sealed_length (sized 1 48 0 0 0) ⇒ 96
    ∷ sealed_length (sized 1 49 0 0 0) ⇒ 128
    ∷ sealed_length (sized 1 64 0 0 0) ⇒ 128
    ∷ sealed_length (sized 1 65 0 0 0) ⇒ 144
    ∷ sealed_length (sized 2 0 70 0 0) ⇒ 208
    ∷ sealed_length (sized 4 20 70 0 350) ⇒ 560
    ∷ sealed_length (sized 1 105 0 0 0) ⇒ 176
    ∷ sealed_length (sized 4 105 70 0 350) ⇒ 640
    ∷ sealed_length (sized 4 1 17 33 49) ⇒ 272
    ∷ part_count (sized 1 0 0 0 0) ⇒ 1
    ∷ part_count (sized 1 48 0 0 0) ⇒ 1
    ∷ part_count (sized 1 49 0 0 0) ⇒ 2
    ∷ part_count (sized 2 0 70 0 0) ⇒ 2
    ∷ part_count (sized 4 105 70 0 350) ⇒ 3
    ∷ needed (sized 1 0 0 0 0) ⇒ 32
    ∷ needed (sized 1 16 0 0 0) ⇒ 48
    ∷ needed (sized 1 17 0 0 0) ⇒ 64
    ∷ needed (sized 1 48 0 0 0) ⇒ 80
    ∷ needed (sized 2 0 70 0 0) ⇒ 112
    ∷ needed (sized 4 105 70 0 350) ⇒ 576
    ∷ needed (sized 4 1 17 33 49) ⇒ 192
    ∷ []

-- the counter is little-endian and wraps; the first four bytes stay
unfoldable pub nonce_rows : List (Row (List ℕ))
nonce_rows =
    next_nonce nonce0 ⇒ nonce1
    ∷ next_nonce nonce1 ⇒ nonce2
    ∷ next_nonce (0x00 ∷ 0x00 ∷ 0x00 ∷ 0x00 ∷ 0xff ∷ 0x02 ∷ 0x00 ∷ 0x00 ∷ 0x00 ∷ 0x00 ∷ 0x00 ∷ 0x80 ∷ []) ⇒ (0x00 ∷ 0x00 ∷ 0x00 ∷ 0x00 ∷ 0x00 ∷ 0x03 ∷ 0x00 ∷ 0x00 ∷ 0x00 ∷ 0x00 ∷ 0x00 ∷ 0x80 ∷ [])
    ∷ []

-- each segment is padded by itself, an empty one with nothing; behind them the epilogue. Of an aborted frame only segment 1 is as given
abbrev pub four : Header
four = header 17 4 (segment 2 8) (segment 1 8) (segment 0 8) (segment 17 8)

unfoldable pub text_rows : List (Row (List (List ℕ)))
text_rows =
    texts four false (0x61 ∷ 0x62 ∷ 0x63 ∷ 0x70 ∷ 0x71 ∷ 0x72 ∷ 0x73 ∷ 0x74 ∷ 0x75 ∷ 0x76 ∷ 0x77 ∷ 0x78 ∷ 0x79 ∷ 0x7a ∷ 0x7b ∷ 0x7c
    ∷ 0x7d ∷ 0x7e ∷ 0x7f ∷ 0x80 ∷ [])
    ⇒ ((0x11 ∷ 0x04 ∷ 0x02 ∷ 0x00 ∷ 0x00 ∷ 0x00 ∷ 0x08 ∷ 0x00 ∷ 0x01 ∷ 0x00 ∷ 0x00 ∷ 0x00 ∷ 0x08 ∷ 0x00 ∷ 0x00 ∷ 0x00
    ∷ 0x00 ∷ 0x00 ∷ 0x08 ∷ 0x00 ∷ 0x11 ∷ 0x00 ∷ 0x00 ∷ 0x00 ∷ 0x08 ∷ 0x00 ∷ 0x00 ∷ 0x00 ∷ 0xd2 ∷ 0xea ∷ 0xb8 ∷ 0xa9
    ∷ 0x61 ∷ 0x62 ∷ 0x00 ∷ 0x00 ∷ 0x00 ∷ 0x00 ∷ 0x00 ∷ 0x00 ∷ 0x00 ∷ 0x00 ∷ 0x00 ∷ 0x00 ∷ 0x00 ∷ 0x00 ∷ 0x00 ∷ 0x00
    ∷ 0x00 ∷ 0x00 ∷ 0x00 ∷ 0x00 ∷ 0x00 ∷ 0x00 ∷ 0x00 ∷ 0x00 ∷ 0x00 ∷ 0x00 ∷ 0x00 ∷ 0x00 ∷ 0x00 ∷ 0x00 ∷ 0x00 ∷ 0x00
    ∷ 0x00 ∷ 0x00 ∷ 0x00 ∷ 0x00 ∷ 0x00 ∷ 0x00 ∷ 0x00 ∷ 0x00 ∷ 0x00 ∷ 0x00 ∷ 0x00 ∷ 0x00 ∷ 0x00 ∷ 0x00 ∷ 0x00 ∷ 0x00 ∷ [])
    ∷ (0x63 ∷ 0x00 ∷ 0x00 ∷ 0x00 ∷ 0x00 ∷ 0x00 ∷ 0x00 ∷ 0x00 ∷ 0x00 ∷ 0x00 ∷ 0x00 ∷ 0x00 ∷ 0x00 ∷ 0x00 ∷ 0x00 ∷ 0x00
    ∷ 0x70 ∷ 0x71 ∷ 0x72 ∷ 0x73 ∷ 0x74 ∷ 0x75 ∷ 0x76 ∷ 0x77 ∷ 0x78 ∷ 0x79 ∷ 0x7a ∷ 0x7b ∷ 0x7c ∷ 0x7d ∷ 0x7e ∷ 0x7f
    ∷ 0x80 ∷ 0x00 ∷ 0x00 ∷ 0x00 ∷ 0x00 ∷ 0x00 ∷ 0x00 ∷ 0x00 ∷ 0x00 ∷ 0x00 ∷ 0x00 ∷ 0x00 ∷ 0x00 ∷ 0x00 ∷ 0x00 ∷ 0x00
    ∷ 0x0e ∷ 0x00 ∷ 0x00 ∷ 0x00 ∷ 0x00 ∷ 0x00 ∷ 0x00 ∷ 0x00 ∷ 0x00 ∷ 0x00 ∷ 0x00 ∷ 0x00 ∷ 0x00 ∷ 0x00 ∷ 0x00 ∷ 0x00 ∷ [])
    ∷ [])
    ∷ texts four true (0x61 ∷ 0x62 ∷ 0x63 ∷ 0x70 ∷ 0x71 ∷ 0x72 ∷ 0x73 ∷ 0x74 ∷ 0x75 ∷ 0x76 ∷ 0x77 ∷ 0x78 ∷ 0x79 ∷ 0x7a ∷ 0x7b ∷ 0x7c
    ∷ 0x7d ∷ 0x7e ∷ 0x7f ∷ 0x80 ∷ [])
    ⇒ ((0x11 ∷ 0x04 ∷ 0x02 ∷ 0x00 ∷ 0x00 ∷ 0x00 ∷ 0x08 ∷ 0x00 ∷ 0x01 ∷ 0x00 ∷ 0x00 ∷ 0x00 ∷ 0x08 ∷ 0x00 ∷ 0x00 ∷ 0x00
    ∷ 0x00 ∷ 0x00 ∷ 0x08 ∷ 0x00 ∷ 0x11 ∷ 0x00 ∷ 0x00 ∷ 0x00 ∷ 0x08 ∷ 0x00 ∷ 0x00 ∷ 0x00 ∷ 0xd2 ∷ 0xea ∷ 0xb8 ∷ 0xa9
    ∷ 0x61 ∷ 0x62 ∷ 0x00 ∷ 0x00 ∷ 0x00 ∷ 0x00 ∷ 0x00 ∷ 0x00 ∷ 0x00 ∷ 0x00 ∷ 0x00 ∷ 0x00 ∷ 0x00 ∷ 0x00 ∷ 0x00 ∷ 0x00
    ∷ 0x00 ∷ 0x00 ∷ 0x00 ∷ 0x00 ∷ 0x00 ∷ 0x00 ∷ 0x00 ∷ 0x00 ∷ 0x00 ∷ 0x00 ∷ 0x00 ∷ 0x00 ∷ 0x00 ∷ 0x00 ∷ 0x00 ∷ 0x00
    ∷ 0x00 ∷ 0x00 ∷ 0x00 ∷ 0x00 ∷ 0x00 ∷ 0x00 ∷ 0x00 ∷ 0x00 ∷ 0x00 ∷ 0x00 ∷ 0x00 ∷ 0x00 ∷ 0x00 ∷ 0x00 ∷ 0x00 ∷ 0x00 ∷ [])
    ∷ (0x00 ∷ 0x00 ∷ 0x00 ∷ 0x00 ∷ 0x00 ∷ 0x00 ∷ 0x00 ∷ 0x00 ∷ 0x00 ∷ 0x00 ∷ 0x00 ∷ 0x00 ∷ 0x00 ∷ 0x00 ∷ 0x00 ∷ 0x00
    ∷ 0x00 ∷ 0x00 ∷ 0x00 ∷ 0x00 ∷ 0x00 ∷ 0x00 ∷ 0x00 ∷ 0x00 ∷ 0x00 ∷ 0x00 ∷ 0x00 ∷ 0x00 ∷ 0x00 ∷ 0x00 ∷ 0x00 ∷ 0x00
    ∷ 0x00 ∷ 0x00 ∷ 0x00 ∷ 0x00 ∷ 0x00 ∷ 0x00 ∷ 0x00 ∷ 0x00 ∷ 0x00 ∷ 0x00 ∷ 0x00 ∷ 0x00 ∷ 0x00 ∷ 0x00 ∷ 0x00 ∷ 0x00
    ∷ 0x01 ∷ 0x00 ∷ 0x00 ∷ 0x00 ∷ 0x00 ∷ 0x00 ∷ 0x00 ∷ 0x00 ∷ 0x00 ∷ 0x00 ∷ 0x00 ∷ 0x00 ∷ 0x00 ∷ 0x00 ∷ 0x00 ∷ 0x00 ∷ [])
    ∷ [])
    -- one segment of 64 bytes: what did not go in is a whole block, and gets no padding
    ∷ texts (header 17 1 (segment 64 8) (segment 0 0) (segment 0 0) (segment 0 0)) false seg64
    ⇒ (((0x11 ∷ 0x01 ∷ 0x40 ∷ 0x00 ∷ 0x00 ∷ 0x00 ∷ 0x08 ∷ 0x00 ∷ 0x00 ∷ 0x00 ∷ 0x00 ∷ 0x00 ∷ 0x00 ∷ 0x00 ∷ 0x00 ∷ 0x00
    ∷ 0x00 ∷ 0x00 ∷ 0x00 ∷ 0x00 ∷ 0x00 ∷ 0x00 ∷ 0x00 ∷ 0x00 ∷ 0x00 ∷ 0x00 ∷ 0x00 ∷ 0x00 ∷ 0xa7 ∷ 0x47 ∷ 0x49 ∷ 0x58 ∷ []) ++ take 48 seg1) ∷ blocks1_text ∷ [])
    ∷ []

-- sealed, as another implementation seals them
unfoldable pub sealed_rows : List (Row (List ℕ))
sealed_rows =
    sealed_frame (key_expansion key) nonce0 two false (seg1 ++ seg2) ⇒ (two0 ++ two1 ++ two2)
    ∷ sealed_frame (key_expansion key) nonce0 two true (seg1 ++ seg2) ⇒ (two0 ++ two1 ++ aborted2)
    ∷ sealed_frame (key_expansion key) nonce0 none false [] ⇒ none0
    ∷ []

-- ---- sending states

abbrev pub sending : ℕ → Bool → Bool → Sending
sending spent exhausted mark = sending_state key nonce0 spent exhausted mark

abbrev pub nonce3 : List ℕ
nonce3 = 0xa0 ∷ 0xa1 ∷ 0xa2 ∷ 0xa3 ∷ 0x02 ∷ 0x00 ∷ 0x00 ∷ 0x00 ∷ 0x00 ∷ 0x00 ∷ 0x00 ∷ 0x00 ∷ []

unfoldable pub agree_rows : List (Row Bool)
agree_rows =
    agrees (fresh_sending key nonce0) ⇒ true
    ∷ agrees refused_sending ⇒ true
    ∷ agrees (sending 0 true false) ⇒ true
    ∷ agrees (sending 1 true false) ⇒ false
    ∷ agrees (sending 0 false true) ⇒ false
    ∷ agrees (sending_state (zeros 16) nonce0 0 false true) ⇒ false
    ∷ agrees (sending_state (zeros 16) (zeros 12) 1 false true) ⇒ false
    ∷ agrees (sending_state (zeros 16) (zeros 12) 0 true true) ⇒ false
    ∷ []

unfoldable pub spend_rows : List (Row Sending)
spend_rows =
    sent_more (sending 0 false false) 3 ⇒ sending_state key nonce3 3 false false
    -- the last three of all
    ∷ sent_more (sending 18446744073709551613 false false) 3 ⇒ sending_state key nonce3 0 true false
    -- the last two, and the last one
    ∷ sent_more (sending 18446744073709551614 false false) 2 ⇒ sending_state key nonce2 0 true false
    ∷ sent_more (sending 18446744073709551615 false false) 1 ⇒ sending_state key nonce1 0 true false
    ∷ []

-- ---- the builder's order: 26, 27, 6, 8, 9, 13, 15, 14, 18. A row with two numbers has both faults at once

abbrev pub is : ℕ → ℕ → Judged
is number detail = refused (row number detail 0 0)

unfoldable pub order_rows : List (Row Judged)
order_rows =
    judge_sealed (sending 0 false false) two false 50 176 0 ⇒ fine
    -- 26
    ∷ judge_sealed (sending 1 true false) two false 50 176 0 ⇒ is 26 0
    -- 26 and 27
    ∷ judge_sealed (sending 0 false true) two false 50 176 0 ⇒ is 26 0
    -- 27 and 6
    ∷ judge_sealed refused_sending (sized 0 0 0 0 0) false 0 96 0 ⇒ is 27 0
    -- 6 and 8
    ∷ judge_sealed (sending 0 false false) (header 21 0 (segment 0 0) (segment 0 0) (segment 0 0) (segment 0 0)) false 0 96 0 ⇒ is 6 1
    -- 8 and 9
    ∷ judge_sealed (sending 0 false false) (header 21 1 (segment 1048577 0) (segment 0 0) (segment 0 0) (segment 0 0)) false 1048577 2000000 0 ⇒ is 8 21
    -- 9 and 13
    ∷ judge_sealed (sending 0 false false) (sized 1 1048577 0 0 0) false 0 2000000 0 ⇒ is 9 2
    -- 13 and 15
    ∷ judge_sealed (sending 0 false false) none true 1 96 0 ⇒ is 13 0
    -- 15 and 14
    ∷ judge_sealed (sending 0 false false) none true 0 95 0 ⇒ is 15 0
    -- 14 and 18
    ∷ judge_sealed (sending 0 true false) two false 50 175 0 ⇒ is 14 176
    -- 14, by what is queued
    ∷ judge_sealed (sending 0 false false) two false 50 176 1 ⇒ is 14 176
    -- 18: three nonces are needed and two are left, or none
    ∷ judge_sealed (sending 18446744073709551614 false false) two false 50 176 0 ⇒ is 18 0
    ∷ judge_sealed (sending 0 true false) none false 0 96 0 ⇒ is 18 0
    -- two are needed and one is left
    ∷ judge_sealed (sending 18446744073709551615 false false) (sized 1 49 0 0 0) false 49 128 0 ⇒ is 18 0
    -- just enough, for three parts, two and one
    ∷ judge_sealed (sending 18446744073709551613 false false) two false 50 176 0 ⇒ fine
    ∷ judge_sealed (sending 18446744073709551614 false false) (sized 1 49 0 0 0) false 49 128 0 ⇒ fine
    ∷ judge_sealed (sending 18446744073709551615 false false) none false 0 96 0 ⇒ fine
    ∷ []

-- ---- builds: behind two queued bytes, and refused

abbrev pub buffer : List ℕ
buffer = replicate 180 0xbb

unfoldable pub build_rows : List (Row Done)
build_rows =
    sealed_done (sending 0 false false) two false (seg1 ++ seg2) buffer 2
    ⇒ done (wrote 176) (sending_state key nonce3 3 false false) ((0xbb ∷ 0xbb ∷ []) ++ (two0 ++ two1 ++ two2) ++ (0xbb ∷ 0xbb ∷ []))
    ∷ sealed_done (sending 18446744073709551614 false false) two false (seg1 ++ seg2) buffer 2
    ⇒ done (refused_for (row 18 0 0 0)) (sending 18446744073709551614 false false) buffer
    -- 13 and 14
    ∷ sealed_done (sending 0 false false) two false seg1 buffer 0 ⇒ done (refused_for (row 13 0 0 0)) (sending 0 false false) buffer
    ∷ sealed_done (sending 0 false false) two false (seg1 ++ seg2) (replicate 175 0xbb) 0
    ⇒ done (refused_for (row 14 176 0 0)) (sending 0 false false) (replicate 175 0xbb)
    -- aborted
    ∷ sealed_done (sending 0 false false) two true (seg1 ++ seg2) buffer 2
    ⇒ done (wrote 176) (sending_state key nonce3 3 false false) ((0xbb ∷ 0xbb ∷ []) ++ (two0 ++ two1 ++ aborted2) ++ (0xbb ∷ 0xbb ∷ []))
    -- one part, up to the buffer's end
    ∷ sealed_done (sending 0 false false) none false [] (replicate 97 0xbb) 1
    ⇒ done (wrote 96) (sending_state key nonce1 1 false false) (0xbb ∷ none0)
    ∷ []
