-- Layout, sending states and builds computed.
use mathlib.Core.Bool.{true, false}
use mathlib.Core.List.{List, [], ◌∷◌, ◌++◌}
use mathlib.Core.Path.{◌≡◌, refl, ap, ap₂}
use Prim.Native.Nat.{ℕ}
use lib.ListN.{replicate}
use Rattle.buffer.specs.Le.{number_at}
use Rattle.crc32c.specs.Crc.{crc_of, steps, step}
use Rattle.refusal.specs.Writes.{wrote}
use Rattle.preamble.specs.Layout.{preamble_front, preamble_bytes}
use Rattle.preamble.specs.Judge.{shape_fault, limit_fault, judge_header}
use Rattle.stream.specs.Rows.{Holds}
use Rattle.aes.specs.Aes.{key_expansion}
use Rattle.ghash.specs.Ghash.{quad_at, block_at}
use Rattle.gcm.specs.Gcm.{column_number, block_number, block_bytes, same_as}
use Rattle.secure.specs.Layout.{next_nonce, nonce_after, sealed_length, part_count, needed, first_text, last_text, later_texts, texts, Part, sealed_parts, frame_parts, sealed_frame}
use Rattle.sealed_builder.specs.Build.{done, outcome, sending_state, fresh_sending, refused_sending, agrees, sent_more, judge_earlier, judge_sealed, sealed_done}
use Rattle.secure_examples.specs.Parts.{key, nonce0, nonce1, two0, none0, two1, two2, aborted2}
use Rattle.secure_examples.specs.Examples.{seg1, seg2, two, none}
use Rattle.secure_examples.specs.Builds.{sending, nonce3, buffer, length_rows, nonce_rows, text_rows, sealed_rows, agree_rows, spend_rows, order_rows, build_rows}
use Rattle.secure_examples.proofs.Seals.{sealing, sealed_by_lem}
use Rattle.secure_examples.proofs.Rows.{held}

pub length_rows_hold : Holds length_rows
unfolding length_rows sealed_length part_count needed
length_rows_hold = refl

pub nonce_rows_hold : Holds nonce_rows
unfolding nonce_rows next_nonce number_at
nonce_rows_hold = refl

pub text_rows_hold : Holds text_rows
unfolding text_rows number_at crc_of steps step preamble_front preamble_bytes first_text last_text later_texts texts
text_rows_hold = refl

-- ---- sealed

abbrev parts_by : List Part → List ℕ
parts_by [] = []
parts_by (p ∷ ps) = sealing p.nonce p.text ++ parts_by ps

parts_by_lem : (ps : List Part) → sealed_parts (key_expansion key) ps ≡ parts_by ps
parts_by_lem [] = refl
parts_by_lem (p ∷ ps) = ap₂ ◌++◌ (sealed_by_lem p.nonce p.text) (parts_by_lem ps)

whole-frame : sealed_frame (key_expansion key) nonce0 two false (seg1 ++ seg2) ≡ two0 ++ two1 ++ two2
unfolding quad_at block_at column_number block_number block_bytes same_as number_at crc_of steps step preamble_front preamble_bytes next_nonce first_text last_text later_texts texts sealed_frame
whole-frame = parts_by_lem (frame_parts nonce0 two false (seg1 ++ seg2))

aborted-frame : sealed_frame (key_expansion key) nonce0 two true (seg1 ++ seg2) ≡ two0 ++ two1 ++ aborted2
unfolding quad_at block_at column_number block_number block_bytes same_as number_at crc_of steps step preamble_front preamble_bytes next_nonce first_text last_text later_texts texts sealed_frame
aborted-frame = parts_by_lem (frame_parts nonce0 two true (seg1 ++ seg2))

empty-frame : sealed_frame (key_expansion key) nonce0 none false [] ≡ none0
unfolding quad_at block_at column_number block_number block_bytes same_as number_at crc_of steps step preamble_front preamble_bytes next_nonce first_text last_text later_texts texts sealed_frame
empty-frame = parts_by_lem (frame_parts nonce0 none false [])

pub sealed_rows_hold : Holds sealed_rows
unfolding sealed_rows
sealed_rows_hold = held whole-frame (held aborted-frame (held empty-frame refl))

-- ---- builds

pub agree_rows_hold : Holds agree_rows
unfolding agree_rows fresh_sending refused_sending agrees
agree_rows_hold = refl

pub spend_rows_hold : Holds spend_rows
unfolding spend_rows next_nonce nonce_after number_at sent_more
spend_rows_hold = refl

pub order_rows_hold : Holds order_rows
unfolding order_rows fresh_sending refused_sending agrees shape_fault limit_fault judge_header sealed_length part_count judge_earlier judge_sealed
order_rows_hold = refl

built : sealed_done (sending 0 false false) two false (seg1 ++ seg2) buffer 2 ≡ done (wrote 176) (sending_state key nonce3 3 false false) ((0xbb ∷ 0xbb ∷ []) ++ (two0 ++ two1 ++ two2) ++ (0xbb ∷ 0xbb ∷ []))
unfolding sealed_frame next_nonce nonce_after number_at sent_more agrees shape_fault limit_fault judge_header sealed_length part_count judge_earlier judge_sealed sealed_done
built = ap (outcome (judge_sealed (sending 0 false false) two false 50 180 2) (sending 0 false false) two buffer 2) whole-frame

built-aborted : sealed_done (sending 0 false false) two true (seg1 ++ seg2) buffer 2 ≡ done (wrote 176) (sending_state key nonce3 3 false false) ((0xbb ∷ 0xbb ∷ []) ++ (two0 ++ two1 ++ aborted2) ++ (0xbb ∷ 0xbb ∷ []))
unfolding sealed_frame next_nonce nonce_after number_at sent_more agrees shape_fault limit_fault judge_header sealed_length part_count judge_earlier judge_sealed sealed_done
built-aborted = ap (outcome (judge_sealed (sending 0 false false) two true 50 180 2) (sending 0 false false) two buffer 2) aborted-frame

built-one : sealed_done (sending 0 false false) none false [] (replicate 97 0xbb) 1 ≡ done (wrote 96) (sending_state key nonce1 1 false false) (0xbb ∷ none0)
unfolding sealed_frame next_nonce nonce_after number_at sent_more agrees shape_fault limit_fault judge_header sealed_length part_count judge_earlier judge_sealed sealed_done
built-one = ap (outcome (judge_sealed (sending 0 false false) none false 0 97 1) (sending 0 false false) none (replicate 97 0xbb) 1) empty-frame

pub build_rows_hold : Holds build_rows
unfolding build_rows agrees shape_fault limit_fault judge_header sealed_length part_count judge_earlier judge_sealed sealed_done
build_rows_hold = held built (held refl (held refl (held refl (held built-aborted (held built-one refl)))))
