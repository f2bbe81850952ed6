-- Streams of sealed frames read, each part opened by blocks that are looked up.
use mathlib.Core.List.{List, [], ◌∷◌, ◌++◌}
use mathlib.Core.Path.{◌≡◌, refl, ap, ap₂, ◌∙◌}
use mathlib.Core.Bool.{cond}
use Prim.Native.Nat.{ℕ, zero, suc, ◌+◌, ◌-◌}
use lib.Dec.{ltb}
use lib.ListN.{length, take, drop, set, replicate}
use Rattle.buffer.specs.Splice.{replace_front, splice}
use Rattle.buffer.specs.Le.{number_at}
use Rattle.crc32c.specs.Crc.{crc_of, steps, step}
use Rattle.preamble.specs.declared.Header.{Header}
use Rattle.preamble.specs.Judge.{shape_fault, limit_fault, header_of}
use Rattle.body.specs.End.{whole}
use Rattle.stream.specs.Stream.{Trace, ended, unless_refused}
use Rattle.stream.specs.Rows.{Holds}
use Rattle.aes.specs.Aes.{key_expansion}
use Rattle.ghash.specs.Ghash.{quad_at, block_at}
use Rattle.gcm.specs.Gcm.{Opened, column_number, block_number, block_bytes, same_as, opened_by}
use Rattle.secure.specs.Layout.{next_nonce, padding, inline_length, first_length, last_lengths, no_second_part, no_last_part, second_part, last_part, needed}
use Rattle.secure.specs.Reading.{Continuation, judge_nonce, judge_padding, judge_first, unpadded, last_ended, zeroed, by_opening, at_end, frames, sealed_trace}
use Rattle.secure_examples.specs.Parts.{key, nonce0, nonce1, two0, none0, sum_and_shape0, shape_and_flags0, flags_and_tag0, tag_and_limit0, limit_and_store0, padded0, full0, blocks0, two1, padded1, blocks1, full1, late1, none1, two2, aborted2, high2, high_aborted2, late_and_padding2, padding_and_drop2, padded2, single0, one0, first1}
use Rattle.secure_examples.specs.Examples.{seg1, two, store, frame_rows, first_rows, judge_rows, padding_rows, later_rows, cut_rows}
use Rattle.secure_examples.proofs.Seals.{opening, opened_by_lem}

-- ---- frames read by any way of opening a part

module _ (opens : List ℕ → List ℕ → Opened) where
  abbrev pub last_by : Header → List ℕ → ℕ → ℕ → List ℕ → List ℕ → List ℕ → Continuation → Trace
  last_by h nonce n P rest first store next =
      cond (no_last_part h) (at_end whole h P first store (next nonce n P rest))
      (cond (ltb (length rest) (last_part h)) (ended (splice store h.s1.len rest))
      (unless_refused (judge_nonce n) (P + last_part h) (zeroed h store)
      (by_opening (opens nonce (take (last_part h) rest)) (P + last_part h) (zeroed h store)
      (λ text. at_end (last_ended h text) h (P + last_part h) (first ++ unpadded (last_lengths h) text) store
      (next (next_nonce nonce) (suc n) (P + last_part h) (drop (last_part h) rest))))))

  abbrev pub rest_by : Header → List ℕ → ℕ → ℕ → List ℕ → List ℕ → List ℕ → Continuation → Trace
  rest_by h nonce n P rest first store next =
      cond (no_second_part h) (last_by h nonce n P rest first (replace_front first store) next)
      (cond (ltb (length rest) (second_part h)) (ended (splice (replace_front first store) inline_length rest))
      (unless_refused (judge_nonce n) (P + second_part h) (zeroed h store)
      (by_opening (opens nonce (take (second_part h) rest)) (P + second_part h) (zeroed h store)
      (λ text. unless_refused (judge_padding (drop (h.s1.len - inline_length) text)) (P + second_part h) (zeroed h store)
      (last_by h (next_nonce nonce) (suc n) (P + second_part h) (drop (second_part h) rest)
      (first ++ take (h.s1.len - inline_length) text)
      (replace_front (first ++ take (h.s1.len - inline_length) text ++ replicate (padding (h.s1.len - inline_length) + 16) 0) store)
      next)))))

  abbrev pub frame_by : Continuation → Continuation
  frame_by next nonce n P rest store =
      cond (ltb (length rest) first_length) (ended store)
      (unless_refused (judge_nonce n) (P + first_length) store
      (by_opening (opens nonce (take first_length rest)) (P + first_length) store
      (λ text. unless_refused (judge_first text (length store)) (P + first_length) store
      (rest_by (header_of text) (next_nonce nonce) (suc n) (P + first_length) (drop first_length rest)
      (take (header_of text).s1.len (drop 32 text)) store next))))

  abbrev pub frames_by : ℕ → Continuation
  frames_by zero nonce n P rest store = ended store
  frames_by (suc f) nonce n P rest store = frame_by (frames_by f) nonce n P rest store

frames_by_lem : (f : ℕ) → frames f (key_expansion key) ≡ frames_by (opened_by (key_expansion key)) f
unfolding frames
frames_by_lem zero = refl
frames_by_lem (suc f) = ap (frame_by (opened_by (key_expansion key))) (frames_by_lem f)

abbrev pub trace_by : ℕ → ℕ → List ℕ → List ℕ → Trace
trace_by n P rest store = frames_by opening (length rest) nonce0 n P rest store

pub trace_by_lem : (n P : ℕ) (rest store : List ℕ) → sealed_trace key nonce0 n P rest store ≡ trace_by n P rest store
unfolding sealed_trace
trace_by_lem n P rest store =
    ap (λ (next : Continuation). next nonce0 n P rest store)
    (frames_by_lem (length rest) ∙ ap (λ (opens : List ℕ → List ℕ → Opened). frames_by opens (length rest)) (λ i nonce s. opened_by_lem nonce s i))

-- ---- tables, row by row

pub held : {A : Type 0} {a b : A} {xs ys : List A} → a ≡ b → xs ≡ ys → a ∷ xs ≡ b ∷ ys
held e h = ap₂ ◌∷◌ e h

read : (n : ℕ) (rest store : List ℕ) {t : Trace} → trace_by n 58 rest store ≡ t → sealed_trace key nonce0 n 58 rest store ≡ t
read n rest store e = trace_by_lem n 58 rest store ∙ e

-- many begin with the first part of the frame 49+1: it is opened and judged once
read-two : (n : ℕ) (rest : List ℕ) {t : Trace}
    → cond (ltb (length (two0 ++ rest)) first_length) (ended store)
    (unless_refused (judge_nonce n) 154 store (rest_by opening two nonce1 (suc n) 154 rest (take 48 seg1) store (frames_by opening (length (drop 1 two0 ++ rest))))) ≡ t
    → sealed_trace key nonce0 n 58 (two0 ++ rest) store ≡ t
unfolding quad_at block_at column_number block_number block_bytes same_as number_at crc_of steps step shape_fault limit_fault header_of next_nonce needed judge_first
read-two n rest e = trace_by_lem n 58 (two0 ++ rest) store ∙ e

pub frame_rows_hold : Holds frame_rows
unfolding quad_at block_at column_number block_number block_bytes same_as number_at crc_of steps step shape_fault limit_fault header_of next_nonce needed judge_first last_ended frame_rows
frame_rows_hold =
    held (read-two 0 (two1 ++ two2) refl)
    (held (read 0 (none0 ++ none1) store refl)
    (held (read-two 0 (two1 ++ aborted2) refl)
    (held (read-two 0 (two1 ++ high2) refl)
    (held (read-two 0 (two1 ++ high_aborted2) refl)
    (held (read-two 18446744073709551613 (two1 ++ two2) refl)
    (held (read 0 (two0 ++ two1 ++ two2) (take 112 store) refl)
    (held (read 0 (full0 ++ full1) store refl)
    (held (read 0 one0 store refl)
    (held (read 0 (single0 ++ two1) store refl)
    (held (read 18446744073709551614 (none0 ++ none1) store refl)
    refl))))))))))

pub first_rows_hold : Holds first_rows
unfolding quad_at block_at column_number block_number block_bytes same_as number_at crc_of steps step shape_fault limit_fault header_of next_nonce needed judge_first last_ended first_rows
first_rows_hold =
    held (read 18446744073709551616 (set two0 95 0xf8) store refl)
    (held (read 0 (set sum_and_shape0 95 0xf5) store refl)
    (held (read 18446744073709551615 (set two0 95 0xf8 ++ two1 ++ two2) store refl)
    (held (read 0 sum_and_shape0 store refl)
    (held (read 0 shape_and_flags0 store refl)
    (held (read 0 flags_and_tag0 store refl)
    (held (read 0 tag_and_limit0 store refl)
    (held (read 0 limit_and_store0 store refl)
    (held (read 0 padded0 (take 47 store) refl)
    (held (read 0 padded0 store refl)
    (held (read 0 (two0 ++ two1) (take 111 store) refl)
    (held (read-two 18446744073709551613 (two1 ++ aborted2 ++ none1) refl)
    (held (read 18446744073709551614 (single0 ++ two1 ++ none1) store refl)
    refl))))))))))))

pub judge_rows_hold : Holds judge_rows
unfolding judge_rows number_at crc_of steps step shape_fault limit_fault header_of needed judge_first
judge_rows_hold = refl

pub padding_rows_hold : Holds padding_rows
unfolding padding_rows last_ended
padding_rows_hold = refl

pub later_rows_hold : Holds later_rows
unfolding quad_at block_at column_number block_number block_bytes same_as number_at crc_of steps step shape_fault limit_fault header_of next_nonce needed judge_first last_ended later_rows
later_rows_hold =
    held (read-two 18446744073709551615 (set two1 31 0x18) refl)
    (held (read-two 0 (set padded1 31 0x4a) refl)
    (held (read-two 0 padded1 refl)
    (held (read-two 0 first1 refl)
    (held (read 0 (single0 ++ padded1) store refl)
    (held (read-two 18446744073709551614 (two1 ++ set two2 47 0x7f) refl)
    (held (read-two 0 (two1 ++ set late_and_padding2 47 0x21) refl)
    (held (read-two 0 (two1 ++ late_and_padding2) refl)
    (held (read-two 0 (two1 ++ padding_and_drop2) refl)
    (held (read-two 0 (two1 ++ padded2) refl)
    (held (read 0 (full0 ++ late1) store refl)
    refl))))))))))

pub cut_rows_hold : Holds cut_rows
unfolding quad_at block_at column_number block_number block_bytes same_as number_at crc_of steps step shape_fault limit_fault header_of next_nonce needed judge_first last_ended cut_rows
cut_rows_hold =
    held (read 0 (take 95 two0) store refl)
    (held (read-two 0 [] refl)
    (held (read-two 0 (take 31 two1) refl)
    (held (read-two 0 two1 refl)
    (held (read-two 0 (two1 ++ take 5 two2) refl)
    (held (read-two 0 (two1 ++ take 47 two2) refl)
    (held (read 0 (none0 ++ take 95 none1) store refl)
    (held (read 0 full0 store refl)
    (held (read 0 (full0 ++ take 5 full1) store refl)
    (held (read 0 (blocks0 ++ blocks1) store refl)
    refl)))))))))
