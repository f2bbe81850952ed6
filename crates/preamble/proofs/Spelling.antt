-- A preamble that passes its checks is the one that its fields are written as.
use mathlib.Core.Path.{◌≡◌, sym, ap, ap₂, ◌∙◌}
use mathlib.Core.List.{List, ◌∷◌, ◌++◌}
use mathlib.Core.Bool.{and-true, not-not}
use Prim.Native.Nat.{ℕ, suc, ◌+◌, ◌≤◌}
use native.Mathlib.Omega.{arith}
use lib.ListN.{length, take, drop, get_or, length-drop}
use lib.Seq.{take_all, take_at, drop-cons}
use Rattle.buffer.specs.Le.{le, number_at, Bytes}
use Rattle.buffer.proofs.Numbers.{number-again, number-on}
use lib.Dec.{eqb}
use borrow.Author.Tests.{eqb-true}
use Rattle.crc32c.specs.Crc.{crc_of}
use Rattle.refusal.specs.declared.Refusal.TheVariants as refusal
use Rattle.refusal.specs.Refusals.{fine}
use Rattle.refusal.proofs.Judgements.{passed}
use Rattle.refusal.proofs.Booleans.{both_left, both_right}
use Rattle.preamble.specs.declared.Header.{Header}
use Rattle.preamble.specs.Layout.{segment_fields, preamble_front, preamble_bytes}
use Rattle.preamble.specs.Judge.{flag_fault, judge_flags, segment_at, header_of}
use Rattle.preamble.proofs.Laws.{length_front}
use Rattle.preamble.proofs.Faults.{none_first, none_when}

two_at : (i : ℕ) (l : List ℕ) → i + 2 ≤ length l → drop i l ≡ get_or l i 0 ∷ get_or l (suc i) 0 ∷ drop (suc (suc i)) l
two_at i l h = rw (drop-cons l i 0 (omega arith), drop-cons l (suc i) 0 (omega arith))

module _ (p : List ℕ) (bytes : Bytes p) (long : length p ≡ 32) where
  abbrev h : Header
  h = header_of p

  segment-on : (i : ℕ) {t : List ℕ} → i + 6 ≤ 32 → t ≡ drop (i + 6) p → segment_fields (segment_at i p) ++ t ≡ drop i p
  segment-on i {t} l e =
      let n : i + 4 + 2 ≡ i + 6 = omega arith in
      let two : le 2 (number_at 2 (i + 4) p) ++ t ≡ drop (i + 4) p = number-on 2 (i + 4) p bytes (omega arith) (rw n e) in
      number-on 4 i p bytes (omega arith) two

  module _ (flags : get_or p 26 0 ≡ 0) (reserved : get_or p 27 0 ≡ 0) where
    tail : drop 26 p ≡ 0 ∷ 0 ∷ drop 28 p
    tail = two_at 26 p (omega arith) ∙ ap₂ (λ (a b : ℕ). a ∷ b ∷ drop 28 p) flags reserved

    front-again : preamble_front h ++ drop 28 p ≡ p
    unfolding preamble_front header_of
    front-again =
        ap (λ (t : List ℕ). get_or p 0 0 ∷ get_or p 1 0 ∷ t)
        (segment-on 2 (omega arith) (segment-on 8 (omega arith) (segment-on 14 (omega arith) (segment-on 20 (omega arith) (sym tail)))))
        ∙ sym (two_at 0 p (omega arith))

    front-is-taken : take 28 p ≡ preamble_front h
    front-is-taken = ap (take 28) (sym front-again) ∙ take_at (preamble_front h) (drop 28 p) 28 (length_front h)

    pub preamble-again : crc_of 0 (take 28 p) ≡ number_at 4 28 p → preamble_bytes h ≡ p
    unfolding preamble_bytes
    preamble-again sum =
        let d = length-drop 28 p in
        let last : le 4 (number_at 4 28 p) ≡ drop 28 p = number-again 4 28 p bytes (omega arith) ∙ take_all 4 (drop 28 p) (omega arith) in
        ap (λ (n : ℕ). preamble_front h ++ le 4 n) (ap (crc_of 0) (sym front-is-taken) ∙ sum)
        ∙ ap (λ (t : List ℕ). preamble_front h ++ t) last
        ∙ front-again

-- flags and the reserved byte are 0 where they are not refused
pub flags-zero : (a b : ℕ) → judge_flags a b ≡ fine → (a ≡ 0) × (b ≡ 0)
flags-zero a b f =
    let t = simp (none_first, none_when, not-not, and-true) at (passed (eqb (flag_fault a b) 0) (refusal.Flags (flag_fault a b)) f) in
    (eqb-true a 0 (both_left (eqb a 0) (eqb b 0) t), eqb-true b 0 (both_right (eqb a 0) (eqb b 0) t))
