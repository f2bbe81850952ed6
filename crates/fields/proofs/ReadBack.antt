-- Bytes of a field that was read: a step that does not fail goes over bytes that are the field's own.
use mathlib.Core.Path.{◌≡◌, refl, sym, ap, ap₂, ◌∙◌}
use mathlib.Core.Bool.{false}
use mathlib.Core.List.{List, ◌++◌}
use Prim.Native.Nat.{ℕ, zero, suc, ◌+◌, ◌-◌, ◌*◌, ◌≤◌}
use native.Mathlib.Omega.{arith}
use lib.Dec.{leb, ltb}
use borrow.Author.Tests.{leb-true}
use lib.ListN.{length, take, drop, length-drop}
use lib.Seq.{take-add, drop-drop, length-take-le}
use Rattle.buffer.specs.Le.{le, le_of, number_at, Bytes, words}
use Rattle.buffer.proofs.Numbers.{bytes_take, bytes_drop, le-le_of, number-again}
use Rattle.refusal.proofs.Booleans.{by_test, wrong}
use Rattle.fields.specs.Layout.{Kind, good, past, step_of}
use Rattle.fields.specs.Layout as kind
use Rattle.fields.specs.Field.{kind_of, words_of, field_bytes, field_at}
use Rattle.fields.proofs.Skips.{length-words}

words-again : (n : ℕ) (t : List ℕ) → Bytes t → 4 * n ≤ length t → words (words_of n t) ≡ take (4 * n) t
unfolding words_of
words-again zero t h k = refl
words-again (suc n) t h k =
    let e : 4 * suc n ≡ 4 + 4 * n = omega arith in
    let d : length (drop 4 t) ≡ length t - 4 = length-drop 4 t in
    let a : length (take 4 t) ≡ 4 = length-take-le 4 t (omega arith) in
    let b : le 4 (le_of (take 4 t)) ≡ take 4 t = rw a at (le-le_of (take 4 t) (bytes_take 4 h)) in
    rw (e, take-add 4 (4 * n) t) (ap₂ (λ (x y : List ℕ). x ++ y) b (words-again n (drop 4 t) (bytes_drop 4 h) (omega arith)))

-- a step that did not fail: it went over m bytes, which are the field's
pub record Over (k : Kind) (s : List ℕ) (at : ℕ) : Type 0 where
  pub m : ℕ
  pub next : step_of k s (good at) ≡ good (at + m)
  pub bytes : field_bytes (field_at k s at) ≡ take m (drop at s)
  pub within : at + m ≤ length s

module _ (s : List ℕ) (at : ℕ) (h : Bytes s) (in-s : at ≤ length s) where
  past-over : (w : ℕ) → (past w s at).failed ≡ false → (past w s at ≡ good (at + w)) × (w ≤ length s - at)
  past-over w f = by_test (leb w (length s - at)) (λ t. (rw t, leb-true w (length s - at) t)) (λ t. wrong (sym (rw t at f)))

  -- a count, and what it counts
  counted-again : (n : ℕ) (xs : List ℕ) → n ≡ number_at 4 at s → 4 ≤ length s - at → (m : ℕ) → xs ≡ take m (drop (at + 4) s) → le 4 n ++ xs ≡ take (4 + m) (drop at s)
  counted-again n xs e k m x =
      rw (take-add 4 m (drop at s), drop-drop 4 at s)
      (ap₂ (λ (a b : List ℕ). a ++ b) (ap (le 4) e ∙ number-again 4 at s h k) x)

  pub over-field : (k : Kind) → (step_of k s (good at)).failed ≡ false → Over k s at
  unfolding step_of
  over-field (kind.number w) f =
      let p = past-over w f in
      record { m = w; next = p.0; bytes = number-again w at s h p.1; within = omega (arith, p.1) }
  over-field kind.negative f =
      by_test (ltb (number_at 4 at s) 2147483648) (λ t. wrong (sym (rw t at f))) (λ t.
      let p = past-over 4 (rw t at f) in
      record { m = 4; next = rw t p.0; bytes = number-again 4 at s h p.1; within = omega (arith, p.1) })
  over-field kind.numbers f =
      let n = number_at 4 at s in
      let rest = drop (at + 4) s in
      by_test (ltb 32 n) (λ t. wrong (sym (rw t at f))) (λ t. by_test (leb (4 + 4 * n) (length s - at)) (λ u.
      let k = leb-true (4 + 4 * n) (length s - at) u in
      let w = words-again n rest (bytes_drop (at + 4) h) (omega (arith, length-drop (at + 4) s)) in
      record { m = 4 + 4 * n; next = rw (t, u); bytes = counted-again (length (words_of n rest)) (words (words_of n rest)) (length-words n rest) (omega arith) (4 * n) w; within = omega arith })
      (λ u. wrong (sym (rw (t, u) at f))))
  over-field kind.payload f =
      let n = number_at 4 at s in
      let p = past-over (4 + n) f in
      let k = p.1 in
      let e = length-take-le n (drop (at + 4) s) (omega (arith, length-drop (at + 4) s)) in
      record { m = 4 + n; next = p.0; bytes = counted-again (length (take n (drop (at + 4) s))) (take n (drop (at + 4) s)) e (omega arith) n refl; within = omega arith }
  over-field (kind.opaque k) f =
      by_test (leb k (length s - at)) (λ t.
      let j = leb-true k (length s - at) t in
      let e : length s - k ≡ at + (length s - k - at) = omega arith in
      record { m = length s - k - at; next = rw (t, ← e); bytes = refl; within = omega arith })
      (λ t. wrong (sym (rw t at f)))
  over-field (kind.fixed w) f =
      let p = past-over w f in
      record { m = w; next = p.0; bytes = refl; within = omega (arith, p.1) }

pub same_kind : (k : Kind) (s : List ℕ) (at : ℕ) → kind_of (field_at k s at) ≡ k
same_kind (kind.number w) s at = refl
same_kind kind.negative s at = refl
same_kind kind.numbers s at = refl
same_kind kind.payload s at = refl
same_kind (kind.opaque k) s at = refl
same_kind (kind.fixed w) s at = refl
