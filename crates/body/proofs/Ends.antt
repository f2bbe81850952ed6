-- A body and its end are read by their own bytes: what stands behind them does not count.
use Prim.Native.Nat.{ℕ, ◌+◌, ◌≤◌, ◌<◌}
use mathlib.Core.List.{List, ◌++◌}
use mathlib.Core.Path.{◌≡◌, sym, ap, ap₂, ◌∙◌}
use mathlib.Core.Bool.{true, false}
use native.Mathlib.Omega.{arith}
use lib.ListN.{length, take, drop, length-append, length-drop, get_or-append}
use lib.Seq.{get_or-take, length-take-le, take-append-le, drop-append-le}
use lib.Dec.{lit<, lit≤, leb}
use Rattle.buffer.proofs.Numbers.{number-take, number_append}
use Rattle.refusal.proofs.Booleans.{by_test}
use Rattle.banner.specs.declared.Revision.{Revision}
use Rattle.banner.specs.declared.Revision.TheVariants.{Msgr20, Msgr21}
use Rattle.preamble.specs.declared.Header.{Header}
use Rattle.preamble.specs.Layout.{total}
use Rattle.body.specs.Body.{rest_length, first_sum_length, no_epilogue, epilogue_length, body_length}
use Rattle.body.specs.End.{whole, segment_bytes, ending}

-- ---- lengths

pub no_length : (revision : Revision) (h : Header) → no_epilogue revision h ≡ true → epilogue_length revision h ≡ 0
no_length Msgr20 h e = cc
no_length Msgr21 h e = rw e

pub has_length : (revision : Revision) (h : Header) → no_epilogue revision h ≡ false → (0 < epilogue_length revision h) × (epilogue_length revision h ≤ 32)
has_length Msgr20 h e = (omega arith, omega arith)
has_length Msgr21 h e = rw e (omega arith, omega arith)

-- ---- an epilogue

pub ending-take : (revision : Revision) (h : Header) (e p : List ℕ) → no_epilogue revision h ≡ false → ending revision h (take (epilogue_length revision h) e) p ≡ ending revision h e p
unfolding ending
ending-take Msgr20 h e p q =
    rw (get_or-take 17 e 0 0 (lit< tt), number-take 4 1 17 e (lit≤ tt), number-take 4 5 17 e (lit≤ tt), number-take 4 9 17 e (lit≤ tt), number-take 4 13 17 e (lit≤ tt))
ending-take Msgr21 h e p q =
    rw (q, get_or-take 13 e 0 0 (lit< tt), number-take 4 1 13 e (lit≤ tt), number-take 4 5 13 e (lit≤ tt), number-take 4 9 13 e (lit≤ tt))

pub ending-none : (revision : Revision) (h : Header) (e p : List ℕ) → no_epilogue revision h ≡ true → ending revision h e p ≡ whole
unfolding ending
ending-none revision h e p q = rw q

pub ending-append : (r : Revision) (h : Header) (e y p : List ℕ) → epilogue_length r h ≤ length e → ending r h (e ++ y) p ≡ ending r h e p
unfolding ending
ending-append Msgr20 h e y p l =
    rw (get_or-append e y 0 0 (omega arith), number_append 4 1 e y (omega arith), number_append 4 5 e y (omega arith), number_append 4 9 e y (omega arith), number_append 4 13 e y (omega arith))
ending-append Msgr21 h e y p l =
    by_test (leb h.count 1)
    (λ c. ending-none Msgr21 h (e ++ y) p c ∙ sym (ending-none Msgr21 h e p c))
    (λ c.
    let l' : 13 ≤ length e = rw c at l in
    rw (get_or-append e y 0 0 (omega arith), number_append 4 1 e y (omega arith), number_append 4 5 e y (omega arith), number_append 4 9 e y (omega arith)))

-- ---- a body's bytes b, and y behind them

module _ (r : Revision) (h : Header) (b y : List ℕ) (l : body_length r h ≤ length b) where
  pub segments-own : segment_bytes r h (b ++ y) ≡ segment_bytes r h b
  segments-own =
      let n = h.s1.len + first_sum_length r h in
      let d = length-drop n b in
      ap₂ (λ (p q : List ℕ). p ++ take (rest_length h) q) (take-append-le h.s1.len b y (omega arith)) (drop-append-le n b y (omega arith))
      ∙ ap (λ (q : List ℕ). take h.s1.len b ++ q) (take-append-le (rest_length h) (drop n b) y (omega arith))

  pub length-segments : length (segment_bytes r h b) ≡ total h
  length-segments =
      let n = h.s1.len + first_sum_length r h in
      let d = length-drop n b in
      let e₁ = length-take-le h.s1.len b (omega arith) in
      let e₂ = length-take-le (rest_length h) (drop n b) (omega arith) in
      simp (length-append, e₁, e₂) (omega arith)
