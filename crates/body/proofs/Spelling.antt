-- A body that passes its checks is the one that its segments are written as (02, K10).
use Prim.Native.Nat.{ℕ, ◌+◌, ◌*◌, ◌%◌}
use mathlib.Core.List.{List, [], ◌∷◌, ◌++◌}
use mathlib.Core.Path.{◌≡◌, refl, sym, ap, ◌∙◌}
use mathlib.Core.Bool.{Bool, true, false, cond}
use native.Mathlib.Omega.{arith}
use lib.ListN.{length, take, drop, get_or, length-drop, take-append-drop, drop_of_length-le}
use lib.Seq.{take-add, take_at, drop_at, drop-cons, length-take-le}
use lib.Dec.{ltb, eqb}
use borrow.Author.Tests.{ltb-true, eqb-true, eqb-false}
use Rattle.buffer.specs.Le.{le, number_at, Bytes, words}
use Rattle.buffer.proofs.Numbers.{number-again, number-on, bytes_drop}
use Rattle.refusal.specs.declared.Refusal.TheVariants as refusal
use Rattle.refusal.specs.Refusals.{Judged, fine, refused}
use Rattle.refusal.proofs.Judgements.{both-fine, passed}
use Rattle.refusal.proofs.Booleans.{by_test, at_test}
use Rattle.banner.specs.declared.Revision.{Revision}
use Rattle.banner.specs.declared.Revision.TheVariants.{Msgr20, Msgr21}
use Rattle.preamble.specs.declared.Header.{Header}
use Rattle.preamble.specs.Layout.{total}
use Rattle.body.specs.declared.Late.{Late}
use Rattle.body.specs.declared.Late.TheVariants as late
use Rattle.body.specs.Body.{segment_sum, rest_length, segments, epilogue_from, in_epilogue, no_first_sum, first_sum_length, no_epilogue, epilogue_length, body_length, first_sum, late_byte, epilogue, body}
use Rattle.body.specs.End.{whole, segment_bytes, stored, compared, unused_from, judge_late_flags, judge_spelling, late_of, by_late, end_unless_refused, ending}
use Rattle.body.proofs.Laws.{epilogue-is}
use Rattle.body.proofs.Ends.{no_length}
use Rattle.body.proofs.Checksums.{fields_back}

-- a late byte that says complete, with nothing in the bits that are not looked at
abbrev pub late_again : Revision → ℕ → Bool
late_again Msgr20 b = true
late_again Msgr21 b = ltb b 16

-- ---- an epilogue

record Whole (r : Revision) (h : Header) (e p : List ℕ) : Type 0 where
  unused : unused_from h.count (epilogue_from r) (stored r e) ≡ fine
  flags : judge_late_flags r (get_or e 0 0) ≡ fine
  late : late_of r (get_or e 0 0) ≡ late.Complete
  sums : compared r h e p ≡ fine

whole_parts : (g : Judged) (l : Late) (b : ℕ) (j : Judged) → end_unless_refused g (by_late l b j) ≡ whole → (g ≡ fine) × (l ≡ late.Complete) × (j ≡ fine)
whole_parts (refused n) l b j e = (cc, cc, cc)
whole_parts fine late.Complete b fine e = (refl, refl, refl)
whole_parts fine late.Complete b (refused n) e = (refl, refl, cc)
whole_parts fine late.Aborted b j e = (refl, cc, cc)
whole_parts fine late.Wrong b j e = (refl, cc, cc)

judged-whole : (r : Revision) (h : Header) (e p : List ℕ) → no_epilogue r h ≡ false → ending r h e p ≡ whole → Whole r h e p
unfolding ending
judged-whole r h e p c w =
    let q = whole_parts (judge_spelling r h e) (late_of r (get_or e 0 0)) (get_or e 0 0) (compared r h e p) (rw c at w) in
    let s = both-fine (unused_from h.count (epilogue_from r) (stored r e)) (judge_late_flags r (get_or e 0 0)) q.0 in
    record { unused = s.0; flags = s.1; late = q.1; sums = q.2 }

late_is : (r : Revision) (b : ℕ) → judge_late_flags r b ≡ fine → late_of r b ≡ late.Complete → late_again r b ≡ true → b ≡ late_byte r false
late_is Msgr20 b f l a =
    let k = ltb-true b 2 (passed (ltb b 2) (refusal.NonCanonical 0) f) in
    by_test (eqb (b % 2) 1) (λ c. let z : late.Aborted ≡ late.Complete = rw c at l in cc) (λ c. omega (arith, eqb-false (b % 2) 1 c))
late_is Msgr21 b f l a =
    let k = ltb-true b 16 a in
    by_test (eqb (b % 16) 0x0E)
    (λ c. omega (arith, eqb-true (b % 16) 0x0E c))
    (λ c. by_test (eqb (b % 16) 0x01) (λ d. let z : late.Aborted ≡ late.Complete = rw (c, d) at l in cc) (λ d. let z : late.Wrong ≡ late.Complete = rw (c, d) at l in cc))

-- its bytes from its fields
bytes_of : (r : Revision) (e : List ℕ) → Bytes e → length e ≡ 1 + 4 * length (stored r e) → get_or e 0 0 ∷ words (stored r e) ≡ e
bytes_of Msgr20 e b l =
    ap (λ (t : List ℕ). get_or e 0 0 ∷ t)
    (number-on 4 1 e b (omega arith) (number-on 4 5 e b (omega arith) (number-on 4 9 e b (omega arith) (number-on 4 13 e b (omega arith) (sym (drop_of_length-le e {i = 17} (omega arith)))))))
    ∙ sym (drop-cons e 0 0 (omega arith))
bytes_of Msgr21 e b l =
    ap (λ (t : List ℕ). get_or e 0 0 ∷ t)
    (number-on 4 1 e b (omega arith) (number-on 4 5 e b (omega arith) (number-on 4 9 e b (omega arith) (sym (drop_of_length-le e {i = 13} (omega arith))))))
    ∙ sym (drop-cons e 0 0 (omega arith))

same_count : (r : Revision) (h : Header) (e first rest : List ℕ) → length (stored r e) ≡ length (in_epilogue r (segments h first rest))
same_count Msgr20 h e first rest = refl
same_count Msgr21 h e first rest = refl

long-enough : (r : Revision) (h : Header) (e : List ℕ) → no_epilogue r h ≡ false → epilogue_length r h ≡ 1 + 4 * length (stored r e)
long-enough Msgr20 h e c = refl
long-enough Msgr21 h e c = rw c

epilogue-again : (r : Revision) (h : Header) (e p : List ℕ) → Bytes e → length e ≡ epilogue_length r h → no_epilogue r h ≡ false → ending r h e p ≡ whole → late_again r (get_or e 0 0) ≡ true
    → e ≡ epilogue r h (late_byte r false) (take h.s1.len p) (drop h.s1.len p)
epilogue-again r h e p b l c w a =
    let q = judged-whole r h e p c w in
    let first : List ℕ = take h.s1.len p in
    let rest : List ℕ = drop h.s1.len p in
    sym (bytes_of r e b (l ∙ long-enough r h e c))
    ∙ epilogue-is r h (late_byte r false) first rest (get_or e 0 0) (stored r e) c (late_is r (get_or e 0 0) q.flags q.late a)
    (fields_back h.count (epilogue_from r) (stored r e) (in_epilogue r (segments h first rest)) (same_count r h e first rest) q.sums q.unused)

-- ---- the body

module _ (r : Revision) (h : Header) (b : List ℕ) (bytes : Bytes b) (long : length b ≡ body_length r h) where
  abbrev n : ℕ
  n = h.s1.len

  abbrev k : ℕ
  k = first_sum_length r h

  abbrev m : ℕ
  m = rest_length h

  abbrev p : List ℕ
  p = segment_bytes r h b

  first-again : take n p ≡ take n b
  first-again = take_at (take n b) (take m (drop (n + k) b)) n (length-take-le n b (omega arith))

  rest-again : drop n p ≡ take m (drop (n + k) b)
  rest-again = drop_at (take n b) (take m (drop (n + k) b)) n (length-take-le n b (omega arith))

  parts : take n b ++ take k (drop n b) ++ take m (drop (n + k) b) ++ drop (n + k + m) b ≡ b
  parts = rw (← (take-add n k b), ← (take-add (n + k) m b)) (take-append-drop (n + k + m) b)

  sum-again : (no_first_sum r h ≡ false → number_at 4 n b ≡ segment_sum (take n b)) → take k (drop n b) ≡ first_sum r h (take n b)
  sum-again f =
      at_test (λ (c : Bool). take (cond c 0 4) (drop n b) ≡ cond c [] (le 4 (segment_sum (take n b)))) (no_first_sum r h) (λ c. refl)
      (λ c.
      let z = rw c at long in
      sym (number-again 4 n b bytes (omega arith)) ∙ ap (le 4) (f c))

  last-again : ending r h (drop (total h + k) b) p ≡ whole → (no_epilogue r h ≡ false → late_again r (get_or (drop (total h + k) b) 0 0) ≡ true)
      → drop (total h + k) b ≡ epilogue r h (late_byte r false) (take n p) (drop n p)
  last-again w a =
      let d : length (drop (total h + k) b) ≡ epilogue_length r h = length-drop (total h + k) b ∙ omega arith in
      by_test (no_epilogue r h)
      (λ c. let z = no_length r h c in rw c (drop_of_length-le b {i = total h + k} (omega arith)))
      (λ c. epilogue-again r h (drop (total h + k) b) p (bytes_drop (total h + k) bytes) d c w (a c))

  pub body-again : (no_first_sum r h ≡ false → number_at 4 n b ≡ segment_sum (take n b)) → ending r h (drop (total h + k) b) p ≡ whole
      → (no_epilogue r h ≡ false → late_again r (get_or (drop (total h + k) b) 0 0) ≡ true) → b ≡ body r h (late_byte r false) (take n p) (drop n p)
  unfolding body
  body-again f w a =
      let e : n + k + m ≡ total h + k = omega arith in
      rw (← (last-again w a), first-again, rest-again, ← (sum-again f)) (sym (rw e at parts))
