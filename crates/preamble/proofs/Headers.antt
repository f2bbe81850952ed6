-- What an accepted header says of itself.
use mathlib.Core.Path.{◌≡◌, ◌∙◌}
use mathlib.Core.List.{[], ◌∷◌}
use Prim.Native.Nat.{ℕ, ◌≤◌, ◌<◌}
use native.Mathlib.Omega.{arith}
use lib.Dec.{leb, eqb}
use borrow.Author.Tests.{eqb-true, leb-true, lt-ltb, eq-eqb, not-true, not-false}
use Rattle.refusal.specs.declared.Refusal.TheVariants as refusal
use Rattle.refusal.specs.Refusals.{fine}
use Rattle.refusal.proofs.Judgements.{all-fine, passed}
use Rattle.refusal.proofs.Booleans.{by_test, both_left, both_right, each_true}
use Rattle.preamble.specs.declared.Header.{Header}
use Rattle.preamble.specs.Judge.{shape_fault, judge_shape, judge_tag, judge_limits, judge_header, length_wrong, align_wrong}
use mathlib.Core.Bool.{Bool, true, not, ◌&&◌}
use Rattle.preamble.specs.declared.Segment.{Segment}
use Rattle.preamble.proofs.Faults.{SegmentFine, shape-none}

-- ---- its shape

pub shape-fine : (h : Header) → judge_header h ≡ fine → shape_fault h ≡ 0
unfolding judge_header
shape-fine h e = eqb-true (shape_fault h) 0 (passed (eqb (shape_fault h) 0) (refusal.Shape (shape_fault h)) (all-fine (judge_shape h ∷ judge_tag h.tag ∷ judge_limits h ∷ []) e).0)

pub some-segment : (h : Header) → judge_header h ≡ fine → 1 ≤ h.count
unfolding shape_fault
some-segment h e =
    by_test (leb 1 h.count) (leb-true 1 h.count) (λ c. absurd (let w : ◌≡◌ {A = ℕ} 1 0 = rw c at (shape-fine h e) in omega arith))

-- a segment that the count leaves out is empty
unused : (count k : ℕ) (s : Segment) → count < k → SegmentFine count k s ≡ true → s.len ≡ 0
unused count k s l e =
    let a = both_left (not (length_wrong count k s.len)) (not (align_wrong count k s.align)) e in
    eqb-true s.len 0 (not-false (eqb s.len 0) (not-true (not (eqb s.len 0)) (rw (lt-ltb count k l) at a)))

pub others-empty : (h : Header) → judge_header h ≡ fine → h.count ≤ 1 → (h.s2.len ≡ 0) × (h.s3.len ≡ 0) × (h.s4.len ≡ 0)
others-empty h j c =
    let n : ℕ = h.count in
    let f₁ : Bool = SegmentFine n 1 h.s1 in
    let f₂ : Bool = SegmentFine n 2 h.s2 in
    let f₃ : Bool = SegmentFine n 3 h.s3 in
    let f₄ : Bool = SegmentFine n 4 h.s4 in
    let a = both_right (leb 1 n && leb n 4) (f₁ && (f₂ && (f₃ && f₄))) (shape-none h ∙ eq-eqb (shape_fault h) 0 (shape-fine h j)) in
    let b = each_true f₂ (f₃ && f₄) (both_right f₁ (f₂ && (f₃ && f₄)) a) in
    let d = each_true f₃ f₄ b.1 in
    (unused n 2 h.s2 (omega arith) b.0, unused n 3 h.s3 (omega arith) d.0, unused n 4 h.s4 (omega arith) d.1)
