-- The first fault of two, and where there is none.
use mathlib.Core.Path.{◌≡◌, refl, ap, ◌∙◌}
use mathlib.Core.List.{List, [], ◌∷◌, map}
use mathlib.Core.Bool.{Bool, true, false, not, ◌&&◌, and-true, not-not}
use Prim.Native.Nat.{ℕ, zero, suc, ◌+◌}
use lib.Dec.{leb, ltb, eqb, eqb-suc-zero}
use borrow.Author.Tests.{le-leb, lt-leb, le-ltb, lt-ltb}
use Rattle.refusal.proofs.Booleans.{by_less}
use Rattle.preamble.specs.declared.Header.{Header}
use Rattle.preamble.specs.declared.Segment.{Segment}
use Rattle.preamble.specs.Layout.{total}
use Rattle.refusal.specs.declared.Refusal.{Refusal}
use Rattle.refusal.specs.declared.Refusal.TheVariants as refusal
use Rattle.refusal.specs.Refusals.{first_of, or_else}
use Rattle.preamble.specs.Judge.{first, first_fault, fault_when, unless_fault, count_fault, segment_fault, judge_shape, judge_limits, judge_flags, above, length_wrong, align_wrong, shape_fault, limit_fault, segment_limit, frame_limit}

pub first-is : (a b : ℕ) → (a ≡ 0 → ⊥) → a ≡ first a b
first-is zero b n = absurd (n refl)
first-is (suc a) b n = refl

-- behind the last fault there is none
pub first-last : (a : ℕ) → first a 0 ≡ a
first-last zero = refl
first-last (suc a) = refl

-- ---- the first fault of a list is the first refusal of a list

module _ (why : ℕ → Refusal) where
  by-first : (a b : ℕ) → unless_fault why (first a b) ≡ or_else (unless_fault why a) (unless_fault why b)
  by-first zero b = refl
  by-first (suc a) b = rw (eqb-suc-zero a) refl

  by-list : (fs : List ℕ) → unless_fault why (first_fault fs) ≡ first_of (map (unless_fault why) fs)
  by-list [] = refl
  by-list (f ∷ fs) = by-first f (first_fault fs) ∙ ap (or_else (unless_fault why f)) (by-list fs)

abbrev pub shape_faults : Header → List ℕ
shape_faults h =
    count_fault h.count
    ∷ segment_fault h.count 1 2 h.s1
    ∷ segment_fault h.count 2 8 h.s2
    ∷ segment_fault h.count 3 14 h.s3
    ∷ segment_fault h.count 4 20 h.s4
    ∷ []

pub shape_order : (h : Header) → judge_shape h ≡ first_of (map (unless_fault refusal.Shape) (shape_faults h))
unfolding shape_fault
shape_order h = by-list refusal.Shape (shape_faults h)

abbrev pub limit_faults : Header → List ℕ
limit_faults h =
    above segment_limit 2 h.s1.len
    ∷ above segment_limit 8 h.s2.len
    ∷ above segment_limit 14 h.s3.len
    ∷ above segment_limit 20 h.s4.len
    ∷ above frame_limit 2 h.s1.len
    ∷ above frame_limit 8 (h.s1.len + h.s2.len)
    ∷ above frame_limit 14 (h.s1.len + h.s2.len + h.s3.len)
    ∷ above frame_limit 20 (total h)
    ∷ []

pub limit_order : (h : Header) → judge_limits h ≡ first_of (map (unless_fault refusal.Limit) (limit_faults h))
unfolding limit_fault
limit_order h = by-list refusal.Limit (limit_faults h)

abbrev pub flag_faults : ℕ → ℕ → List ℕ
flag_faults flags reserved = fault_when (not (eqb flags 0)) 26 ∷ fault_when (not (eqb reserved 0)) 27 ∷ []

pub flag_order : (flags reserved : ℕ) → judge_flags flags reserved ≡ first_of (map (unless_fault refusal.Flags) (flag_faults flags reserved))
flag_order flags reserved = by-list refusal.Flags (flag_faults flags reserved)

-- ---- no fault

pub none_first : (a b : ℕ) → eqb (first a b) 0 ≡ (eqb a 0 && eqb b 0)
none_first zero b = refl
none_first (suc a) b = rw (eqb-suc-zero a)

pub none_when : (wrong : Bool) (p : ℕ) → eqb p 0 ≡ false → eqb (fault_when wrong p) 0 ≡ not wrong
none_when true p e = e
none_when false p e = refl

-- a number at most its limit
not_above : (limit n : ℕ) → not (ltb limit n) ≡ leb n limit
not_above limit n = by_less limit n (λ l. rw (lt-leb _ _ l, lt-ltb _ _ l)) (λ l. rw (le-leb _ _ l, le-ltb _ _ l))

-- the tests of a segment, and of the shape
abbrev pub SegmentFine : ℕ → ℕ → Segment → Bool
SegmentFine count k s = not (length_wrong count k s.len) && not (align_wrong count k s.align)

pub shape-none : (h : Header) →
    ((leb 1 h.count && leb h.count 4) && (SegmentFine h.count 1 h.s1 && (SegmentFine h.count 2 h.s2 && (SegmentFine h.count 3 h.s3 && SegmentFine h.count 4 h.s4))))
    ≡ eqb (shape_fault h) 0
unfolding shape_fault
shape-none h = simp (none_first, none_when, not-not, and-true)

pub limits-none : (h : Header) →
    (leb h.s1.len segment_limit && (leb h.s2.len segment_limit && (leb h.s3.len segment_limit && (leb h.s4.len segment_limit
    && (leb h.s1.len frame_limit && (leb (h.s1.len + h.s2.len) frame_limit && (leb (h.s1.len + h.s2.len + h.s3.len) frame_limit && leb (total h) frame_limit)))))))
    ≡ eqb (limit_fault h) 0
unfolding limit_fault
limits-none h = simp (none_first, none_when, not_above, and-true)
