-- Checksum fields that are judged one after the other, as one fact for each segment.
use Prim.Native.Nat.{ℕ, zero, suc, ◌+◌, ◌≤◌, ◌<◌}
use mathlib.Core.List.{List, [], ◌∷◌}
use mathlib.Core.Path.{◌≡◌, refl, sym, ap, ap₂, ◌∙◌}
use mathlib.Core.Bool.{true, ◌||◌}
use native.Mathlib.Omega.{arith}
use lib.ListN.{length, drop, get_or}
use lib.Dec.{leb, ltb, eqb}
use borrow.Author.Tests.{le-ltb, lt-ltb, le-leb, lt-leb, eq-eqb, eqb-true}
use Rattle.refusal.specs.declared.Refusal.TheVariants as refusal
use Rattle.refusal.specs.Refusals.{fine, unless}
use Rattle.refusal.proofs.Judgements.{both-fine, passed}
use Rattle.refusal.proofs.Booleans.{by_less}
use Rattle.body.specs.Body.{segment_sum, field, fields_from}
use Rattle.body.specs.End.{compare_from, unused_from}

-- the segments behind the first one
behind : (ss : List (List ℕ)) (i : ℕ) → get_or (drop 1 ss) i [] ≡ get_or ss (suc i) []
behind [] i = refl
behind (s ∷ ss) i = refl

-- the stored numbers fs against the checksums of the segments ss, which are numbered from k on
pub every-sum : (count k : ℕ) (fs : List ℕ) (ss : List (List ℕ)) → compare_from count k fs ss ≡ fine
    → (i : ℕ) → i < length fs → k + i ≤ count → get_or fs i 0 ≡ segment_sum (get_or ss i [])
every-sum count k [] ss e i l u = absurd (omega arith)
every-sum count k (f ∷ fs) ss e zero l u =
    let a = both-fine (unless (ltb count k || eqb f (segment_sum (get_or ss 0 []))) (refusal.SegmentChecksum k)) (compare_from count (suc k) fs (drop 1 ss)) e in
    let t = passed (ltb count k || eqb f (segment_sum (get_or ss 0 []))) (refusal.SegmentChecksum k) a.0 in
    eqb-true f (segment_sum (get_or ss 0 [])) (rw (le-ltb count k (omega arith)) at t)
every-sum count k (f ∷ fs) ss e (suc i) l u =
    let a = both-fine (unless (ltb count k || eqb f (segment_sum (get_or ss 0 []))) (refusal.SegmentChecksum k)) (compare_from count (suc k) fs (drop 1 ss)) e in
    every-sum count (suc k) fs (drop 1 ss) a.1 i (omega arith) (omega arith) ∙ ap segment_sum (behind ss i)

-- one test, by what is stored
test-holds : (count k f : ℕ) (s : List ℕ) → (k ≤ count → f ≡ segment_sum s) → (ltb count k || eqb f (segment_sum s)) ≡ true
test-holds count k f s a = by_less count k (λ l. rw (lt-ltb count k l)) (λ u. rw (le-ltb count k u, eq-eqb f (segment_sum s) (a u)))

pub all-sums : (count k : ℕ) (fs : List ℕ) (ss : List (List ℕ))
    → ((i : ℕ) → i < length fs → k + i ≤ count → get_or fs i 0 ≡ segment_sum (get_or ss i [])) → compare_from count k fs ss ≡ fine
all-sums count k [] ss a = refl
all-sums count k (f ∷ fs) ss a =
    rw (test-holds count k f (get_or ss 0 []) (λ u. a 0 (omega arith) (omega arith)))
    (all-sums count (suc k) fs (drop 1 ss) (λ i l u. a (suc i) (omega arith) (omega arith) ∙ ap segment_sum (sym (behind ss i))))

-- checksums that were written compare as equal
pub same-sums : (count k : ℕ) (ss : List (List ℕ)) → compare_from count k (fields_from count k ss) ss ≡ fine
same-sums count k [] = refl
same-sums count k (s ∷ ss) = rw (test-holds count k (field count k s) s (λ u. rw (le-leb k count u))) (same-sums count (suc k) ss)

-- ---- the fields fs of unused segments, which are numbered from k on, are 0

pub every-unused : (count k : ℕ) (fs : List ℕ) → unused_from count k fs ≡ fine → (i : ℕ) → i < length fs → count < k + i → get_or fs i 0 ≡ 0
every-unused count k [] e i l u = absurd (omega arith)
every-unused count k (f ∷ fs) e zero l u =
    let a = both-fine (unless (leb k count || eqb f 0) (refusal.NonCanonical k)) (unused_from count (suc k) fs) e in
    let t = passed (leb k count || eqb f 0) (refusal.NonCanonical k) a.0 in
    eqb-true f 0 (rw (lt-leb k count (omega arith)) at t)
every-unused count k (f ∷ fs) e (suc i) l u =
    let a = both-fine (unless (leb k count || eqb f 0) (refusal.NonCanonical k)) (unused_from count (suc k) fs) e in
    every-unused count (suc k) fs a.1 i (omega arith) (omega arith)

unused-holds : (count k f : ℕ) → (count < k → f ≡ 0) → (leb k count || eqb f 0) ≡ true
unused-holds count k f a = by_less count k (λ l. rw (lt-leb k count l, eq-eqb f 0 (a l))) (λ u. rw (le-leb k count u))

pub all-unused : (count k : ℕ) (fs : List ℕ) → ((i : ℕ) → i < length fs → count < k + i → get_or fs i 0 ≡ 0) → unused_from count k fs ≡ fine
all-unused count k [] a = refl
all-unused count k (f ∷ fs) a =
    rw (unused-holds count k f (λ u. a 0 (omega arith) (omega arith))) (all-unused count (suc k) fs (λ i l u. a (suc i) (omega arith) (omega arith)))

-- those that were written are
pub same-unused : (count k : ℕ) (ss : List (List ℕ)) → unused_from count k (fields_from count k ss) ≡ fine
same-unused count k [] = refl
same-unused count k (s ∷ ss) = rw (unused-holds count k (field count k s) (λ u. rw (lt-leb k count u))) (same-unused count (suc k) ss)

-- fields that pass both are those that are written
pub fields_back : (count k : ℕ) (fs : List ℕ) (ss : List (List ℕ)) → length fs ≡ length ss → compare_from count k fs ss ≡ fine → unused_from count k fs ≡ fine → fs ≡ fields_from count k ss
fields_back count k [] [] l c u = refl
fields_back count k [] (s ∷ ss) l c u = absurd (omega arith)
fields_back count k (f ∷ fs) [] l c u = absurd (omega arith)
fields_back count k (f ∷ fs) (s ∷ ss) l c u =
    let a = both-fine (unless (ltb count k || eqb f (segment_sum s)) (refusal.SegmentChecksum k)) (compare_from count (suc k) fs ss) c in
    let b = both-fine (unless (leb k count || eqb f 0) (refusal.NonCanonical k)) (unused_from count (suc k) fs) u in
    let p = passed (ltb count k || eqb f (segment_sum s)) (refusal.SegmentChecksum k) a.0 in
    let q = passed (leb k count || eqb f 0) (refusal.NonCanonical k) b.0 in
    ap₂ (λ (x : ℕ) (xs : List ℕ). x ∷ xs)
    (by_less count k
    (λ l. rw (lt-leb k count l) (eqb-true f 0 (rw (lt-leb k count l) at q)))
    (λ u. rw (le-leb k count u) (eqb-true f (segment_sum s) (rw (le-ltb count k u) at p))))
    (fields_back count (suc k) fs ss (omega arith) a.1 b.1)
