-- Two runs of bytes compared with no early end: a difference stays in what is gathered.
use mathlib.Core.Bool.{Bool, true, ◌&&◌, and_assoc, and-true}
use mathlib.Core.List.{List, [], ◌∷◌}
use mathlib.Core.Path.{◌≡◌, refl, sym, ap, ap₂, ◌∙◌}
use Prim.Native.Nat.{ℕ, ◌+◌, ◌<◌}
use native.Mathlib.Numerals.{add-one}
use native.Mathlib.Omega.{arith}
use borrow.Author.Tests.{eq-eqb, ne_eqb, eqb-true, eqb-false}
use lib.Bits.{bit_xor, bit_or, or_zero_l, or_add_and, and_le_r, xor_self, xor_zero_l}
use lib.Dec.{eqb}
use lib.ListN.{length, get_or, drop}
use lib.Seq.{drop-cons, drop-length}
use Rattle.bits.proofs.Xor.{xor_twice}
use Rattle.refusal.proofs.Booleans.{by_test}
use Rattle.gcm.specs.Gcm.{same_as}

or_none : (a b : ℕ) → eqb (bit_or a b) 0 ≡ (eqb a 0 && eqb b 0)
or_none a b =
    by_test (eqb a 0) (λ e. let z : a ≡ 0 = eqb-true a 0 e in rw z (ap (λ (x : ℕ). eqb x 0) (or_zero_l b)))
    (λ e. rw e (ne_eqb (bit_or a b) 0 (λ z. eqb-false a 0 e (omega (arith, or_add_and a b, and_le_r a b)))))

xor_none : (x y : ℕ) → eqb (bit_xor x y) 0 ≡ eqb x y
xor_none x y =
    by_test (eqb x y) (λ e. rw e (eq-eqb (bit_xor x y) 0 (rw (eqb-true x y e) (xor_self y))))
    (λ e. rw e (ne_eqb (bit_xor x y) 0 (λ z. eqb-false x y e (sym (xor_twice x y) ∙ rw z (xor_zero_l y)))))

-- a turn of the loop: d is what was gathered
pub same_next : (xs ys : List ℕ) (i d : ℕ) → i < length xs → i < length ys
    → (eqb d 0 && same_as (drop i xs) (drop i ys))
    ≡ (eqb (bit_or d (bit_xor (get_or xs i 0) (get_or ys i 0))) 0 && same_as (drop (i + 1) xs) (drop (i + 1) ys))
unfolding same_as
same_next xs ys i d h k =
    let x : ℕ = get_or xs i 0 in
    let y : ℕ = get_or ys i 0 in
    let r : Bool = same_as (drop (i + 1) xs) (drop (i + 1) ys) in
    let e : same_as (drop i xs) (drop i ys) ≡ (eqb (get_or xs i 0) (get_or ys i 0) && same_as (drop (i + 1) xs) (drop (i + 1) ys)) =
    rw (drop-cons xs i 0 h, drop-cons ys i 0 k, add-one i) in
    ap (λ (t : Bool). eqb d 0 && t) e
    ∙ sym (and_assoc (eqb d 0) (eqb x y) r)
    ∙ ap (λ (t : Bool). t && r) (ap (λ (t : Bool). eqb d 0 && t) (sym (xor_none x y)) ∙ sym (or_none d (bit_xor x y)))

pub same_end : (xs ys : List ℕ) (i d : ℕ) → i ≡ length xs → length xs ≡ length ys → (eqb d 0 && same_as (drop i xs) (drop i ys)) ≡ eqb d 0
unfolding same_as
same_end xs ys i d e l =
    ap (λ (t : Bool). eqb d 0 && t)
    (ap₂ same_as (ap (λ (k : ℕ). drop k xs) e ∙ drop-length xs) (ap (λ (k : ℕ). drop k ys) (e ∙ l) ∙ drop-length ys))
    ∙ and-true (eqb d 0)

pub same_self : (xs : List ℕ) → same_as xs xs ≡ true
unfolding same_as
same_self [] = refl
same_self (x ∷ xs) = ap (λ (b : Bool). b && same_as xs xs) (eq-eqb x x refl) ∙ same_self xs
