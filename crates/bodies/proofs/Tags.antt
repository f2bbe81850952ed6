-- Kinds that compare alike are the same, and which tags a request may have.
use mathlib.Core.Path.{◌≡◌, refl, sym, ap, ap₂, ◌∙◌}
use mathlib.Core.Bool.{Bool, true, false, ◌&&◌, ◌||◌}
use mathlib.Core.List.{List, [], ◌∷◌}
use Prim.Native.Nat.{ℕ, zero, suc, ◌<◌}
use native.Mathlib.Omega.{arith}
use native.Mathlib.Nat.{not-suc-le-zero}
use lib.Dec.{eqb}
use lib.ListN.{get_or}
use borrow.Author.Tests.{eqb-true, eq-eqb}
use Rattle.refusal.proofs.Booleans.{by_less, wrong, each_true}
use Rattle.fields.specs.Layout.{Kind}
use Rattle.fields.specs.Layout as kind
use Rattle.bodies.specs.declared.Ident.{Ident}
use Rattle.bodies.specs.declared.Reconnect.{Reconnect}
use Rattle.bodies.specs.declared.Request.TheVariants as request
use Rattle.bodies.specs.Write.{kinds_of, writes}
use Rattle.bodies.specs.Table.{hello, auth_request, bad_method, more, auth_done, ident, reconnect, one_number, reset, stamp, shape, width, same_kinds, Found, listed, unlisted, is_listed, layout_in, layout_of}

kind_by : ℕ → ℕ → Kind
kind_by n w = get_or (kind.number w ∷ kind.negative ∷ kind.numbers ∷ kind.payload ∷ kind.opaque w ∷ []) n (kind.fixed w)

kind_by_lem : (k : Kind) → kind_by (shape k) (width k) ≡ k
unfolding kind_by
kind_by_lem (kind.number w) = refl
kind_by_lem kind.negative = refl
kind_by_lem kind.numbers = refl
kind_by_lem kind.payload = refl
kind_by_lem (kind.opaque k) = refl
kind_by_lem (kind.fixed w) = refl

same_kind : (j k : Kind) → eqb (shape j) (shape k) ≡ true → eqb (width j) (width k) ≡ true → j ≡ k
same_kind j k a b =
    sym (kind_by_lem j) ∙ ap₂ kind_by (eqb-true (shape j) (shape k) a) (eqb-true (width j) (width k) b) ∙ kind_by_lem k

same-kinds : (js ks : List Kind) → same_kinds js ks ≡ true → js ≡ ks
same-kinds [] [] h = refl
same-kinds [] (k ∷ ks) h = wrong cc
same-kinds (j ∷ js) [] h = wrong cc
same-kinds (j ∷ js) (k ∷ ks) h =
    let a = each_true (eqb (shape j) (shape k)) (eqb (width j) (width k) && same_kinds js ks) h in
    let b = each_true (eqb (width j) (width k)) (same_kinds js ks) a.1 in
    ap₂ (λ (x : Kind) (xs : List Kind). x ∷ xs) (same_kind j k a.0 b.0) (same-kinds js ks b.1)

pub is-listed : (f : Found) (ks : List Kind) → is_listed f ks ≡ true → f ≡ listed ks
is-listed (listed js) ks h = ap listed (same-kinds js ks h)
is-listed unlisted ks h = wrong cc

-- and the other way
kinds-same : (ks : List Kind) → same_kinds ks ks ≡ true
kinds-same [] = refl
kinds-same (k ∷ ks) = rw (eq-eqb (shape k) (shape k) refl, eq-eqb (width k) (width k) refl, kinds-same ks)

pub listed-is : (f : Found) (ks : List Kind) → f ≡ listed ks → is_listed f ks ≡ true
listed-is f ks e = rw e (kinds-same ks)

-- ---- a test over every tag, computed

same_bool : Bool → Bool → Bool
same_bool true b = b
same_bool false true = false
same_bool false false = true

same_bool_lem : (a b : Bool) → same_bool a b ≡ true → a ≡ b
unfolding same_bool
same_bool_lem true b h = sym h
same_bool_lem false true h = wrong cc
same_bool_lem false false h = refl

every_below : ℕ → (ℕ → Bool) → Bool
every_below zero p = true
every_below (suc n) p = p n && every_below n p

every-below : (n i : ℕ) (p : ℕ → Bool) → every_below n p ≡ true → i < n → p i ≡ true
unfolding every_below
every-below zero i p h l = absurd (not-suc-le-zero l)
every-below (suc n) i p h l =
    let a = each_true (p n) (every_below n p) h in
    by_less i n (every-below n i p a.1) (λ k. let e : i ≡ n = omega arith in rw e a.0)

-- a byte's tags are those that a test says, where the two agree on every byte
by_byte : (f : ℕ → Bool) (ks : List Kind) (tag : ℕ) → every_below 256 (λ t. same_bool (f t) (is_listed (layout_of t) ks)) ≡ true → tag < 256 → f tag ≡ is_listed (layout_of tag) ks
by_byte f ks tag h l = same_bool_lem (f tag) (is_listed (layout_of tag) ks) (every-below 256 tag (λ t. same_bool (f t) (is_listed (layout_of t) ks)) h l)

-- ---- the tags of each request

pub serves_hello : (tag : ℕ) (n : ℕ) → tag < 256 → (eqb tag 1) ≡ writes tag (request.Hello n)
unfolding every_below same_bool layout_in writes kinds_of
serves_hello tag n h = by_byte (λ t. eqb t 1) hello tag refl h

pub serves_auth_request : (tag : ℕ) (m : ℕ) → tag < 256 → (eqb tag 2) ≡ writes tag (request.AuthRequest m)
unfolding every_below same_bool layout_in writes kinds_of
serves_auth_request tag m h = by_byte (λ t. eqb t 2) auth_request tag refl h

pub serves_bad_method : (tag : ℕ) (m e : ℕ) → tag < 256 → (eqb tag 3) ≡ writes tag (request.BadMethod m e)
unfolding every_below same_bool layout_in writes kinds_of
serves_bad_method tag m e h = by_byte (λ t. eqb t 3) bad_method tag refl h

pub serves_more : (tag : ℕ) → tag < 256 → (eqb tag 4 || eqb tag 5) ≡ writes tag request.More
unfolding every_below same_bool layout_in writes kinds_of
serves_more tag h = by_byte (λ t. eqb t 4 || eqb t 5) more tag refl h

pub serves_auth_done : (tag : ℕ) (g m : ℕ) → tag < 256 → (eqb tag 6) ≡ writes tag (request.AuthDone g m)
unfolding every_below same_bool layout_in writes kinds_of
serves_auth_done tag g m h = by_byte (λ t. eqb t 6) auth_done tag refl h

pub serves_ident : (tag : ℕ) (n : ℕ) (i : Ident) → tag < 256 → (eqb tag 8 || eqb tag 9) ≡ writes tag (request.Ident n i)
unfolding every_below same_bool layout_in writes kinds_of
serves_ident tag n i h = by_byte (λ t. eqb t 8 || eqb t 9) ident tag refl h

pub serves_reconnect : (tag : ℕ) (n : ℕ) (k : Reconnect) → tag < 256 → (eqb tag 11) ≡ writes tag (request.Reconnect n k)
unfolding every_below same_bool layout_in writes kinds_of
serves_reconnect tag n k h = by_byte (λ t. eqb t 11) reconnect tag refl h

pub serves_number : (tag : ℕ) (n : ℕ) → tag < 256 → (eqb tag 10 || (eqb tag 15 || eqb tag 20)) ≡ writes tag (request.Number n)
unfolding every_below same_bool layout_in writes kinds_of
serves_number tag n h = by_byte (λ t. eqb t 10 || (eqb t 15 || eqb t 20)) one_number tag refl h

pub serves_reset : (tag : ℕ) (n : ℕ) → tag < 256 → (eqb tag 12) ≡ writes tag (request.Reset n)
unfolding every_below same_bool layout_in writes kinds_of
serves_reset tag n h = by_byte (λ t. eqb t 12) reset tag refl h

pub serves_stamp : (tag : ℕ) → tag < 256 → (eqb tag 18 || eqb tag 19) ≡ writes tag request.Stamp
unfolding every_below same_bool layout_in writes kinds_of
serves_stamp tag h = by_byte (λ t. eqb t 18 || eqb t 19) stamp tag refl h

-- of two tests, as the code makes them one behind the other
pub first_of_two : (a b : Bool) {r : Bool} → (a || b) ≡ r → a ≡ true → a ≡ r
first_of_two true b e h = e
first_of_two false b e h = wrong h

pub second_of_two : (a b : Bool) {r : Bool} → (a || b) ≡ r → a ≡ false → b ≡ r
second_of_two true b e h = wrong (sym h)
second_of_two false b e h = e

pub ruleset served = (serves_hello, serves_auth_request, serves_bad_method, serves_more, serves_auth_done, serves_ident, serves_reconnect, serves_number, serves_reset, serves_stamp)
