-- Laws of tests.
use mathlib.Core.Path.{◌≡◌, refl, sym, ◌∙◌}
use mathlib.Core.Bool.{Bool, true, false, cond, ◌&&◌, ◌||◌, true≢false}
use Prim.Native.Nat.{ℕ, ◌≤◌, ◌<◌}
use lib.Dec.{ltb}
use borrow.Author.Tests.{lt-ltb, le-ltb, ltb-true, ltb-false}

-- by whether a test holds, of a claim that names the test
pub at_test : (P : Bool → Type 0) (b : Bool) → (b ≡ true → P true) → (b ≡ false → P false) → P b
at_test P true t f = t refl
at_test P false t f = f refl

-- the same of a claim that does not
pub by_test : {A : Type 0} (b : Bool) → (b ≡ true → A) → (b ≡ false → A) → A
by_test {A} = at_test (λ _. A)

-- by which of two numbers is less
pub by_less : {A : Type 0} (a b : ℕ) → (a < b → A) → (b ≤ a → A) → A
by_less a b l g = by_test (ltb a b) (λ e. l (ltb-true a b e)) (λ e. g (ltb-false a b e))

-- two tests that say the same
pub same-less : (a b c d : ℕ) → (a < b → c < d) → (b ≤ a → d ≤ c) → ltb a b ≡ ltb c d
same-less a b c d f g = by_less a b (λ l. lt-ltb a b l ∙ sym (lt-ltb c d (f l))) (λ l. le-ltb a b l ∙ sym (le-ltb c d (g l)))

module _ {ℓ} {A : Type ℓ} (P : A → Type 0) (b : Bool) {x y : A} where
  -- the answer that a test picks
  pub by_cond : (b ≡ true → P x) → (b ≡ false → P y) → P (cond b x y)
  by_cond = at_test (λ c. P (cond c x y)) b

  -- of both answers
  pub at_cond : P x → P y → P (cond b x y)
  at_cond p q = by_cond (λ _. p) (λ _. q)

-- a test that cannot hold
pub wrong : {A : Type 0} → false ≡ true → A
wrong e = absurd (true≢false (sym e))

pub both_left : (a b : Bool) → (a && b) ≡ true → a ≡ true
both_left true b e = refl
both_left false b e = e

pub both_right : (a b : Bool) → (a && b) ≡ true → b ≡ true
both_right true b e = e
both_right false b e = wrong e

pub each_true : (a b : Bool) → (a && b) ≡ true → (a ≡ true) × (b ≡ true)
each_true a b e = (both_left a b e, both_right a b e)

pub both_true : (a b : Bool) → a ≡ true → b ≡ true → (a && b) ≡ true
both_true true b p q = q
both_true false b p q = p

-- of two that do not both hold, the second where the first does
pub second_false : (a b : Bool) → (a && b) ≡ false → a ≡ true → b ≡ false
second_false true b e q = e
second_false false b e q = wrong q

pub or_false : (a b : Bool) → b ≡ false → (a || b) ≡ a
or_false true b e = refl
or_false false b e = e

pub either_left : (a b : Bool) → a ≡ true → (a || b) ≡ true
either_left a b e = rw e

pub either-right : (a b : Bool) → b ≡ true → (a || b) ≡ true
either-right true b e = refl
either-right false b e = e
