-- The table as it is filled, and the product that it gives.
use mathlib.Core.Bool.{Bool, true, false}
use mathlib.Core.List.{List, [], ◌∷◌}
use mathlib.Core.Path.{◌≡◌, refl, sym, ap, ap₂, ◌∙◌}
use Prim.Native.Nat.{ℕ, zero, suc, ◌+◌, ◌-◌, ◌*◌, ◌/◌, ◌%◌, ◌^◌, ◌<◌, ◌≤◌}
use native.Mathlib.Omega.{arith}
use borrow.Author.Tests.{eqb-true, eqb-false}
use lib.Arith.{lt_of_le-ne}
use native.Mathlib.Nat.{zero-mul, one-mul}
use lib.Bits.{bit_xor, xor_zero_l, xor_zero_r}
use lib.Dec.{eqb}
use lib.ListN.{get_or, length, set}
use lib.Seq.{get_or-set_same, get_or-set_other}
use Rattle.ghash.specs.Ghash.{step, mul_from, product}
use Rattle.ghash.specs.Tables.{steps, Filled}
use Rattle.ghash.proofs.Linear.{gathered, horner, steps_plus, top_four}

-- from a place to the next
pub steps-next : (j v : ℕ) → steps 4 (steps (4 * j) v) ≡ steps (4 * (j + 1)) v
steps-next j v = sym (steps_plus (4 * j) 4 v) ∙ ap (λ (l : ℕ). steps l v) (omega arith)

-- the sixteen of them, from h and the steps a, b and c behind it
abbrev pub sixteen : ℕ → ℕ → ℕ → ℕ → List ℕ
sixteen h a b c =
    0 ∷ c ∷ b ∷ (bit_xor b c)
    ∷ a ∷ (bit_xor a c) ∷ (bit_xor a b) ∷ (bit_xor (bit_xor a b) c)
    ∷ h ∷ (bit_xor h c) ∷ (bit_xor h b) ∷ (bit_xor (bit_xor h b) c)
    ∷ (bit_xor h a) ∷ (bit_xor (bit_xor h a) c) ∷ (bit_xor (bit_xor h a) b) ∷ (bit_xor (bit_xor (bit_xor h a) b) c) ∷ []

by_bits : (h i : ℕ) → i < 16 → get_or (sixteen h (step h) (step (step h)) (step (step (step h)))) i 0 ≡ mul_from 4 i 0 h
unfolding mul_from
by_bits h zero l = simp (zero-mul, xor_zero_l)
by_bits h (suc zero) l = simp (zero-mul, one-mul, xor_zero_l)
by_bits h (suc (suc zero)) l = simp (zero-mul, one-mul, xor_zero_l, xor_zero_r)
by_bits h (suc (suc (suc zero))) l = simp (zero-mul, one-mul, xor_zero_l)
by_bits h (suc (suc (suc (suc zero)))) l = simp (zero-mul, one-mul, xor_zero_l, xor_zero_r)
by_bits h (suc (suc (suc (suc (suc zero))))) l = simp (zero-mul, one-mul, xor_zero_l, xor_zero_r)
by_bits h (suc (suc (suc (suc (suc (suc zero)))))) l = simp (zero-mul, one-mul, xor_zero_l, xor_zero_r)
by_bits h (suc (suc (suc (suc (suc (suc (suc zero))))))) l = simp (zero-mul, one-mul, xor_zero_l)
by_bits h (suc (suc (suc (suc (suc (suc (suc (suc zero)))))))) l = simp (zero-mul, one-mul, xor_zero_r)
by_bits h (suc (suc (suc (suc (suc (suc (suc (suc (suc zero))))))))) l = simp (zero-mul, one-mul, xor_zero_r)
by_bits h (suc (suc (suc (suc (suc (suc (suc (suc (suc (suc zero)))))))))) l = simp (zero-mul, one-mul, xor_zero_r)
by_bits h (suc (suc (suc (suc (suc (suc (suc (suc (suc (suc (suc zero))))))))))) l = simp (zero-mul, one-mul, xor_zero_r)
by_bits h (suc (suc (suc (suc (suc (suc (suc (suc (suc (suc (suc (suc zero)))))))))))) l = simp (zero-mul, one-mul, xor_zero_r)
by_bits h (suc (suc (suc (suc (suc (suc (suc (suc (suc (suc (suc (suc (suc zero))))))))))))) l = simp (zero-mul, one-mul, xor_zero_r)
by_bits h (suc (suc (suc (suc (suc (suc (suc (suc (suc (suc (suc (suc (suc (suc zero)))))))))))))) l = simp (zero-mul, one-mul, xor_zero_r)
by_bits h (suc (suc (suc (suc (suc (suc (suc (suc (suc (suc (suc (suc (suc (suc (suc zero))))))))))))))) l = simp one-mul
by_bits h (suc (suc (suc (suc (suc (suc (suc (suc (suc (suc (suc (suc (suc (suc (suc (suc i)))))))))))))))) l = absurd (omega arith)

pub products : (h a b c : ℕ) (xs : List ℕ) → a ≡ step h → b ≡ step a → c ≡ step b → xs ≡ sixteen h a b c → (i : ℕ) → i < 16 → get_or xs i 0 ≡ mul_from 4 i 0 h
products h a b c xs ea eb ec e i l =
    let fb : b ≡ step (step h) = eb ∙ ap step ea in
    let fc : c ≡ step (step (step h)) = ec ∙ ap step fb in
    let f : xs ≡ sixteen h (step h) (step (step h)) (step (step (step h))) =
    e ∙ ap (λ (x : ℕ). sixteen h x b c) ea ∙ ap (λ (x : ℕ). sixteen h (step h) x c) fb ∙ ap (λ (x : ℕ). sixteen h (step h) (step (step h)) x) fc in
    ap (λ (t : List ℕ). get_or t i 0) f ∙ by_bits h i l

-- ---- a place more

module _ (v n : ℕ) (m : List (List ℕ)) (xs : List ℕ) (room : n < length m) (e : (k : ℕ) → k < 16 → get_or xs k 0 ≡ mul_from 4 k 0 (steps (4 * n) v)) (f : Filled v n m) where
  put : (j k : ℕ) → j < n + 1 → k < 16 → (t : Bool) → eqb j n ≡ t → get_or (get_or (set m n xs) j []) k 0 ≡ mul_from 4 k 0 (steps (4 * j) v)
  put j k h l true d = rw (eqb-true j n d, get_or-set_same m n xs [] room) (e k l)
  put j k h l false d =
      let q = eqb-false j n d in
      rw (get_or-set_other m n j xs [] q) (f.at j k (lt_of_le-ne (omega arith) q) l)

  pub filled_more : Filled v (n + 1) (set m n xs)
  filled_more = record { at = λ j k h l. put j k h l (eqb j n) refl }

-- ---- a quarter: x is the quarter of y whose lowest bit is bit n of y

-- four bits of it
pub turn-four : (v y n at j k c : ℕ) (m : List (List ℕ)) (z : ℕ) → Filled v c m → at + 8 ≤ c → j < 8 → k < 16
    → k ≡ y / 2 ^ (n + (28 - 4 * j)) % 16
    → mul_from (n + (32 - 4 * j)) y z (steps (4 * (at + j)) v)
    ≡ mul_from (n + (32 - 4 * (j + 1))) y (bit_xor z (get_or (get_or m (at + j) []) k 0)) (steps (4 * (at + (j + 1))) v)
turn-four v y n at j k c m z f room hj hk e =
    let p : n + (32 - 4 * j) ≡ n + (28 - 4 * j) + 4 = omega arith in
    let q : n + (28 - 4 * j) ≡ n + (32 - 4 * (j + 1)) = omega arith in
    let there : get_or (get_or m (at + j) []) k 0 ≡ mul_from 4 k 0 (steps (4 * (at + j)) v) = f.at (at + j) k (omega arith) hk in
    ap (λ (l : ℕ). mul_from l y z (steps (4 * (at + j)) v)) p
    ∙ top_four (n + (28 - 4 * j)) y z (steps (4 * (at + j)) v)
    ∙ ap (λ (b : ℕ). mul_from (n + (28 - 4 * j)) y (bit_xor z (mul_from 4 b 0 (steps (4 * (at + j)) v))) (steps 4 (steps (4 * (at + j)) v))) (sym e)
    ∙ ap₂ (λ (b s : ℕ). mul_from (n + (28 - 4 * j)) y (bit_xor z b) s) (sym there) (steps-next (at + j) v ∙ ap (λ (l : ℕ). steps (4 * l) v) (omega arith))
    ∙ ap (λ (l : ℕ). mul_from l y (bit_xor z (get_or (get_or m (at + j) []) k 0)) (steps (4 * (at + (j + 1))) v)) q

-- by a table of 32 places
pub four_quarters : (v y a b c d : ℕ) → mul_from 128 y 0 (steps 0 v) ≡ mul_from 96 y a (steps 32 v) → mul_from 96 y a (steps 32 v) ≡ mul_from 64 y b (steps 64 v)
    → mul_from 64 y b (steps 64 v) ≡ mul_from 32 y c (steps 96 v) → mul_from 32 y c (steps 96 v) ≡ mul_from 0 y d (steps 128 v) → d ≡ product y v
unfolding mul_from steps
four_quarters v y a b c d p q r s = sym (p ∙ q ∙ r ∙ s)

-- by a table of 8 places: r is x by v with z added, and z what the n bits below x gave, 32 steps on
pub next_quarter : (v y n x z r : ℕ) → y / 2 ^ n % 2 ^ 32 ≡ x → z ≡ steps 32 (mul_from n y 0 v) → mul_from 32 x z (steps 0 v) ≡ mul_from 0 x r (steps 32 v)
    → r ≡ mul_from (n + 32) y 0 v
unfolding mul_from steps
next_quarter v y n x z r a b e = sym e ∙ gathered 32 x z v ∙ rw (b, ← a) (sym (horner n 32 y v))

pub first_quarter : (v y : ℕ) → 0 ≡ steps 32 (mul_from 0 y 0 v)
unfolding mul_from steps step
first_quarter v y = refl
