-- Steps and products are linear, and the product taken four bits of x at a time.
use mathlib.Core.Path.{◌≡◌, refl, sym, ap, ap₂, subst, ◌∙◌}
use Prim.Native.Nat.{ℕ, zero, suc, ◌+◌, ◌-◌, ◌*◌, ◌/◌, ◌%◌, ◌^◌, ◌<◌, ◌≤◌}
use native.Mathlib.Nat.{mod-lt, zero-mul, one-mul, mul-one, mul_assoc, add-zero, add-suc, zero-add, suc-add, pow-succ'}
use native.Mathlib.Numerals.{add-one}
use native.Mathlib.Omega.{arith}
use lib.Bits.{bit_xor, differ, xor_comm, xor_zero_l, xor_zero_r, xor_shr, xor_block, xor_shifted, shifted_half, shifted_even}
use lib.Arith.{lt-one}
use lib.Pow.{split, pow_pos, pow-add, shr_lt, shr-shr, mod-mod-pow}
use lib.Pow as pow
use Rattle.bits.proofs.Xor.{digit, xor_assoc, xor_odd, interchange}
use Rattle.ghash.specs.Ghash.{reduction, step, mul_from}
use Rattle.ghash.specs.Tables.{steps}

-- ---- the steps are linear

reduce : (a b : ℕ) → differ (a % 2) (b % 2) * reduction ≡ bit_xor (a % 2 * reduction) (b % 2 * reduction)
reduce a b =
    digit (λ (x : ℕ). differ x (b % 2) * reduction ≡ bit_xor (x * reduction) (b % 2 * reduction)) (sym (xor_zero_l (b % 2 * reduction)))
    (digit (λ (y : ℕ). differ 1 y * reduction ≡ bit_xor (1 * reduction) (y * reduction)) refl refl b)
    a

step_xor : (a b : ℕ) → step (bit_xor a b) ≡ bit_xor (step a) (step b)
unfolding step
step_xor a b =
    ap₂ bit_xor (xor_shr a b 1) (ap (λ (x : ℕ). x * reduction) (xor_odd a b) ∙ reduce a b)
    ∙ interchange (a / 2) (b / 2) (a % 2 * reduction) (b % 2 * reduction)

pub steps_xor : (n a b : ℕ) → steps n (bit_xor a b) ≡ bit_xor (steps n a) (steps n b)
unfolding steps
steps_xor zero a b = refl
steps_xor (suc n) a b = ap (steps n) (step_xor a b) ∙ steps_xor n (step a) (step b)

step-shifted : (h n : ℕ) → step (h * 2 ^ suc n) ≡ h * 2 ^ n
unfolding step
step-shifted h n =
    ap₂ (λ (x y : ℕ). bit_xor x (y * reduction)) (shifted_half h n) (shifted_even h n) ∙ xor_zero_r (h * 2 ^ n)

steps-shifted : (n h : ℕ) → steps n (h * 2 ^ n) ≡ h
unfolding steps
steps-shifted zero h = mul-one h
steps-shifted (suc n) h = ap (steps n) (step-shifted h n) ∙ steps-shifted n h

-- n steps, by a table for the n bits that fall out
pub steps-split : (n x : ℕ) → steps n x ≡ bit_xor (x / 2 ^ n) (steps n (x % 2 ^ n))
steps-split n x =
    ap (steps n) (sym (split x n) ∙ sym (xor_shifted (x / 2 ^ n) n (x % 2 ^ n) (mod-lt x (pow_pos n))))
    ∙ steps_xor n (x / 2 ^ n * 2 ^ n) (x % 2 ^ n)
    ∙ ap (λ (y : ℕ). bit_xor y (steps n (x % 2 ^ n))) (steps-shifted n (x / 2 ^ n))

-- ---- the product is linear in v, and what was gathered stands apart

pub gathered : (n x z v : ℕ) → mul_from n x z v ≡ bit_xor z (mul_from n x 0 v)
unfolding mul_from
gathered zero x z v = sym (xor_zero_r z)
gathered (suc n) x z v =
    rw (gathered n x (bit_xor z (x / 2 ^ n % 2 * v)) (step v), gathered n x (x / 2 ^ n % 2 * v) (step v)) (xor_assoc z (x / 2 ^ n % 2 * v) (mul_from n x 0 (step v)))

picked-step : (d v : ℕ) → d % 2 * step v ≡ step (d % 2 * v)
unfolding step
picked-step d v =
    digit (λ (x : ℕ). x * step v ≡ step (x * v))
    (zero-mul (step v) ∙ ap step (sym (zero-mul v)))
    (one-mul (step v) ∙ ap step (sym (one-mul v)))
    d

mul-step : (n x v : ℕ) → mul_from n x 0 (step v) ≡ step (mul_from n x 0 v)
unfolding mul_from step
mul-step zero x v = refl
mul-step (suc n) x v =
    gathered n x (x / 2 ^ n % 2 * step v) (step (step v))
    ∙ ap₂ bit_xor (picked-step (x / 2 ^ n) v) (mul-step n x (step v))
    ∙ sym (step_xor (x / 2 ^ n % 2 * v) (mul_from n x 0 (step v)))
    ∙ ap step (sym (gathered n x (x / 2 ^ n % 2 * v) (step v)))

pub mul-steps : (k n x v : ℕ) → mul_from n x 0 (steps k v) ≡ steps k (mul_from n x 0 v)
unfolding steps
mul-steps zero n x v = refl
mul-steps (suc k) n x v = mul-steps k n x (step v) ∙ ap (steps k) (mul-step n x v)

-- ---- the m bits above the n lowest

above : (n m x z v : ℕ) → mul_from (n + m) x z v ≡ mul_from n x (mul_from m (x / 2 ^ n) z v) (steps m v)
unfolding mul_from steps
above n zero x z v = ap (λ (k : ℕ). mul_from k x z v) (add-zero n)
above n (suc m) x z v =
    ap (λ (k : ℕ). mul_from k x z v) (add-suc n m)
    ∙ ap (λ (y : ℕ). mul_from (n + m) x (bit_xor z (y % 2 * v)) (step v)) (sym (shr-shr x n m))
    ∙ above n m x (bit_xor z (x / 2 ^ n / 2 ^ m % 2 * v)) (step v)

low_bit : (k x n j : ℕ) → (j + 1) + n ≡ k → x / 2 ^ n % 2 ≡ x % 2 ^ k / 2 ^ n % 2
low_bit k x n j e =
    sym (mod-mod-pow (x / 2 ^ n) j 1)
    ∙ ap (λ (y : ℕ). y % 2) (sym (pow.field x (j + 1) n) ∙ ap (λ (i : ℕ). x % 2 ^ i / 2 ^ n) e)

-- only the low bits count
lowest : (k n x z v : ℕ) → n ≤ k → mul_from n x z v ≡ mul_from n (x % 2 ^ k) z v
unfolding mul_from
lowest k zero x z v h = refl
lowest k (suc n) x z v h =
    ap (λ (y : ℕ). mul_from n x (bit_xor z (y * v)) (step v)) (low_bit k x n (k - 1 - n) (omega arith))
    ∙ lowest k n x (bit_xor z (x % 2 ^ k / 2 ^ n % 2 * v)) (step v) (omega arith)

-- the four highest of n + 4 bits, and the rest
pub top_four : (n x z v : ℕ) → mul_from (n + 4) x z v ≡ mul_from n x (bit_xor z (mul_from 4 (x / 2 ^ n % 16) 0 v)) (steps 4 v)
top_four n x z v = rw (above n 4 x z v, gathered 4 (x / 2 ^ n) z v, lowest 4 4 (x / 2 ^ n) 0 v (omega arith))

pub steps_plus : (a b v : ℕ) → steps (a + b) v ≡ steps b (steps a v)
unfolding steps
steps_plus zero b v = ap (λ (n : ℕ). steps n v) (zero-add b)
steps_plus (suc a) b v = ap (λ (n : ℕ). steps n v) (suc-add a b) ∙ steps_plus a b (step v)

-- the product by the n lowest bits, and by the m above them
pub horner : (n m x v : ℕ) → mul_from (n + m) x 0 v ≡ bit_xor (steps m (mul_from n x 0 v)) (mul_from m (x / 2 ^ n % 2 ^ m) 0 v)
horner n m x v =
    rw (above n m x 0 v, gathered n x (mul_from m (x / 2 ^ n) 0 v) (steps m v), lowest m m (x / 2 ^ n) 0 v (omega arith), mul-steps m n x v)
    (xor_comm (mul_from m (x / 2 ^ n % 2 ^ m) 0 v) (steps m (mul_from n x 0 v)))

-- ---- what falls out of n steps: its product with 11100001, without carries, set in place

abbrev pub spread : ℕ → ℕ
spread m = bit_xor (bit_xor (bit_xor (m * 128) (m * 64)) (m * 32)) m

scaled : (e a b : ℕ) → bit_xor a b * 2 ^ e ≡ bit_xor (a * 2 ^ e) (b * 2 ^ e)
scaled e a b = sym (simp add-zero at (xor_block e a b 0 0 (pow_pos e) (pow_pos e)))

spread_xor : (a b : ℕ) → spread (bit_xor a b) ≡ bit_xor (spread a) (spread b)
spread_xor a b =
    ap (λ (x : ℕ). bit_xor x (bit_xor a b))
    (ap₂ bit_xor (ap₂ bit_xor (scaled 7 a b) (scaled 6 a b) ∙ interchange (a * 128) (b * 128) (a * 64) (b * 64)) (scaled 5 a b)
    ∙ interchange (bit_xor (a * 128) (a * 64)) (bit_xor (b * 128) (b * 64)) (a * 32) (b * 32))
    ∙ interchange (bit_xor (bit_xor (a * 128) (a * 64)) (a * 32)) (bit_xor (bit_xor (b * 128) (b * 64)) (b * 32)) a b

spread-double : (m : ℕ) → spread m * 2 ≡ spread (m * 2)
spread-double m =
    let p : m * 128 * 2 ≡ m * 2 * 128 = omega arith in
    let q : m * 64 * 2 ≡ m * 2 * 64 = omega arith in
    let r : m * 32 * 2 ≡ m * 2 * 32 = omega arith in
    scaled 1 (bit_xor (bit_xor (m * 128) (m * 64)) (m * 32)) m
    ∙ ap (λ (x : ℕ). bit_xor x (m * 2))
    (scaled 1 (bit_xor (m * 128) (m * 64)) (m * 32) ∙ ap₂ bit_xor (scaled 1 (m * 128) (m * 64) ∙ ap₂ bit_xor p q) r)

pub steps-zero : (n : ℕ) → steps n 0 ≡ 0
unfolding steps step
steps-zero zero = refl
steps-zero (suc n) = steps-zero n

-- the lowest bit of n + 1
lowest-fallen : (n e m : ℕ) → e + n ≡ 120 → steps n (m % 2 * reduction) ≡ spread (m % 2) * 2 ^ e
lowest-fallen n e m q =
    digit (λ (x : ℕ). steps n (x * reduction) ≡ spread x * 2 ^ e) (steps-zero n ∙ sym (zero-mul (2 ^ e)))
    (ap (steps n) (ap (λ (k : ℕ). 0xe1 * 2 ^ k) (sym q) ∙ ap (λ (x : ℕ). 0xe1 * x) (pow-add 2 e n) ∙ sym (mul_assoc 0xe1 (2 ^ e) (2 ^ n)))
    ∙ steps-shifted n (0xe1 * 2 ^ e))
    m

pub fallen : (n e m : ℕ) → e + n ≡ 121 → m < 2 ^ n → steps n m ≡ spread m * 2 ^ e
unfolding steps step
fallen zero e m q h =
    let z : m ≡ 0 = lt-one h in
    z ∙ sym (ap (λ (x : ℕ). spread x * 2 ^ e) z ∙ zero-mul (2 ^ e))
fallen (suc n) e m q h =
    steps_xor n (m / 2) (m % 2 * reduction)
    ∙ ap₂ bit_xor
    (fallen n (suc e) (m / 2) (omega arith) (shr_lt n 1 (subst (λ (k : ℕ). m < 2 ^ k) (sym (add-one n)) h))
    ∙ ap (λ (x : ℕ). spread (m / 2) * x) (pow-succ' 2 e)
    ∙ sym (mul_assoc (spread (m / 2)) 2 (2 ^ e))
    ∙ ap (λ (x : ℕ). x * 2 ^ e) (spread-double (m / 2)))
    (lowest-fallen n e m (omega arith))
    ∙ sym (scaled e (spread (m / 2 * 2)) (spread (m % 2)))
    ∙ ap (λ (x : ℕ). x * 2 ^ e)
    (sym (spread_xor (m / 2 * 2) (m % 2)) ∙ ap (λ (x : ℕ). spread x) (xor_shifted (m / 2) 1 (m % 2) (mod-lt m (pow_pos 1)) ∙ split m 1))
