-- The steps of the CRC are linear over xor.
use mathlib.Core.Path.{◌≡◌, refl, sym, ap, ap₂, ◌∙◌}
use Prim.Native.Nat.{ℕ, zero, suc, ◌+◌, ◌*◌, ◌/◌, ◌%◌, ◌^◌, ◌<◌}
use native.Mathlib.Nat.{mod-lt, zero-add, suc-add, zero-mul, one-mul, mul-one}
use native.Mathlib.Omega.{arith}
use lib.Bits.{bit_xor, differ, xor_comm, xor_lt, xor_self, xor_zero_r, xor_shr, xor_shifted, shifted_half, shifted_even}
use lib.Pow.{split, pow_pos}
use Rattle.bits.proofs.Xor.{digit, xor_odd, interchange}
use Rattle.crc_steps.specs.Steps.{poly, step, steps}

-- ---- linear maps

abbrev pub Linear : (ℕ → ℕ) → Type 0
Linear f = (a b : ℕ) → f (bit_xor a b) ≡ bit_xor (f a) (f b)

pub at_zero : (f : ℕ → ℕ) → Linear f → f 0 ≡ 0
at_zero f h = h 0 0 ∙ xor_self (f 0)

-- at a digit times a number
pub at-times : (f : ℕ → ℕ) → Linear f → (d p : ℕ) → f (d % 2 * p) ≡ d % 2 * f p
at-times f h d p =
    digit (λ (x : ℕ). f (x * p) ≡ x * f p) (ap f (zero-mul p) ∙ at_zero f h ∙ sym (zero-mul (f p)))
    (ap f (one-mul p) ∙ sym (one-mul (f p)))
    d

-- the low digit, times a number
pub low_xor : (p : ℕ) → Linear (λ (a : ℕ). a % 2 * p)
low_xor p a b =
    ap (λ (x : ℕ). x * p) (xor_odd a b)
    ∙ digit (λ (x : ℕ). differ x (b % 2) * p ≡ bit_xor (x * p) (b % 2 * p)) (ap (λ (x : ℕ). bit_xor x (b % 2 * p)) (sym (zero-mul p)))
    (digit (λ (y : ℕ). differ 1 y * p ≡ bit_xor (1 * p) (y * p)) (sym (ap (bit_xor (1 * p)) (zero-mul p) ∙ xor_zero_r (1 * p)))
    (zero-mul p ∙ sym (xor_self (1 * p)))
    b)
    a

pub step_xor : Linear step
unfolding step
step_xor a b =
    ap₂ bit_xor (xor_shr a b 1) (low_xor poly a b)
    ∙ interchange (a / 2) (b / 2) (a % 2 * poly) (b % 2 * poly)

pub steps_xor : (n : ℕ) → Linear (steps n)
unfolding steps
steps_xor zero a b = refl
steps_xor (suc n) a b = ap (steps n) (step_xor a b) ∙ steps_xor n (step a) (step b)

pub steps-none : (c : ℕ) → steps 0 c ≡ c
unfolding steps
steps-none c = refl

pub steps-add : (m n c : ℕ) → steps (m + n) c ≡ steps n (steps m c)
unfolding steps
steps-add zero n c = ap (λ (k : ℕ). steps k c) (zero-add n)
steps-add (suc m) n c = ap (λ (k : ℕ). steps k c) (suc-add m n) ∙ steps-add m n (step c)

-- ---- and n of them only shift what stands above the n low digits

step-shifted : (h n : ℕ) → step (h * 2 ^ suc n) ≡ h * 2 ^ n
unfolding step
step-shifted h n =
    ap₂ (λ (x y : ℕ). bit_xor x (y * poly)) (shifted_half h n) (shifted_even h n) ∙ xor_zero_r (h * 2 ^ n)

pub steps-shifted : (n h : ℕ) → steps n (h * 2 ^ n) ≡ h
unfolding steps
steps-shifted zero h = mul-one h
steps-shifted (suc n) h = ap (steps n) (step-shifted h n) ∙ steps-shifted n h

pub steps-split : (n x : ℕ) → steps n x ≡ bit_xor (steps n (x % 2 ^ n)) (x / 2 ^ n)
steps-split n x =
    ap (steps n) (sym (split x n) ∙ sym (xor_shifted (x / 2 ^ n) n (x % 2 ^ n) (mod-lt x (pow_pos n))))
    ∙ steps_xor n (x / 2 ^ n * 2 ^ n) (x % 2 ^ n)
    ∙ ap (λ (y : ℕ). bit_xor y (steps n (x % 2 ^ n))) (steps-shifted n (x / 2 ^ n))
    ∙ xor_comm (x / 2 ^ n) (steps n (x % 2 ^ n))

-- ---- words stay words

pub step_lt : (c : ℕ) → c < 2 ^ 32 → step c < 2 ^ 32
unfolding step
step_lt c h = xor_lt 32 (c / 2) (c % 2 * poly) (omega arith) (omega arith)

pub steps_lt : (n c : ℕ) → c < 2 ^ 32 → steps n c < 2 ^ 32
unfolding steps
steps_lt zero c h = h
steps_lt (suc n) c h = steps_lt n (step c) (step_lt c h)
