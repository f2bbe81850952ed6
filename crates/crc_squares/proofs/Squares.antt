-- Squares are linear too, and a step before squaring is two steps after it.

use mathlib.Core.Path.{◌≡◌, refl, sym, ap, ap₂, subst, ◌∙◌}
use Prim.Native.Nat.{ℕ, zero, suc, ◌+◌, ◌*◌, ◌/◌, ◌%◌, ◌^◌, ◌<◌}
use native.Mathlib.Nat.{zero-add, suc-add, zero-lt-suc, zero-mul, mul-one, mul-suc, pow-suc, div-lt_iff_lt-mul}
use native.Mathlib.Omega.{arith}
use lib.Arith.{lt-one}
use lib.Bits.{bit_xor, xor_comm, xor_shr, shifted_half, shifted_even}
use Rattle.crc_steps.specs.Steps.{poly, step, steps}
use Rattle.crc_steps.proofs.Linear.{Linear, at-times, low_xor, step_lt, steps-add, steps_xor}
use Rattle.crc_squares.specs.Square.{square, square_of}
use Rattle.bits.proofs.Xor.{interchange}

-- the power that the lowest of n + 1 digits stands for has
abbrev power : ℕ → ℕ
power n = steps (2 * n) (2 ^ 31)

square-cons : (n c : ℕ) → square_of (suc n) c ≡ bit_xor (c % 2 * power n) (square_of n (c / 2))
unfolding square_of
square-cons n c = refl

pub square_xor : (n : ℕ) → Linear (square_of n)
unfolding square_of
square_xor zero a b = refl
square_xor (suc n) a b =
    ap₂ bit_xor (low_xor (power n) a b) (ap (square_of n) (xor_shr a b 1) ∙ square_xor n (a / 2) (b / 2))
    ∙ interchange (a % 2 * power n) (b % 2 * power n) (square_of n (a / 2)) (square_of n (b / 2))

-- digits that are not set may be left out: the m lowest
pub square-shifted : (m n x : ℕ) → square_of (m + n) (x * 2 ^ m) ≡ square_of n x
square-shifted zero n x = ap₂ square_of (zero-add n) (mul-one x)
square-shifted (suc m) n x =
    rw (suc-add m n, square-cons (m + n) (x * 2 ^ suc m), shifted_even x m, shifted_half x m, zero-mul (power (m + n))) (square-shifted m n x)

-- a power more at the lowest digit, and at all of them
power-more : (n c : ℕ) → c % 2 * power (suc n) ≡ steps 2 (c % 2 * power n)
power-more n c =
    ap (λ (x : ℕ). c % 2 * x) (ap (λ (k : ℕ). steps k (2 ^ 31)) (mul-suc 2 n) ∙ steps-add (2 * n) 2 (2 ^ 31))
    ∙ sym (at-times (steps 2) (steps_xor 2) c (power n))

half_lt : (n c : ℕ) → c < 2 ^ suc n → c / 2 < 2 ^ n
half_lt n c h = (div-lt_iff_lt-mul (zero-lt-suc 1)).1 (subst (λ (x : ℕ). c < x) (pow-suc 2 n) h)

square-more : (n c : ℕ) → c < 2 ^ n → square_of (suc n) c ≡ steps 2 (square_of n c)
unfolding square_of steps step
square-more zero c h = ap (square_of 1) (lt-one h)
square-more (suc n) c h =
    ap₂ bit_xor (power-more n c) (square-more n (c / 2) (half_lt n c h))
    ∙ sym (steps_xor 2 (c % 2 * power n) (square_of n (c / 2)))

-- x to the 32 is what the polynomial of the CRC says that it is
square-poly : square_of 32 poly ≡ power 32
unfolding square_of steps step
square-poly = refl

square-step : (c : ℕ) → c < 2 ^ 32 → square (step c) ≡ steps 2 (square c)
unfolding step
square-step c h =
    square_xor 32 (c / 2) (c % 2 * poly)
    ∙ ap₂ bit_xor (square-more 31 (c / 2) (half_lt 31 c h)) (at-times (square_of 32) (square_xor 32) c poly ∙ ap (λ (x : ℕ). c % 2 * x) square-poly ∙ power-more 31 c)
    ∙ xor_comm (steps 2 (square_of 31 (c / 2))) (steps 2 (c % 2 * power 31))
    ∙ sym (steps_xor 2 (c % 2 * power 31) (square_of 31 (c / 2)))
    ∙ ap (steps 2) (sym (square-cons 31 c))

pub square-steps : (m c : ℕ) → c < 2 ^ 32 → square (steps m c) ≡ steps (2 * m) (square c)
unfolding steps
square-steps zero c h = refl
square-steps (suc m) c h =
    let e : 2 + 2 * m ≡ 2 * suc m = omega arith in
    rw (square-steps m (step c) (step_lt c h), square-step c h, ← (steps-add 2 (2 * m) (square c)), e)
