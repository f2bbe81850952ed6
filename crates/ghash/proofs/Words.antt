-- A block as a number of 128 bits: one step, four, and a quarter.
use mathlib.Core.Bool.{Bool}
use mathlib.Core.List.{List}
use mathlib.Core.Path.{◌≡◌, refl, sym, ap, subst, ◌∙◌}
use Prim.Native.Nat.{ℕ, ◌+◌, ◌-◌, ◌*◌, ◌/◌, ◌%◌, ◌^◌, ◌<◌, ◌≤◌}
use native.Mathlib.Nat.{zero-mul, one-mul, mod-eq_of_lt}
use native.Mathlib.Omega.{arith}
use lib.Bits.{bit_xor, xor_lt}
use lib.Dec.{T, eqb, eqb→eq}
use lib.ListN.{get_or, length}
use lib.Pow.{pow_pos, shr-shr, mod-mod-pow}
use lib.Pow as pow
use Rattle.bits.proofs.Every.{at, every}
use Rattle.bits.proofs.Xor.{digit}
use Rattle.ghash.specs.Ghash.{step}
use Rattle.ghash.specs.Tables.{steps, Reduced}
use Rattle.ghash.proofs.Linear.{steps-split, spread, fallen}

pub picked_fits : (d m : ℕ) → m < 2 ^ 128 → d % 2 * m < 2 ^ 128
picked_fits d m h = digit (λ (x : ℕ). x * m < 2 ^ 128) (rw (zero-mul m) (pow_pos 128)) (rw (one-mul m) h) d

-- ---- the constant table, by a test at its 16 entries

abbrev pub right : ℕ → ℕ → Bool
unfolding steps step
right k x = eqb x (steps 4 k)

pub reduced_by : {t : List ℕ} → length t ≡ 16 → T (every right 0 t) → Reduced t
unfolding steps step
reduced_by {t} l p = record { at = λ k h. eqb→eq (get_or t k 0) (steps 4 k) (at right t p k (subst (λ (n : ℕ). k < n) (sym l) h)) }

-- ---- k steps, r what falls out

pub moved_by : (k z r : ℕ) → r ≡ steps k (z % 2 ^ k) → bit_xor (z / 2 ^ k) r ≡ steps k z
moved_by k z r e = ap (bit_xor (z / 2 ^ k)) e ∙ sym (steps-split k z)

pub spread-fits : (x : ℕ) → x < 2 ^ 32 → spread x < 2 ^ 39
spread-fits x h =
    xor_lt 39 (bit_xor (bit_xor (x * 128) (x * 64)) (x * 32)) x
    (xor_lt 39 (bit_xor (x * 128) (x * 64)) (x * 32) (xor_lt 39 (x * 128) (x * 64) (omega arith) (omega arith)) (omega arith))
    (omega arith)

-- ---- the four bits at a place of a quarter of y
pub bits_at : (y n i x : ℕ) → i + 4 ≤ 32 → y / 2 ^ n % 2 ^ 32 ≡ x → x / 2 ^ i % 16 ≡ y / 2 ^ (n + i) % 16
bits_at y n i x h e =
    ap (λ (w : ℕ). w / 2 ^ i % 16) (sym e)
    ∙ ap (λ (w : ℕ). y / 2 ^ n % 2 ^ w / 2 ^ i % 16) q
    ∙ ap (λ (w : ℕ). w % 16) (pow.field (y / 2 ^ n) (28 - i + 4) i)
    ∙ mod-mod-pow (y / 2 ^ n / 2 ^ i) (28 - i) 4
    ∙ ap (λ (w : ℕ). w % 16) (shr-shr y n i)
  where
    q : 32 ≡ 28 - i + 4 + i
    q = omega arith

pub quarter_fallen : (x : ℕ) → x < 2 ^ 32 → spread x * 2 ^ 89 % 2 ^ 128 ≡ steps 32 x
quarter_fallen x h =
    let b : spread x * 2 ^ 89 < 2 ^ 128 = omega (arith, spread-fits x h) in
    mod-eq_of_lt b ∙ sym (fallen 32 89 x refl h)

pub quarter_alone : (x : ℕ) → x < 2 ^ 32 → x / 2 ^ 0 % 2 ^ 32 ≡ x
quarter_alone x h = omega arith
