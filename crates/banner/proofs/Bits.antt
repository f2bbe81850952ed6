-- What the machine's counts and masks give is what the definitions say bit by bit.
use mathlib.Core.Path.{◌≡◌, refl, ap, ◌∙◌}
use mathlib.Core.Bool.{cond}
use Prim.Native.Nat.{ℕ, zero, suc, ◌+◌, ◌*◌, ◌/◌, ◌%◌, ◌-◌, ◌^◌, ◌<◌, min}
use native.Mathlib.Nat.{pow-suc, div-lt_iff_lt-mul}
use native.Mathlib.Omega.{arith}
use lib.Dec.{lit<, eqb}
use lib.Arith.{lt-one, le-zero}
use lib.Bits.{bit_and, and_step, and_zero_l}
use lib.Count.{ones, ones_step, ones-le, count_trailing_zeros, under}
use Rattle.banner.specs.Bits.{bit_count, lowest_bit, missing}

halved : (k n : ℕ) → n < 2 ^ suc k → n / 2 < 2 ^ k
halved k n h = (div-lt_iff_lt-mul (lit< tt)).1 (rw pow-suc at h)

pub ones_count : (k n : ℕ) → n < 2 ^ k → ones n ≡ bit_count k n
unfolding bit_count
ones_count zero n h = le-zero (ones-le 0 n h)
ones_count (suc k) n h = ones_step n ∙ ap (λ (x : ℕ). n % 2 + x) (ones_count k (n / 2) (halved k n h))

under-is : (d t : ℕ) → d < 2 → under d t ≡ cond (eqb d 1) 0 (suc t)
under-is zero t h = refl
under-is (suc zero) t h = refl
under-is (suc (suc d)) t h = absurd (omega arith)

pub zeros-lowest : (k n : ℕ) → count_trailing_zeros k n ≡ lowest_bit k n
unfolding count_trailing_zeros lowest_bit
zeros-lowest zero n = refl
zeros-lowest (suc k) n =
    under-is (n % 2) (count_trailing_zeros k (n / 2)) (omega arith)
    ∙ ap (λ (t : ℕ). cond (eqb (n % 2) 1) 0 (suc t)) (zeros-lowest k (n / 2))

-- what `r & !s` gives
pub missing-is : (k r s : ℕ) → r < 2 ^ k → s < 2 ^ k → bit_and r (2 ^ k - 1 - s) ≡ missing k r s
unfolding missing
missing-is zero r s hr hs = rw (lt-one hr) (and_zero_l (2 ^ 0 - 1 - s))
missing-is (suc k) r s hr hs =
    let half : (2 ^ suc k - 1 - s) / 2 ≡ 2 ^ k - 1 - s / 2 = omega arith in
    let odd : (2 ^ suc k - 1 - s) % 2 ≡ 1 - s % 2 = omega arith in
    and_step r (2 ^ suc k - 1 - s)
    ∙ rw (half, odd) (ap (λ (x : ℕ). x * 2 + min (r % 2) (1 - s % 2)) (missing-is k (r / 2) (s / 2) (halved k r hr) (halved k s hs)))
