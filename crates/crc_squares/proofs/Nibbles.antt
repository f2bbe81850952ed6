-- What a table gives for a number is what it has at the number's nibbles, put together: where both are linear, one follows from the other.

use mathlib.Core.Path.{◌≡◌, refl, sym, ap, ap₂, subst, ◌∙◌}
use Prim.Native.Nat.{ℕ, zero, suc, ◌+◌, ◌-◌, ◌*◌, ◌/◌, ◌%◌, ◌^◌, ◌≤◌, ◌<◌}
use native.Mathlib.Nat.{add-zero, zero-add, add-suc, zero-mul, mul-one, mul-suc, mul_assoc, mul_right_comm, mod-lt}
use native.Mathlib.Omega.{arith}
use lib.Arith.{lt-one}
use lib.Bits.{bit_xor, bit_and, xor_block, xor_comm, xor_shifted, xor_zero_r, and_mask}
use lib.Pow.{pow-add, pow_pos, shr_lt, split}
use Rattle.crc_steps.proofs.Linear.{Linear, at_zero}
use Rattle.bits.proofs.Xor.{xor_assoc}
use Rattle.crc_squares.specs.Square.{square}
use Rattle.crc_squares.specs.Table.{root_or_square_at, nibbles}
use Rattle.crc_squares.proofs.Rules.{roots, squares}
use Rattle.crc_squares.proofs.Squares.{square_xor}

-- ---- what a loop over the eight nibbles has done and has left

pub nibbles-next : (t : ℕ → ℕ) (r e x j n : ℕ) → n < 8 → e ≡ t ((j + n) * 16 + bit_and x 15)
    → bit_xor (bit_xor r e) (nibbles t (j + (n + 1)) (8 - (n + 1)) (x / 16)) ≡ bit_xor r (nibbles t (j + n) (8 - n) x)
unfolding nibbles
nibbles-next t r e x j n h is =
    let f : 8 - n ≡ suc (8 - (n + 1)) = omega arith in
    let g : j + (n + 1) ≡ suc (j + n) = omega arith in
    xor_assoc r e (nibbles t (j + (n + 1)) (8 - (n + 1)) (x / 16))
    ∙ ap (bit_xor r) (rw (is, f, g, and_mask x 4))

pub nibbles-end : (t : ℕ → ℕ) (r x j n : ℕ) → 8 ≤ n → r ≡ bit_xor r (nibbles t j (8 - n) x)
unfolding nibbles
nibbles-end t r x j n h =
    let e : 8 - n ≡ 0 = omega arith in
    sym (ap (λ (n : ℕ). bit_xor r (nibbles t j n x)) e ∙ xor_zero_r r)

-- ---- a number from its lowest nibble and the rest

place : (j k : ℕ) → k * 2 ^ (4 * suc j) ≡ k * 2 ^ (4 * j) * 16
place j k = rw (mul-suc 4 j, pow-add 2 (4 * j) 4, ← (mul_assoc k (2 ^ (4 * j)) 16))

shl_xor : (k a b : ℕ) → bit_xor (a * 2 ^ k) (b * 2 ^ k) ≡ bit_xor a b * 2 ^ k
shl_xor k a b = simp add-zero at (xor_block k a b 0 0 (pow_pos k) (pow_pos k))

lowest : (j x : ℕ) → bit_xor (x % 16 * 2 ^ (4 * j)) (x / 16 * 2 ^ (4 * suc j)) ≡ x * 2 ^ (4 * j)
lowest j x =
    rw (place j (x / 16), mul_right_comm (x / 16) (2 ^ (4 * j)) 16, shl_xor (4 * j) (x % 16) (x / 16 * 16), xor_comm (x % 16) (x / 16 * 16), xor_shifted (x / 16) 4 (x % 16) (mod-lt x (pow_pos 4)), split x 4)

-- ---- the table's places from p on, N of them, have under g what f gives at each nibble at its place

module _ (g f : ℕ → ℕ) (g-xor : Linear g) (f-xor : Linear f) (t : ℕ → ℕ) (p N : ℕ)
    (rule : (j k : ℕ) → j < N → k < 16 → g (t ((p + j) * 16 + k)) ≡ f (k * 2 ^ (4 * j))) where
  pub placed : (n j x : ℕ) → j + n ≤ N → x < 2 ^ (4 * n) → g (nibbles t (p + j) n x) ≡ f (x * 2 ^ (4 * j))
  unfolding nibbles
  placed zero j x h l =
      at_zero g g-xor
      ∙ sym (ap f (ap (λ (y : ℕ). y * 2 ^ (4 * j)) (lt-one l) ∙ zero-mul (2 ^ (4 * j))) ∙ at_zero f f-xor)
  placed (suc n) j x h l =
      let l' : x < 2 ^ (4 * n + 4) = subst (λ (k : ℕ). x < 2 ^ k) (mul-suc 4 n) l in
      g-xor (t ((p + j) * 16 + x % 16)) (nibbles t (suc (p + j)) n (x / 16))
      ∙ ap₂ bit_xor (rule j (x % 16) (omega arith) (mod-lt x (pow_pos 4)))
      (ap (λ (q : ℕ). g (nibbles t q n (x / 16))) (sym (add-suc p j)) ∙ placed n (suc j) (x / 16) (omega arith) (shr_lt (4 * n) 4 l'))
      ∙ sym (f-xor (x % 16 * 2 ^ (4 * j)) (x / 16 * 2 ^ (4 * suc j)))
      ∙ ap f (lowest j x)

-- ---- the eight roots and the eight squares

pub squared : (x : ℕ) → x < 2 ^ 32 → nibbles root_or_square_at 8 8 x ≡ square x
squared x fits = placed (λ a. a) square (λ a b. refl) (square_xor 32) root_or_square_at 8 8 squares 8 0 x (omega arith) fits ∙ ap square (mul-one x)

pub rooted : (x : ℕ) → x < 2 ^ 32 → square (nibbles root_or_square_at 0 8 x) ≡ x
rooted x fits =
    placed square (λ a. a) (square_xor 32) (λ a b. refl) root_or_square_at 0 8 (λ j k hj hk. ap (λ (p : ℕ). square (root_or_square_at (p * 16 + k))) (zero-add j) ∙ roots j k hj hk) 8 0 x (omega arith) fits
    ∙ mul-one x
