-- The rule of each entry of the table: squares are what `square` gives, and roots are what it gives back.
use mathlib.Core.List.{List}
use mathlib.Core.Path.{◌≡◌, sym, ap, ap₂, subst, ◌∙◌}
use Prim.Native.Nat.{ℕ, ◌+◌, ◌*◌, ◌-◌, ◌/◌, ◌%◌, ◌^◌, ◌<◌}
use native.Mathlib.Nat.{mod-lt, mul_assoc}
use native.Mathlib.Omega.{arith}
use lib.Arith.{digits_div, digits_mod}
use lib.Dec.{T}
use lib.ListN.{get_or}
use lib.Pow.{pow-add, pow_pos, shl_lt}
use Rattle.crc_steps.specs.Steps.{step, steps}
use Rattle.crc_steps.specs.Tables.{computed}
use Rattle.crc_steps.proofs.Linear.{steps-shifted}
use Rattle.crc_steps.proofs.Rules.{computed-is}
use Rattle.crc_steps.proofs.Tests.{alike, each}
use Rattle.crc_squares.specs.Square.{square, square_of}
use Rattle.crc_squares.specs.Table.{RootsAndSquares, root_or_square_at, high_root, high_square, pick}
use Rattle.crc_squares.proofs.Squares.{square-shifted, square-steps}

-- ---- the table, by a test that antt computes at each entry

pub roots_and_squares : {t : List ℕ} → T (alike 256 (λ i. get_or t i 0) root_or_square_at) → RootsAndSquares t
roots_and_squares {t} r = record { at = λ i h. each 256 (λ i. get_or t i 0) root_or_square_at r i h }

-- ---- the highest place, by tests that antt computes over its nibbles

high_lt : (k : ℕ) → k < 16 → high_root k < 2 ^ 32
high_lt k h = subst (λ (y : ℕ). y < 2 ^ 32) (each 16 (λ i. high_root i % 2 ^ 32) high_root tt k h) (mod-lt (high_root k) (pow_pos 32))

high_root_lem : (k : ℕ) → k < 16 → square (high_root k) ≡ k * 2 ^ 28
unfolding square_of steps step
high_root_lem k h = each 16 (λ i. square (high_root i)) (λ i. i * 2 ^ 28) tt k h

high-square : (k : ℕ) → k < 16 → high_square k ≡ square (k * 2 ^ 28)
unfolding square_of steps step
high-square k h = each 16 high_square (square_of 4) tt k h ∙ sym (square-shifted 28 4 k)

-- ---- and the steps down to place j

down : (j k : ℕ) → j < 8 → steps (4 * (7 - j)) (k * 2 ^ 28) ≡ k * 2 ^ (4 * j)
down j k h =
    let m : ℕ = 4 * (7 - j) in
    let e : 4 * j + m ≡ 28 = omega arith in
    rw (rw e at (pow-add 2 (4 * j) m), ← (mul_assoc k (2 ^ (4 * j)) (2 ^ m)), steps-shifted m (k * 2 ^ (4 * j)))

-- the entry for nibble k at place p
module _ (p k : ℕ) (h : k < 16) where
  entry : (d : ℕ) → (p * 16 + k) / 128 ≡ d → root_or_square_at (p * 16 + k) ≡ pick d (computed (2 * (7 - p)) (high_root k)) (computed (8 * (15 - p)) (high_square k))
  entry d e =
      ap₂ (λ (x y : ℕ). pick ((p * 16 + k) / 128) (computed (2 * (7 - x)) (high_root y)) (computed (8 * (15 - x)) (high_square y))) (digits_div p h) (digits_mod p h)
      ∙ ap (λ (x : ℕ). pick x (computed (2 * (7 - p)) (high_root k)) (computed (8 * (15 - p)) (high_square k))) e

pub roots : (j k : ℕ) → j < 8 → k < 16 → square (root_or_square_at (j * 16 + k)) ≡ k * 2 ^ (4 * j)
roots j k hj hk =
    let m : ℕ = 2 * (7 - j) in
    let e : 2 * m ≡ 4 * (7 - j) = omega arith in
    rw (entry j k hk 0 (omega arith), computed-is m (high_root k), square-steps m (high_root k) (high_lt k hk), e, high_root_lem k hk) (down j k hj)

pub squares : (j k : ℕ) → j < 8 → k < 16 → root_or_square_at ((8 + j) * 16 + k) ≡ square (k * 2 ^ (4 * j))
squares j k hj hk =
    let m : ℕ = 4 * (7 - j) in
    let e : 8 * (15 - (8 + j)) ≡ 2 * m = omega arith in
    rw (entry (8 + j) k hk 1 (omega arith), computed-is (8 * (15 - (8 + j))) (high_square k), e, high-square k hk, ← (square-steps m (k * 2 ^ 28) (shl_lt 4 28 hk)), down j k hj)
