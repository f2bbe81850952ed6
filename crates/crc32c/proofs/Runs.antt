-- Runs of zeros: half a run from the root, squared, is twice that half.

use mathlib.Core.Path.{◌≡◌, sym, ap, ap₂, ◌∙◌}
use mathlib.Core.List.{[], ◌∷◌}
use Prim.Native.Nat.{ℕ, zero, suc, ◌+◌, ◌*◌, ◌/◌, ◌%◌, ◌^◌, ◌<◌}
use native.Mathlib.Omega.{arith}
use lib.Bits.{xor_zero_r}
use lib.ListN.{replicate, replicate-append-replicate}
use Rattle.crc_squares.specs.Square.{square}
use Rattle.crc_squares.proofs.Squares.{square-steps}
use Rattle.crc_steps.proofs.Linear.{steps-add, steps-none}
use Rattle.crc32c.specs.Crc.{steps, crc_byte, crc_of}
use Rattle.crc32c.proofs.Laws.{crc-append}

crc-zeros : (n c : ℕ) → crc_of c (replicate n 0) ≡ steps (8 * n) c
unfolding crc_of
crc-zeros zero c = sym (steps-none c)
crc-zeros (suc n) c =
    let e : 8 + 8 * n ≡ 8 * suc n = omega arith in
    rw (crc-zeros n (crc_byte c 0), xor_zero_r c, ← (steps-add 8 (8 * n) c), e)

twice : (n r c : ℕ) → r < 2 ^ 32 → square r ≡ c → square (crc_of r (replicate n 0)) ≡ crc_of c (replicate (n + n) 0)
twice n r c h e =
    let d : 2 * (8 * n) ≡ 8 * (n + n) = omega arith in
    ap square (crc-zeros n r) ∙ square-steps (8 * n) r h ∙ ap₂ steps d e ∙ sym (crc-zeros (n + n) c)

pub none : (c n : ℕ) → n ≡ 0 → c ≡ crc_of c (replicate n 0)
unfolding crc_of
none c n e = rw e

-- r is the root of c, x what half of n zeros make of it, and y the square of x
module _ (n r : ℕ) {c x y : ℕ} (root : square r ≡ c) (half : x ≡ crc_of r (replicate (n / 2) 0)) (whole : y ≡ square x) (r-lt : r < 2 ^ 32) where
  halved : y ≡ crc_of c (replicate (n / 2 + n / 2) 0)
  halved = whole ∙ ap square half ∙ twice (n / 2) r c r-lt root

  pub even : n % 2 ≡ 0 → y ≡ crc_of c (replicate n 0)
  even h =
      let e : n / 2 + n / 2 ≡ n = omega arith in
      halved ∙ ap (λ (k : ℕ). crc_of c (replicate k 0)) e

  pub odd : n % 2 ≡ 1 → steps 8 y ≡ crc_of c (replicate n 0)
  unfolding crc_of
  odd h =
      let e : n / 2 + n / 2 + 1 ≡ n = omega arith in
      ap (steps 8) (halved ∙ sym (xor_zero_r (crc_of c (replicate (n / 2 + n / 2) 0))))
      ∙ sym (crc-append c (replicate (n / 2 + n / 2) 0) (0 ∷ []))
      ∙ ap (crc_of c) (replicate-append-replicate (n / 2 + n / 2) 1 0 ∙ ap (λ (k : ℕ). replicate k 0) e)
