-- Two functions alike at all numbers below n, by a test that antt computes.
use mathlib.Core.Bool.{Bool}
use mathlib.Core.Path.{◌≡◌}
use Prim.Native.Nat.{ℕ, ◌<◌}
use lib.Dec.{T, eqb, eqb→eq}
use Rattle.bits.proofs.Every.{below, each_below}

abbrev pub alike : ℕ → (ℕ → ℕ) → (ℕ → ℕ) → Bool
alike n f g = below (λ k. eqb (f k) (g k)) n

pub each : (n : ℕ) (f g : ℕ → ℕ) → T (alike n f g) → (k : ℕ) → k < n → f k ≡ g k
each n f g t k h = eqb→eq (f k) (g k) (each_below (λ k. eqb (f k) (g k)) n t k h)
