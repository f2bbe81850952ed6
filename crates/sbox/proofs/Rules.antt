-- The table's rule, and that of inverses, each by one test that antt computes over all entries.
use mathlib.Core.Bool.{Bool}
use mathlib.Core.List.{List}
use mathlib.Core.Path.{◌≡◌, subst, sym}
use Prim.Native.Nat.{ℕ, zero, suc, ◌<◌}
use native.Mathlib.Nat.{not-suc-le-zero, le_of_suc-le-suc}
use lib.Dec.{T, eqb, eqb→eq}
use lib.ListN.{get_or, length}
use Rattle.bits.proofs.Every.{at, every, below, each_below}
use Rattle.sbox.specs.Sbox.{Inverts, Ruled, sbox, affine, inverse, power, mul_bits, mul, xtime}

abbrev pub right : ℕ → ℕ → Bool
unfolding sbox affine inverse power mul_bits xtime
right k x = eqb x (sbox k)

pub ruled : {t : List ℕ} → length t ≡ 256 → T (every right 0 t) → Ruled t
unfolding sbox affine inverse power mul_bits xtime
ruled {t} l p = record { at = λ k h. eqb→eq (get_or t k 0) (sbox k) (at right t p k (subst (λ (n : ℕ). k < n) (sym l) h)) }

-- the byte behind k, and its inverse
abbrev pub inverted : ℕ → Bool
inverted k = eqb (mul (suc k) (inverse (suc k))) 1

pub inverts : T (below inverted 255) → Inverts
inverts t = record { at = go }
  where
    go : (k : ℕ) → 0 < k → k < 256 → mul k (inverse k) ≡ 1
    go zero p h = absurd (not-suc-le-zero p)
    go (suc k) p h = eqb→eq (mul (suc k) (inverse (suc k))) 1 (each_below inverted 255 t k (le_of_suc-le-suc h))
