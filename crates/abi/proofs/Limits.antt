-- Words within their limits, as a test and as facts.
use mathlib.Core.Path.{◌≡◌, refl}
use mathlib.Core.List.{List, [], ◌∷◌, ◌++◌}
use mathlib.Core.Bool.{true}
use Prim.Native.Nat.{ℕ, zero, suc, ◌+◌, ◌≤◌, ◌<◌}
use native.Mathlib.Nat.{zero-add}
use native.Mathlib.Omega.{arith}
use borrow.Author.Tests.{leb-true, le-leb}
use lib.Dec.{leb}
use lib.ListN.{length, get_or}
use Rattle.refusal.proofs.Booleans.{each_true}
use Rattle.abi.specs.Words.{within, Within}

pub facts : (ms : List ℕ) (i : ℕ) (ws : List ℕ) → within ms i ws ≡ true → Within ms i ws
facts [] i ws e = tt
facts (m ∷ []) i ws e = (leb-true (get_or ws i 0) m e, tt)
facts (m ∷ n ∷ ms) i ws e =
    let b = each_true (leb (get_or ws i 0) m) (within (n ∷ ms) (suc i) ws) e in
    (leb-true (get_or ws i 0) m b.0, facts (n ∷ ms) (suc i) ws b.1)

pub tested : (ms : List ℕ) (i : ℕ) (ws : List ℕ) → Within ms i ws → within ms i ws ≡ true
tested [] i ws h = refl
tested (m ∷ []) i ws (a, h) = le-leb (get_or ws i 0) m a
tested (m ∷ n ∷ ms) i ws (a, h) = rw (le-leb (get_or ws i 0) m a) (tested (n ∷ ms) (suc i) ws h)

-- the bound at each place
pub bound : (ms : List ℕ) (i : ℕ) (ws : List ℕ) → Within ms i ws → (k : ℕ) → k < length ms → get_or ws (k + i) 0 ≤ get_or ms k 0
bound [] i ws h k l = absurd (omega arith)
bound (m ∷ ms) i ws (a, h) zero l = rw (zero-add i) a
bound (m ∷ ms) i ws (a, h) (suc k) l =
    let s : suc k + i ≡ k + suc i = omega arith in
    rw s (bound ms (suc i) ws h k (omega arith))

-- one list of limits behind another
pub joined : (ms ns : List ℕ) (i : ℕ) (ws : List ℕ) → Within ms i ws → Within ns (length ms + i) ws → Within (ms ++ ns) i ws
joined [] ns i ws a b = rw (zero-add i) at b
joined (m ∷ ms) ns i ws (x, a) b =
    let s : length (m ∷ ms) + i ≡ length ms + suc i = omega arith in
    (x, joined ms ns (suc i) ws a (rw s at b))
