-- Room behind the queued bytes, as code tests it without a sum that could wrap.
use mathlib.Core.Path.{◌≡◌, refl, sym, ◌∙◌}
use mathlib.Core.Bool.{Bool, true, false}
use Prim.Native.Nat.{ℕ, ◌+◌, ◌-◌, ◌≤◌, ◌<◌}
use native.Mathlib.Omega.{arith}
use borrow.Author.Tests.{leb-true, leb-false, le-leb, lt-leb}
use lib.Dec.{leb}

pub inside : (n space queued : ℕ) → queued ≤ space → leb n (space - queued) ≡ leb (queued + n) space
inside n space queued h = go (leb n (space - queued)) refl
  where
    go : (b : Bool) → leb n (space - queued) ≡ b → leb n (space - queued) ≡ leb (queued + n) space
    go true e = let k = leb-true n (space - queued) e in e ∙ sym (le-leb (queued + n) space (omega arith))
    go false e = let k = leb-false n (space - queued) e in e ∙ sym (lt-leb (queued + n) space (omega arith))

pub outside : (n space queued : ℕ) → space < queued → false ≡ leb (queued + n) space
outside n space queued h = sym (lt-leb (queued + n) space (omega arith))
