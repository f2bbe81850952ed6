use Prim.Native.Nat.{◌+◌, ◌*◌, ◌-◌, ◌≤◌}
use mathlib.Core.Path.{◌≡◌}
use lib.ListN.{drop}
use Rattle.link.specs.File.{sum_of}
use Rattle.link.proofs.sum_of.Given as goal

abbrev pub invariant-loop-i : goal.invariant-loop-i
invariant-loop-i l = (l.sum + sum_of (l.n - l.i) (drop (4 * l.i) l.table) ≡ sum_of l.n l.table) × (l.sum ≤ l.i * 4294967295)
