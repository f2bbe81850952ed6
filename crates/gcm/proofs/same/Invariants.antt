use Rattle.std.proofs.Common.{◌≡◌, ◌&&◌, drop}
use lib.Dec.{eqb}
use Rattle.gcm.specs.Gcm.{same_as}
use Rattle.gcm.proofs.same.Given as goal

abbrev pub invariant-loop-i : goal.invariant-loop-i
invariant-loop-i l = same_as l.a l.b ≡ (eqb l.d 0 && same_as (drop l.i l.a) (drop l.i l.b))
