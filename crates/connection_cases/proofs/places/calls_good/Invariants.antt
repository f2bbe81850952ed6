use Rattle.std.proofs.Common.{◌≡◌, ◌+◌, ◌-◌, ◌*◌}
use Rattle.connection_cases.specs.Places.{calls_from, calls_good}
use Rattle.connection_cases.proofs.places.calls_good.Given as goal

abbrev pub invariant-loop-i : goal.invariant-loop-i
invariant-loop-i l = calls_good l.l (calls_from l.l.lends l.s (l.n - l.i) (l.from + l.width * l.i)) ≡ calls_good l.l (calls_from l.l.lends l.s l.n l.from)
