use Rattle.std.proofs.Common.{◌≡◌, ◌++◌, take, drop}
use Rattle.cases.proofs.move_front.Given as goal

abbrev pub invariant-loop-i : goal.invariant-loop-i
invariant-loop-i l = l.held ≡ take l.i (drop l.at l.initial.held) ++ drop l.i l.initial.held
