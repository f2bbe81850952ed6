use Rattle.std.proofs.Common.{◌≡◌, ◌*◌}
use Rattle.ghash.specs.Tables.{steps, Filled}
use Rattle.ghash.proofs.fill.Given as goal

abbrev pub invariant-loop-j : goal.invariant-loop-j
invariant-loop-j l = (l.v ≡ steps (4 * l.j) l.h) × Filled l.h l.j l.m
