use Rattle.std.proofs.Common.{length}
use Rattle.cases.specs.LoopInvariant.{LoopInvariant}
use Rattle.cases.proofs.run.Given as goal

abbrev pub invariant-loop : goal.invariant-loop
invariant-loop l = LoopInvariant l.s (length l.held) (length l.space)
