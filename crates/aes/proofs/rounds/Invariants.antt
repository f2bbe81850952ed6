use Rattle.std.proofs.Common.{◌≡◌}
use Rattle.aes.specs.Aes.{rounds}
use Rattle.aes.proofs.rounds.Given as goal

abbrev pub invariant-loop-k : goal.invariant-loop-k
invariant-loop-k l = l.s ≡ rounds l.k-index l.w l.fn.keyed
