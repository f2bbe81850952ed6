use Rattle.std.proofs.Common.{◌≡◌}
use Rattle.link.specs.Reads.{wanted_of}
use Rattle.link.proofs.Outcomes.{remaining}
use Rattle.check_link.proofs.run.Given as goal

abbrev pub invariant-loop-n : goal.invariant-loop-n
invariant-loop-n l = l.n ≡ wanted_of l.link

abbrev pub decreases-loop-n : goal.decreases-loop-n
decreases-loop-n l = remaining l.link
