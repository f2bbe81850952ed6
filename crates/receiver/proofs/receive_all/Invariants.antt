use Rattle.receiver.proofs.CallLoop.{Called}
use Rattle.receiver.proofs.receive_all.Given as goal

abbrev pub invariant-loop-cut : goal.invariant-loop-cut
invariant-loop-cut l = Called l.stream l.cuts l.fn.store l.store l.initial.state l.state l.taken l.cut-index
