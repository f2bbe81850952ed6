use Rattle.std.proofs.Common.{arith}
use Rattle.cases.proofs.Laws.{moved_more}
use Rattle.cases.proofs.move_front.Goals as goal

pub loop-i-preserved : goal.loop-i-preserved
loop-i-preserved c = rw c.loop-i.invariant (moved_more c.args.held.now c.args.at c.loop-i.i (omega arith))
