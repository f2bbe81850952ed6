use Rattle.std.proofs.Common.{arith}
use Rattle.records.specs.Records.{counted}
use Rattle.records.proofs.Laws.{counted-more}
use Rattle.records.proofs.count_up.Goals as goal

pub loop-i-init : goal.loop-i-init
unfolding counted
loop-i-init c = cc

pub loop-i-preserved : goal.loop-i-preserved
loop-i-preserved c = rw c.loop-i.invariant (counted-more c.args.buf.now c.args.first c.loop-i.i (omega arith))
