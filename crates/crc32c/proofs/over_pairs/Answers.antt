use Rattle.std.proofs.Common.{arith}
use Rattle.crc32c.proofs.Words.{pair}
use Rattle.crc32c.proofs.over_pairs.Goals as goal

pub loop-w-preserved : goal.loop-w-preserved
loop-w-preserved c = (
  omega arith,
  λ s h. pair c.mixed-in-loop-w.result c.mixed.result (c.loop-w.invariant.1 s h) (omega arith) c.mixed-in-loop-w.ensures c.mixed.ensures c.steps_64.ensures c.steps_32.ensures,
)
