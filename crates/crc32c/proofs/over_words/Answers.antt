use Rattle.std.proofs.Common.{arith}
use Rattle.crc32c.proofs.Words.{near}
use Rattle.crc32c.proofs.over_words.Goals as goal

pub loop-w-preserved : goal.loop-w-preserved
loop-w-preserved c = (omega arith, λ s h. near c.mixed.result (c.loop-w.invariant.1 s h) (omega arith) c.mixed.ensures c.steps_32.ensures)
