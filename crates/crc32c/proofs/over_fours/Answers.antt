use Rattle.crc32c.proofs.Words.{begins}
use Rattle.crc32c.proofs.over_fours.Goals as goal

pub loop-l-init : goal.loop-l-init
loop-l-init c = begins c.args.start c.args.bytes.now

pub loop-l-preserved : goal.loop-l-preserved
loop-l-preserved c = c.four_words-l.ensures.1 c.args.start c.loop-l.invariant
