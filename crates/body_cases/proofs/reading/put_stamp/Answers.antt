use Rattle.std.proofs.Common.{◌∙◌, sym, arith}
use Rattle.body_cases.proofs.Laws.{stamp-more, stamp-none}
use Rattle.body_cases.proofs.reading.put_stamp.Goals as goal

pub loop-byte-preserved : goal.loop-byte-preserved
loop-byte-preserved c = stamp-more c.args.bytes.now c.loop-byte.byte-index c.loop-byte.page (omega arith) c.put_byte.ensures ∙ c.loop-byte.invariant

pub returns : goal.returns
returns c = sym (stamp-none c.args.bytes.now c.loop-byte.byte-index c.loop-byte.page (omega arith)) ∙ c.loop-byte.invariant
