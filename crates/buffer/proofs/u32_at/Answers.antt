use Rattle.buffer.proofs.Numbers.{u32_read}
use Rattle.buffer.proofs.u32_at.Goals as goal

pub returns : goal.returns
returns c = cc (u32_read c.args.s.now c.args.i)
