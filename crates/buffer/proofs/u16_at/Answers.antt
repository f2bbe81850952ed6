use Rattle.buffer.proofs.Numbers.{u16_read}
use Rattle.buffer.proofs.u16_at.Goals as goal

pub returns : goal.returns
returns c = cc (u16_read c.args.s.now c.args.i)
