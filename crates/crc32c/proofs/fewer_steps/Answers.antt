use Rattle.std.proofs.Common.{◌-◌, arith}
use Rattle.crc32c.proofs.Words.{padded}
use Rattle.crc32c.proofs.fewer_steps.Goals as goal

pub returns : goal.returns
returns c = cc (padded c.args.x c.args.bits (32 - c.args.bits) (omega arith))
