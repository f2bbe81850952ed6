use Rattle.std.proofs.Common.{arith}
use Rattle.crc32c.proofs.Words.{mixed_in}
use Rattle.crc32c.proofs.mixed.Goals as goal

pub returns : goal.returns
returns c = cc (mixed_in c.args.c c.args.group.now c.requires (record { at = λ i. omega (arith, c.type_inv.group i) }))
