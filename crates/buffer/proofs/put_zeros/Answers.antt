use Rattle.std.proofs.Common.{arith}
use Rattle.buffer.proofs.CopyLoop.{zeroed}
use Rattle.buffer.proofs.put_zeros.Goals as goal

pub returns : goal.returns
returns c =
    let after = c.fill.ensures.after (λ y h. h) in
    grind (arith, after, zeroed c.args.out.now c.args.n c.min-m.result c.min-m.ensures)
