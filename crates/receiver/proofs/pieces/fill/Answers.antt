use Rattle.std.proofs.Common.{refl, arith}
use Rattle.buffer.proofs.Sets.{part-put}
use Rattle.receiver.proofs.pieces.fill.Goals as goal

pub returns-in-Block : goal.returns-in-Block
returns-in-Block c =
    let e = c.in-Block.is in
    let z = c.args in
    rw e (part-put z.block.now z.bytes.now c.put.new.out z.at c.put.ensures (c.requires.0 e), refl)

pub returns-in-Store : goal.returns-in-Store
returns-in-Store c =
    let e = c.in-Store.is in
    let z = c.args in
    rw e (refl, part-put z.store.now z.bytes.now c.put-in-Store.new.out z.at c.put-in-Store.ensures (c.requires.1 e))
