use Rattle.std.proofs.Common.{◌∙◌, refl, arith, length-set}
use Rattle.buffer.proofs.CopyLoop.{copy_more, copied}
use Rattle.buffer.proofs.put.Goals as goal

pub loop-i-init : goal.loop-i-init
loop-i-init c = (refl, refl)

pub loop-i-preserved : goal.loop-i-preserved
loop-i-preserved c =
    let l = c.loop-i in
    let a = c.args in
    (rw l.invariant.0 (copy_more a.src.now a.out.now l.i (omega (arith, c.min-n.ensures)) (omega (arith, c.min-n.ensures))), length-set l.out l.i _ ∙ l.invariant.1)

pub returns : goal.returns
returns c =
    let l = c.loop-i in
    let a = c.args in
    l.invariant.0 ∙ copied a.src.now a.out.now l.i (omega (arith, c.min-n.ensures))
