use Rattle.std.proofs.Common.{◌∙◌, sym, arith}
use Rattle.gcm.proofs.Comparison.{same_next, same_end}
use Rattle.gcm.proofs.same.Goals as goal

pub loop-i-preserved : goal.loop-i-preserved
loop-i-preserved c =
    let l = c.loop-i in
    l.invariant ∙ same_next c.args.a.now c.args.b.now l.i l.d (omega arith) (omega arith)

pub returns : goal.returns
returns c =
    let l = c.loop-i in
    sym (l.invariant ∙ same_end c.args.a.now c.args.b.now l.i l.d (omega arith) c.requires)
