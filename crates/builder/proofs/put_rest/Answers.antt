use mathlib.Core.Path.{sym, ap}
use mathlib.Core.Bool.{Bool}
use native.Mathlib.Omega.{arith}
use Rattle.body.specs.Body.{rest_sent}
use Rattle.body.proofs.Laws.{length-sent}
use Rattle.buffer.proofs.Parts.{overwrite_as}
use Rattle.builder.proofs.put_rest.Goals as goal

pub returns-then-abort : goal.returns-then-abort
returns-then-abort c =
    let g = c.args in
    overwrite_as _ (rest_sent g.abort g.rest.now) g.out.now _ c.put_zeros.ensures (sym (ap (λ (x : Bool). rest_sent x g.rest.now) c.if-abort.true))
    (omega (arith, c.requires, length-sent g.abort g.rest.now))

pub returns-else-abort : goal.returns-else-abort
returns-else-abort c =
    let g = c.args in
    overwrite_as _ (rest_sent g.abort g.rest.now) g.out.now _ c.put.ensures (sym (ap (λ (x : Bool). rest_sent x g.rest.now) c.if-abort.false))
    (omega (arith, c.requires, length-sent g.abort g.rest.now))
