use mathlib.Core.Path.{refl, ◌∙◌}
use native.Mathlib.Omega.{arith}
use lib.ListN.{length}
use Rattle.buffer.proofs.Parts.{overwrite-fits, next}
use Rattle.body.specs.Body.{first_sum}
use Rattle.builder.proofs.put_first.Goals as goal

pub returns : goal.returns
returns c =
    let g = c.args in
    let first = g.first.now in
    let l₁ = c.put.new.out in
    next g.out.now l₁ first (first_sum g.revision g.h first) c.put_first_sum.new.out (length first) refl
    (c.put.ensures ∙ overwrite-fits first g.out.now (omega (arith, c.requires)))
    c.put_first_sum.ensures
