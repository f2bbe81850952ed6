use Rattle.std.proofs.Common.{◌∙◌, refl, ap, arith}
use Rattle.ghash.specs.Ghash.{mul_from}
use Rattle.ghash.specs.Tables.{steps}
use Rattle.ghash.proofs.Entries.{steps-next, filled_more}
use Rattle.ghash.proofs.fill.Goals as goal

pub loop-j-init : goal.loop-j-init
unfolding steps
loop-j-init c = (refl, record { at = λ j k h l. absurd (omega arith) })

pub loop-j-preserved : goal.loop-j-preserved
loop-j-preserved c =
    let l = c.loop-j in
    let h = c.args.h in (
      c.four_steps-v.ensures ∙ ap (steps 4) l.invariant.0 ∙ steps-next l.j h,
      filled_more h l.j l.m _ (omega arith) (λ k q. c.products.ensures k q ∙ ap (mul_from 4 k 0) l.invariant.0) l.invariant.1,
    )

pub returns : goal.returns
returns c = record { at = λ j k h l. c.loop-j.invariant.1.at j k (omega arith) l }
