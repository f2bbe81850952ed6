use Rattle.std.proofs.Common.{◌∙◌, sym, ap, arith}
use Rattle.ghash.specs.Tables.{steps}
use Rattle.ghash.proofs.Entries.{first_quarter, next_quarter}
use Rattle.ghash.proofs.Words.{quarter_alone}
use Rattle.ghash.proofs.times_by_small.Goals as goal

pub returns : goal.returns
returns c =
    let y = c.args.x in
    let q0 = c.quarter in
    let q1 = c.quarter-2 in
    let q2 = c.quarter-3 in
    let q3 = c.quarter-4 in
    λ v f.
    let d = next_quarter v y 0 q0.result 0 _ (sym q0.ensures) (first_quarter v y) (c.quarter_by-d.ensures v q0.result 0 f (quarter_alone q0.result (omega arith))) in
    let e = next_quarter v y 32 q1.result _ _ (sym q1.ensures) (c.quarter_steps.ensures ∙ ap (steps 32) d) (c.quarter_by-c.ensures v q1.result 0 f (quarter_alone q1.result (omega arith))) in
    let b = next_quarter v y 64 q2.result _ _ (sym q2.ensures) (c.quarter_steps-2.ensures ∙ ap (steps 32) e) (c.quarter_by-b.ensures v q2.result 0 f (quarter_alone q2.result (omega arith))) in
    next_quarter v y 96 q3.result _ _ (sym q3.ensures) (c.quarter_steps-3.ensures ∙ ap (steps 32) b) (c.quarter_by.ensures v q3.result 0 f (quarter_alone q3.result (omega arith)))
