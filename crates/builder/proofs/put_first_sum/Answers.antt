use mathlib.Core.Path.{sym, ap, ◌∙◌}
use mathlib.Core.List.{List, []}
use mathlib.Core.Bool.{Bool, cond}
use Prim.Native.Nat.{ℕ}
use native.Mathlib.Omega.{arith}
use Rattle.buffer.specs.Le.{le}
use Rattle.body.specs.Body.{segment_sum, first_sum}
use Rattle.body.proofs.Laws.{length-first-sum}
use Rattle.buffer.proofs.Parts.{overwrite_as}
use Rattle.builder.proofs.put_first_sum.Goals as goal

pub returns : goal.returns
returns c =
    let g = c.args in
    let sum : List ℕ = le 4 (segment_sum g.first.now) in
    let there = sym c.no_first_sum.ensures ∙ c.if-no_first_sum.false in
    overwrite_as _ (first_sum g.revision g.h g.first.now) g.out.now _ c.put.ensures
    (c.u32_bytes.ensures ∙ ap (le 4) c.segment_sum.ensures ∙ sym (ap (λ (x : Bool). cond x [] sum) there))
    (omega (arith, c.requires, length-first-sum g.revision g.h g.first.now))
