use Rattle.std.proofs.Common.{ℕ, ◌+◌, ◌-◌, ◌≤◌, List, length, replicate, refl, ap, ◌∙◌, arith}
use lib.ListN.{length-replicate}
use Rattle.buffer.specs.Splice.{replace_front}
use Rattle.buffer.proofs.Parts.{overwrite-fits, next-overwrite}
use Rattle.sealed_builder.proofs.Texts.{front-short, inline-is}
use Rattle.sealed_builder.proofs.put_inline.Goals as goal

pub slice_bounds-put_zeros-count : goal.slice_bounds-put_zeros-count
slice_bounds-put_zeros-count c =
    omega (arith, front-short c.args.first.now c.part-inline.result.now c.part-inline.ensures)

pub slice_bounds-put_zeros-start : goal.slice_bounds-put_zeros-start
slice_bounds-put_zeros-start c =
    omega (arith, front-short c.args.first.now c.part-inline.result.now c.part-inline.ensures)

pub overflow_sub-n : goal.overflow_sub-n
overflow_sub-n c =
    omega (arith, front-short c.args.first.now c.part-inline.result.now c.part-inline.ensures)

pub returns : goal.returns
returns c =
    let g = c.args in
    let first : List ℕ = g.first.now in
    let xs : List ℕ = c.part-inline.result.now in
    let zeros : List ℕ = replicate (48 - length xs) 0 in
    let short : length xs ≤ 48 = front-short first xs c.part-inline.ensures in
    let room : length xs + length zeros ≤ length g.out.now = omega (arith, length-replicate {A = ℕ} (48 - length xs) 0, c.requires) in
    next-overwrite g.out.now c.put.new.out xs zeros c.put_zeros.new.out (length xs) refl room
    (c.put.ensures ∙ overwrite-fits xs g.out.now (omega (arith, c.requires))) c.put_zeros.ensures
    ∙ ap (λ (t : List ℕ). replace_front t g.out.now) (inline-is first xs c.part-inline.ensures)
