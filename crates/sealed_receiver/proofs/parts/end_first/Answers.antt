use Rattle.std.proofs.Common.{length, sym, ap, ◌∙◌, arith, length-take-le}
use Rattle.sealed_receiver.proofs.FirstPart.{first_unopened, first-opened}
use Rattle.sealed_receiver.proofs.Regions.{refused-as}
use Rattle.sealed_receiver.proofs.parts.end_first.Goals as goal

pub after_first_part-requires : goal.after_first_part-requires
after_first_part-requires c = ap length c.part.ensures ∙ length-take-le 80 c.open_part.new.bytes (omega arith)

pub returns : goal.returns
returns c =
    let g = c.args in
    let j = sym c.in_ok-open_part.ensures.judged in
    (rw c.with_opened.ensures at c.after_first_part.ensures)
    ∙ first-opened g.v g.block g.store.now c.open_part.new.bytes c.part.result.now (omega arith) j (c.open_part.ensures.text j) c.part.ensures

pub returns-in_err-open_part : goal.returns-in_err-open_part
returns-in_err-open_part c = refused-as c.from_residual.result _ c.args.store.now c.from_residual.ensures.1 (first_unopened c.args.v c.args.block c.args.store.now _ (sym c.in_err-open_part.ensures.judged))
