use Rattle.std.proofs.Common.{Bool, sym, ap, ◌∙◌, arith}
use Rattle.refusal.specs.declared.Refusal.TheVariants as refusal
use Rattle.refusal.specs.Refusals.{unless}
use Rattle.refusal.proofs.Judgements.{passed}
use Rattle.buffer.specs.Zeros.{all_zero}
use Rattle.secure.proofs.Bounds.{pads-fit}
use Rattle.sealed_receiver.proofs.SecondPart.{rest-padded, rest-unpadded}
use Rattle.sealed_receiver.proofs.Regions.{refused-in}
use Rattle.sealed_receiver.proofs.parts.after_second_part.Goals as goal

pub slice_bounds-put_zeros-count : goal.slice_bounds-put_zeros-count
slice_bounds-put_zeros-count c = omega (arith, pads-fit c.args.v.header c.requires.2 c.padding-pad.result c.padding-pad.ensures.0, c.requires.0)

pub slice_bounds-put_zeros-start : goal.slice_bounds-put_zeros-start
slice_bounds-put_zeros-start c = omega (arith, pads-fit c.args.v.header c.requires.2 c.padding-pad.result c.padding-pad.ensures.0, c.requires.0)

pub returns-in_err-unless : goal.returns-in_err-unless
returns-in_err-unless c =
    let g = c.args in
    refused-in c.args.v.header c.from_residual.result _ _ c.from_residual.ensures.1 (rest-unpadded g.v g.store.now c.padding-pad.result c.padding-pad.ensures.0 c.requires.2 _
    (c.in_err-unless.ensures ∙ ap (λ (b : Bool). unless b refusal.Padding) (c.all_zero.ensures ∙ ap all_zero c.part.ensures)))

pub returns : goal.returns
returns c =
    let g = c.args in
    let z = sym (c.all_zero.ensures ∙ ap all_zero c.part.ensures) ∙ passed c.all_zero.result refusal.Padding (sym c.in_ok-unless.ensures) in
    c.begin_last.ensures ∙ rest-padded g.v g.store.now c.padding-pad.result c.padding-pad.ensures.0 c.requires.2 c.requires.0 z c.put_zeros.new.out c.put_zeros.ensures
