use Rattle.std.proofs.Common.{ap, ◌∙◌}
use Rattle.buffer.specs.Zeros.{all_zero}
use Rattle.sealed_receiver.proofs.LastPart.{pads}
use Rattle.sealed_receiver.proofs.parts.is_padded.Goals as goal

pub returns : goal.returns
returns c =
    let g = c.args in
    c.all_zero.ensures ∙ ap all_zero (c.part.ensures ∙ pads g.text.now g.at g.n c.padding.result c.padding.ensures.0)
