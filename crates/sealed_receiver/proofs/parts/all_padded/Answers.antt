use Rattle.std.proofs.Common.{◌&&◌, ap, ap₂, ◌∙◌}
use Rattle.buffer.specs.Zeros.{all_zero}
use Rattle.sealed_receiver.proofs.LastPart.{padded-is}
use Rattle.sealed_receiver.proofs.parts.all_padded.Goals as goal

pub returns : goal.returns
returns c =
    ap₂ ◌&&◌ (ap₂ ◌&&◌ c.is_padded.ensures c.is_padded-2.ensures) (ap₂ ◌&&◌ c.is_padded-3.ensures (c.all_zero.ensures ∙ ap all_zero c.behind.ensures))
    ∙ padded-is c.args.h c.args.text.now c.rounded-n2.result c.rounded.result c.rounded-2.result c.rounded-n2.ensures.0 c.rounded.ensures.0 c.rounded-2.ensures.0
