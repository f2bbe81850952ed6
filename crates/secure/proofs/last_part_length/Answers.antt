use Rattle.std.proofs.Common.{◌+◌, sym, ◌∙◌, ap, ap₂, arith}
use Rattle.secure.proofs.Bounds.{last-size}
use Rattle.secure.proofs.last_part_length.Goals as goal

pub returns : goal.returns
returns c = (
  ap (λ n. n + 32) (ap₂ ◌+◌ (ap₂ ◌+◌ c.rounded.ensures.0 c.rounded-2.ensures.0) c.rounded-3.ensures.0) ∙ sym (last-size c.args.h (sym c.no_last_part.ensures ∙ c.if-no_last_part.false)),
  omega arith,
)
