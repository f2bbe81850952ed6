use Rattle.std.proofs.Common.{◌∙◌}
use Rattle.connection_cases.specs.Places.{receiver_size}
use Rattle.connection_cases.proofs.places.receiver_size.Goals as goal

pub returns : goal.returns
unfolding receiver_size
returns c = c.whole_size.ensures ∙ rw (c.in_range.ensures, c.u32_at-n.ensures, c.stream_at-end.ensures.0)
