use mathlib.Core.Path.{◌∙◌}
use Rattle.abi_builder.proofs.Laws.{banner-written}
use Rattle.abi_builder.proofs.abi_build_banner.Goals as goal

pub returns : goal.returns
returns c = banner-written c.build_banner.ensures (c.hand_out.ensures ∙ c.written_of-answer.ensures)
