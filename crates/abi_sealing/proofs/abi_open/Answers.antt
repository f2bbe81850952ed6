use mathlib.Core.Path.{◌∙◌}
use Rattle.abi_sealing.proofs.Laws.{opened-words}
use Rattle.abi_sealing.proofs.abi_open.Goals as goal

pub returns : goal.returns
returns c = opened-words c.open.ensures (c.hand_out.ensures ∙ c.written_of.ensures)
