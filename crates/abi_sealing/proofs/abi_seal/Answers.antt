use mathlib.Core.Path.{◌∙◌}
use Rattle.abi_sealing.proofs.Laws.{sealed-words}
use Rattle.abi_sealing.proofs.abi_seal.Goals as goal

pub returns : goal.returns
returns c = sealed-words c.seal.ensures (c.hand_out.ensures ∙ c.written_of.ensures)
