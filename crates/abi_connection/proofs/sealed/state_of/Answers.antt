use mathlib.Core.Path.{◌∙◌}
use Rattle.abi_connection.specs.Secure as secure
use Rattle.abi_connection.proofs.sealed.state_of.Goals as goal

pub returns : goal.returns
unfolding secure.secure_of
returns c = c.state_with.ensures ∙ rw c.stage_of.ensures
