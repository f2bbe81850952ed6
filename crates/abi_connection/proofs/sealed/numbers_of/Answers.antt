use mathlib.Core.Path.{◌∙◌}
use Rattle.abi_connection.specs.Secure as secure
use Rattle.abi_connection.proofs.Back.{abi_of_lem}
use Rattle.abi_connection.proofs.sealed.numbers_of.Goals as goal

pub returns : goal.returns
unfolding secure.secure_numbers
returns c =
    abi_of_lem _ _ c.typed_state.ensures
    (c.numbers_with.ensures ∙ rw (c.stage_number.ensures, c.mark_number.ensures))
