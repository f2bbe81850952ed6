use mathlib.Core.Path.{◌∙◌, ap}
use mathlib.Core.Bool.{not}
use Rattle.abi_receiver.specs.Words.{abi_state}
use Rattle.abi_connection.proofs.Agreeing.{crc_says}
use Rattle.abi_connection.proofs.crc_agrees.Goals as goal

pub returns : goal.returns
returns c =
    let z = c.args in
    ap not c.is_contradiction.ensures ∙ crc_says (abi_state z.numbers z.block) _ _ _ _ c.abi_receive.ensures.answered
