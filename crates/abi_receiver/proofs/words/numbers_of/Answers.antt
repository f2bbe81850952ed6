use mathlib.Core.Path.{◌∙◌}
use Rattle.receiver.specs.Step.{state_at}
use Rattle.abi_receiver.specs.Words as words
use Rattle.abi_receiver.proofs.Back.{abi_of_lem}
use Rattle.abi_receiver.proofs.words.numbers_of.Goals as goal

pub returns : goal.returns
unfolding words.state_numbers
returns c = λ b.
    let g = c.args in
    abi_of_lem (state_at g.stage g.got b g.known) _ (c.typed_known.ensures g.stage g.got b)
    (c.numbers_with.ensures ∙ rw (c.rank.ensures, c.revision_number.ensures, c.mark_number.ensures))
