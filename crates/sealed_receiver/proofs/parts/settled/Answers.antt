use Rattle.std.proofs.Common.{◌∙◌}
use Rattle.sealed_receiver.proofs.parts.settled.Goals as goal

pub returns-in-Err : goal.returns-in-Err
returns-in-Err c = λ s. c.refuse.ensures s ∙ rw (c.in-Err.is, c.from.ensures)
