use Rattle.std.proofs.Common.{◌∙◌}
use Rattle.sealed_receiver.proofs.parts.settled_in.Goals as goal

pub returns-in-Err : goal.returns-in-Err
returns-in-Err c = c.refuse.ensures c.zero_needed.new.store ∙ rw (c.in-Err.is, c.from.ensures, c.zero_needed.ensures)
