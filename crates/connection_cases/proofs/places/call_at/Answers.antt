use Rattle.connection_cases.specs.Places.{call_at}
use Rattle.connection_cases.proofs.places.call_at.Goals as goal

pub returns : goal.returns
unfolding call_at
returns c = rw (c.u32_at.ensures, c.lent_at.ensures)
