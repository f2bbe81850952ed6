use Rattle.bodies.proofs.Trips.{round_trips}
use Rattle.bodies.proofs.round_trips.Goals as goal

pub returns : goal.returns
returns c = round_trips
