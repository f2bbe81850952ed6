use Rattle.mahuixen.proofs.Demands.{demand2_in_c}
use Rattle.mahuixen.proofs.both_ends.Goals as goal

pub returns : goal.returns
returns c = demand2_in_c c.handed_over.ensures c.round_trip.ensures c.two_ends.ensures
