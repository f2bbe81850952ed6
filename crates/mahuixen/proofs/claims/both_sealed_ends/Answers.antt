use Rattle.mahuixen.proofs.Sealed.{sealed_in_c}
use Rattle.mahuixen.proofs.claims.both_sealed_ends.Goals as goal

pub returns : goal.returns
returns c = sealed_in_c c.handed_over.ensures c.round_trip.ensures c.two_ends.ensures
