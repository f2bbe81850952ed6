use Rattle.gcm.proofs.RoundTrip.{lists, calls}
use Rattle.gcm.proofs.round_trip.Statement.{statement}
use Rattle.gcm.proofs.round_trip.Tie as tie

returns : tie.Need-returns
returns c =
    record {
      lists = lists;
      calls = λ w nonce text buf after back again r q sealing wrote h opening. calls w nonce text buf after r sealing wrote back again q h opening;
    }

pub round_trip_spec : {M : Type 1} → statement M
round_trip_spec = tie.close (tie.spec returns)
