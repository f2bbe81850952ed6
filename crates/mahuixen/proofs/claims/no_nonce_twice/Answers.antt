use Rattle.mahuixen.proofs.Nonces.{nonces_in_c}
use Rattle.mahuixen.proofs.claims.no_nonce_twice.Goals as goal

pub returns : goal.returns
returns c = nonces_in_c c.no_nonce_twice.ensures
