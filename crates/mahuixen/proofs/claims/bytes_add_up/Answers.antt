use Rattle.mahuixen.proofs.Switches.{adds_in_c}
use Rattle.mahuixen.proofs.claims.bytes_add_up.Goals as goal

pub returns : goal.returns
returns c = adds_in_c c.bytes_add_up.ensures
