use Rattle.mahuixen.proofs.Switches.{switches_in_c}
use Rattle.mahuixen.proofs.claims.every_switch.Goals as goal

pub returns : goal.returns
returns c = switches_in_c c.every_call.ensures
