use Rattle.mahuixen.proofs.Demands.{demand1_in_c}
use Rattle.mahuixen.proofs.every_call.Goals as goal

pub returns : goal.returns
returns c = demand1_in_c c.every_call.ensures c.every_call-2.ensures
