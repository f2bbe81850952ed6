use Rattle.mahuixen.proofs.Chain.{demand3_in_c}
use Rattle.mahuixen.proofs.every_cutting.Goals as goal

pub returns : goal.returns
returns c = demand3_in_c c.every_cutting.ensures
