use Rattle.ghash.proofs.Words.{moved_by}
use Rattle.ghash.proofs.quarter_steps.Goals as goal

pub returns : goal.returns
returns c = moved_by 32 c.args.z c.fallen.result c.fallen.ensures
