use Rattle.ghash.proofs.Words.{quarter_fallen}
use Rattle.ghash.proofs.fallen.Goals as goal

pub returns : goal.returns
returns c = quarter_fallen c.args.x c.requires
