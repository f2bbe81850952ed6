use Rattle.std.proofs.Common.{refl, ◌%◌, arith}
use Rattle.ghash.specs.declared.TheConstants.{REDUCED}
use Rattle.ghash.specs.Ghash.{step}
use Rattle.ghash.specs.Tables.{steps}
use Rattle.ghash.proofs.Words.{reduced_by, moved_by}
use Rattle.ghash.proofs.four_steps.Goals as goal

pub returns : goal.returns
unfolding steps step
returns c = moved_by 4 c.args.z _ ((reduced_by {t = REDUCED} refl tt).at (c.args.z % 16) (omega arith))
