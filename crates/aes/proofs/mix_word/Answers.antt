use Rattle.aes.proofs.Packing.{mixed_by_rotations}
use Rattle.aes.proofs.mix_word.Goals as goal

pub returns : goal.returns
returns c = cc (mixed_by_rotations c.args.w c.twice-d.result c.ranges.w.fits c.twice-d.type_inv c.twice-d.ensures)
