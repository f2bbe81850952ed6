use Rattle.banner.proofs.Bits.{zeros-lowest, ones_count}
use Rattle.banner.proofs.detail_of.Goals as goal

pub returns : goal.returns
returns c = cc (zeros-lowest 64 c.args.bits, ones_count 64 c.args.bits c.ranges.bits.fits)
