use Rattle.banner.proofs.Bits.{missing-is}
use Rattle.banner.proofs.missing_of.Goals as goal

pub returns : goal.returns
returns c = missing-is 64 c.args.required c.args.supported c.ranges.required.fits c.ranges.supported.fits
