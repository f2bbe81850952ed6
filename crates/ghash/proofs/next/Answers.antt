use Rattle.std.proofs.Common.{ap, ◌/◌}
use Rattle.std.specs.Int.Bits.{bit_xor}
use Rattle.ghash.specs.Ghash.{step}
use Rattle.ghash.proofs.next.Goals as goal

pub returns : goal.returns
unfolding step
returns c = ap (bit_xor (c.args.v / 2)) c.pick.ensures
