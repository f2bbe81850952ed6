use Rattle.std.proofs.Common.{refl}
use Rattle.sbox.specs.Sbox.{sbox, affine, inverse, power, mul_bits, xtime}
use Rattle.sbox.proofs.Rules.{ruled}
use Rattle.sbox.proofs.table_in_place.Goals as goal

pub returns : goal.returns
unfolding sbox affine inverse power mul_bits xtime
returns c = ruled refl tt
