use Rattle.sbox.specs.Sbox.{inverse, power, mul_bits, xtime}
use Rattle.sbox.proofs.Rules.{inverts}
use Rattle.sbox.proofs.inverses.Goals as goal

pub returns : goal.returns
unfolding inverse power mul_bits xtime
returns c = inverts tt
