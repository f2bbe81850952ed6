use Rattle.std.specs.Int.Bits.{bit_xor}
use Rattle.gcm.specs.Gcm.{tag_of}
use Rattle.gcm.proofs.Placing.{written}
use Rattle.gcm.proofs.tag.Goals as goal

pub returns : goal.returns
unfolding tag_of
returns c = cc (written (bit_xor c.hash-y.result c.block_number-m.result))
