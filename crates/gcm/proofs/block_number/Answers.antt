use Rattle.gcm.specs.Gcm.{block_number}
use Rattle.gcm.proofs.block_number.Goals as goal

pub returns : goal.returns
unfolding block_number
returns c = cc
