use Rattle.std.proofs.Common.{◌∙◌, ap}
use Rattle.aes.specs.Aes.{state_of, column_at}
use Rattle.gcm.specs.Gcm.{block_number, hash_key}
use Rattle.gcm.proofs.hash_key.Goals as goal

pub returns : goal.returns
unfolding hash_key state_of column_at
returns c = c.block_number.ensures ∙ ap block_number c.encrypt.ensures
