use Rattle.aes.specs.Aes.{key_expansion}
use Rattle.aes.proofs.key_expansion.Goals as goal

pub returns : goal.returns
unfolding key_expansion
returns c = cc
