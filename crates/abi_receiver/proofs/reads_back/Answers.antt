use Rattle.abi_receiver.proofs.Back.{reads-back}
use Rattle.abi_receiver.proofs.reads_back.Goals as goal

pub returns : goal.returns
returns c = reads-back
