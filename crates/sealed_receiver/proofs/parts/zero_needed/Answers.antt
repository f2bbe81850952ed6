use Rattle.secure.proofs.Stores.{zeros-over}
use Rattle.sealed_receiver.proofs.parts.zero_needed.Goals as goal

pub returns : goal.returns
returns c = zeros-over c.args.h c.args.store.now c.put_zeros.new.out c.needed_of.result c.needed_of.ensures.0 c.requires c.put_zeros.ensures
