use Rattle.delivery.proofs.Every.{every_call}
use Rattle.delivery.proofs.every_call.Goals as goal

pub returns : goal.returns
returns c = every_call c.every_call.ensures c.every_call-2.ensures
