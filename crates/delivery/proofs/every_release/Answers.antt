use Rattle.delivery.proofs.Claim.{every_release}
use Rattle.delivery.proofs.every_release.Goals as goal

pub returns : goal.returns
returns c = every_release c.every_cutting.ensures c.every_call.ensures c.every_history.ensures
