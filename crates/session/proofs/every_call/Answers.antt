use Rattle.session.proofs.Single.{every_call}
use Rattle.session.proofs.every_call.Goals as goal

pub returns : goal.returns
returns c = every_call
