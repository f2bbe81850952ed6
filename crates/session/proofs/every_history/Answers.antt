use Rattle.session.proofs.Histories.{every-history}
use Rattle.session.proofs.every_history.Goals as goal

pub returns : goal.returns
returns c = every-history
