use Rattle.handshake.proofs.Walks.{every-run}
use Rattle.handshake.proofs.every_run.Goals as goal

pub returns : goal.returns
returns c = every-run
