use Rattle.link.proofs.Whole.{every-link}
use Rattle.link.proofs.every_link.Goals as goal

pub returns : goal.returns
returns c = every-link c.every_line.ensures c.every_cutting.ensures
