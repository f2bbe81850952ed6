use Rattle.bodies.proofs.ByTags.{every_body}
use Rattle.bodies.proofs.every_body.Goals as goal

pub returns : goal.returns
returns c = every_body
