use Rattle.bodies.proofs.ByTags.{above-limit, within-limit}
use Rattle.bodies.proofs.read.Goals as goal

pub returns-then-s : goal.returns-then-s
returns-then-s c = above-limit _ _ c.if-s.true

pub returns : goal.returns
returns c = within-limit _ _ c.if-s.false c.read_listed.ensures
