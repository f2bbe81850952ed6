use Rattle.bodies.proofs.Bodies.{by_steps, left_at, end, stop, step}
use Rattle.bodies.proofs.ByTags.{more_is}
use Rattle.bodies.proofs.read_more.Goals as goal

pub returns-in_err-payload : goal.returns-in_err-payload
returns-in_err-payload c =
    left_at (more_is _) c.start.ensures c.from_residual.ensures.1
    (stop _ c.in_err-payload.ensures)

pub returns : goal.returns
returns c =
    by_steps (more_is _) c.start.ensures
    (step _ _ c.in_ok-payload.ensures (end c.settle.ensures))
