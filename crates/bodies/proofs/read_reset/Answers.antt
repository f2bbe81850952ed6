use Rattle.bodies.proofs.Bodies.{by_steps, left_at, end, stop, step}
use Rattle.bodies.proofs.ByTags.{reset_is}
use Rattle.bodies.proofs.read_reset.Goals as goal

pub returns-in_err-full : goal.returns-in_err-full
returns-in_err-full c =
    left_at (reset_is _) c.start.ensures c.from_residual.ensures.1
    (stop _ c.in_err-full.ensures)

pub returns : goal.returns
returns c =
    by_steps (reset_is _) c.start.ensures
    (step _ _ c.in_ok-full.ensures (end c.settle.ensures))
