use Rattle.bodies.proofs.Bodies.{by_steps, left_at, end, stop, step}
use Rattle.bodies.proofs.ByTags.{stamp_is}
use Rattle.bodies.proofs.read_stamp.Goals as goal

pub returns-in_err-stamp : goal.returns-in_err-stamp
returns-in_err-stamp c =
    left_at (stamp_is _) c.start.ensures c.from_residual.ensures.1
    (stop _ c.in_err-stamp.ensures)

pub returns : goal.returns
returns c =
    by_steps (stamp_is _) c.start.ensures
    (step _ _ c.in_ok-stamp.ensures (end c.settle.ensures))
