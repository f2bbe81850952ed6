use Rattle.bodies.proofs.Bodies.{by_steps, left_at, end, stop, step}
use Rattle.bodies.proofs.ByTags.{one_number_is}
use Rattle.bodies.proofs.read_one_number.Goals as goal

pub returns-in_err-n : goal.returns-in_err-n
returns-in_err-n c =
    left_at (one_number_is _) c.start.ensures c.from_residual.ensures.1
    (stop _ c.in_err-n.ensures)

pub returns : goal.returns
returns c =
    by_steps (one_number_is _) c.start.ensures
    (step _ _ c.in_ok-n.ensures (end c.settle.ensures))
