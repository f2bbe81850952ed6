use Rattle.bodies.proofs.Bodies.{by_steps, left_at, end, stop, step}
use Rattle.bodies.proofs.ByTags.{auth_done_is}
use Rattle.bodies.proofs.read_auth_done.Goals as goal

pub returns-in_err-global_id : goal.returns-in_err-global_id
returns-in_err-global_id c =
    left_at (auth_done_is _) c.start.ensures c.from_residual.ensures.1
    (stop _ c.in_err-global_id.ensures)

pub returns-in_err-mode : goal.returns-in_err-mode
returns-in_err-mode c =
    left_at (auth_done_is _) c.start.ensures c.from_residual-in_err-mode.ensures.1
    (step _ _ c.in_ok-global_id.ensures (stop _ c.in_err-mode.ensures))

pub returns-in_err-payload : goal.returns-in_err-payload
returns-in_err-payload c =
    left_at (auth_done_is _) c.start.ensures c.from_residual-in_err-payload.ensures.1
    (step _ _ c.in_ok-global_id.ensures (step _ _ c.in_ok-mode.ensures (stop _ c.in_err-payload.ensures)))

pub returns : goal.returns
returns c =
    by_steps (auth_done_is _) c.start.ensures
    (step _ _ c.in_ok-global_id.ensures (step _ _ c.in_ok-mode.ensures (step _ _ c.in_ok-payload.ensures (end c.settle.ensures))))
