use Rattle.bodies.proofs.Bodies.{by_steps, left_at, end, stop, step}
use Rattle.bodies.proofs.ByTags.{auth_request_is}
use Rattle.bodies.proofs.read_auth_request.Goals as goal

pub returns-in_err-method : goal.returns-in_err-method
returns-in_err-method c =
    left_at (auth_request_is _) c.start.ensures c.from_residual.ensures.1
    (stop _ c.in_err-method.ensures)

pub returns-in_err-modes : goal.returns-in_err-modes
returns-in_err-modes c =
    left_at (auth_request_is _) c.start.ensures c.from_residual-in_err-modes.ensures.1
    (step _ _ c.in_ok-method.ensures (stop _ c.in_err-modes.ensures))

pub returns-in_err-payload : goal.returns-in_err-payload
returns-in_err-payload c =
    left_at (auth_request_is _) c.start.ensures c.from_residual-in_err-payload.ensures.1
    (step _ _ c.in_ok-method.ensures (step _ _ c.in_ok-modes.ensures (stop _ c.in_err-payload.ensures)))

pub returns : goal.returns
returns c =
    by_steps (auth_request_is _) c.start.ensures
    (step _ _ c.in_ok-method.ensures (step _ _ c.in_ok-modes.ensures (step _ _ c.in_ok-payload.ensures (end c.settle.ensures))))
