use Rattle.bodies.proofs.Bodies.{by_steps, left_at, end, stop, step}
use Rattle.bodies.proofs.ByTags.{bad_method_is}
use Rattle.bodies.proofs.read_bad_method.Goals as goal

pub returns-in_err-method : goal.returns-in_err-method
returns-in_err-method c =
    left_at (bad_method_is _) c.start.ensures c.from_residual.ensures.1
    (stop _ c.in_err-method.ensures)

pub returns-in_err-error : goal.returns-in_err-error
returns-in_err-error c =
    left_at (bad_method_is _) c.start.ensures c.from_residual-in_err-error.ensures.1
    (step _ _ c.in_ok-method.ensures (stop _ c.in_err-error.ensures))

pub returns-in_err-methods : goal.returns-in_err-methods
returns-in_err-methods c =
    left_at (bad_method_is _) c.start.ensures c.from_residual-in_err-methods.ensures.1
    (step _ _ c.in_ok-method.ensures (step _ _ c.in_ok-error.ensures (stop _ c.in_err-methods.ensures)))

pub returns-in_err-modes : goal.returns-in_err-modes
returns-in_err-modes c =
    left_at (bad_method_is _) c.start.ensures c.from_residual-in_err-modes.ensures.1
    (step _ _ c.in_ok-method.ensures (step _ _ c.in_ok-error.ensures (step _ _ c.in_ok-methods.ensures (stop _ c.in_err-modes.ensures))))

pub returns : goal.returns
returns c =
    by_steps (bad_method_is _) c.start.ensures
    (step _ _ c.in_ok-method.ensures (step _ _ c.in_ok-error.ensures (step _ _ c.in_ok-methods.ensures (step _ _ c.in_ok-modes.ensures (end c.settle.ensures)))))
