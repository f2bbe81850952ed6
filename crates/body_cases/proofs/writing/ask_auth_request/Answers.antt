use Rattle.std.proofs.Common.{refl, arith}
use Rattle.body_cases.proofs.Requests.{left_at, asked, stop, past, step, end, number-given, opaque-given, number_cut}
use Rattle.body_cases.proofs.writing.ask_auth_request.Goals as goal

pub returns-in_err-method : goal.returns-in_err-method
returns-in_err-method c =
    left_at c.from_residual.ensures.1
    (stop (number_cut _ _ _ c.in_err-method.ensures))

pub returns-in_err-first : goal.returns-in_err-first
returns-in_err-first c =
    left_at c.from_residual-in_err-first.ensures.1
    (past (number-given c.in_ok-method.ensures) (stop c.in_err-first.ensures.given))

pub returns-in_err-bytes : goal.returns-in_err-bytes
returns-in_err-bytes c =
    left_at c.from_residual-in_err-bytes.ensures.1
    (past (number-given c.in_ok-method.ensures) (past c.in_ok-first.ensures.given (stop c.in_err-bytes.ensures)))

pub returns : goal.returns
returns c =
    asked
    (step (number-given c.in_ok-method.ensures) (step c.in_ok-first.ensures.given (step (opaque-given 0 c.in_ok-bytes.ensures) end)))
    (rw c.alone.ensures refl) (rw c.alone.ensures refl) c.in_ok-first.ensures.few (rw c.alone.ensures (omega arith))
