use Rattle.std.proofs.Common.{refl}
use Rattle.body_cases.proofs.Requests.{left_at, asked, stop, past, step, end, number-given, error-given, number_cut}
use Rattle.body_cases.proofs.writing.ask_bad_method.Goals as goal

pub returns-in_err-method : goal.returns-in_err-method
returns-in_err-method c =
    left_at c.from_residual.ensures.1
    (stop (number_cut _ _ _ c.in_err-method.ensures))

pub returns-in_err-error : goal.returns-in_err-error
returns-in_err-error c =
    left_at c.from_residual-in_err-error.ensures.1
    (past (number-given c.in_ok-method.ensures) (stop (number_cut _ _ _ c.in_err-error.ensures)))

pub returns-in_err-first : goal.returns-in_err-first
returns-in_err-first c =
    left_at c.from_residual-in_err-first.ensures.1
    (past (number-given c.in_ok-method.ensures) (past (error-given c.in_ok-error.ensures) (stop c.in_err-first.ensures.given)))

pub returns-in_err-second : goal.returns-in_err-second
returns-in_err-second c =
    left_at c.from_residual-in_err-second.ensures.1
    (past (number-given c.in_ok-method.ensures) (past (error-given c.in_ok-error.ensures) (past c.in_ok-first.ensures.given (stop c.in_err-second.ensures.given))))

pub returns : goal.returns
returns c =
    asked
    (step (number-given c.in_ok-method.ensures) (step (error-given c.in_ok-error.ensures) (step c.in_ok-first.ensures.given (step c.in_ok-second.ensures.given end))))
    (rw c.alone.ensures refl) (rw c.alone.ensures refl) c.in_ok-first.ensures.few c.in_ok-second.ensures.few
