use Rattle.std.proofs.Common.{refl, arith}
use Rattle.body_cases.proofs.Requests.{left_at, asked, stop, past, step, end, number-given, opaque-given, number_cut}
use Rattle.body_cases.proofs.writing.ask_hello.Goals as goal

pub returns-in_err-entity_type : goal.returns-in_err-entity_type
returns-in_err-entity_type c =
    left_at c.from_residual.ensures.1
    (stop (number_cut _ _ _ c.in_err-entity_type.ensures))

pub returns-in_err-bytes : goal.returns-in_err-bytes
returns-in_err-bytes c =
    left_at c.from_residual-in_err-bytes.ensures.1
    (past (number-given c.in_ok-entity_type.ensures) (stop c.in_err-bytes.ensures))

pub returns : goal.returns
returns c =
    asked
    (step (number-given c.in_ok-entity_type.ensures) (step (opaque-given 0 c.in_ok-bytes.ensures) end))
    (rw c.alone.ensures refl) (rw c.alone.ensures refl) (rw c.alone.ensures (omega arith)) (rw c.alone.ensures (omega arith))
