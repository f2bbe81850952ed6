use Rattle.std.proofs.Common.{refl, arith}
use Rattle.body_cases.proofs.Requests.{left_at, asked, stop, step, end, payload-given}
use Rattle.body_cases.proofs.writing.ask_more.Goals as goal

pub returns-in_err-bytes : goal.returns-in_err-bytes
returns-in_err-bytes c =
    left_at c.from_residual.ensures.1
    (stop c.in_err-bytes.ensures)

pub returns : goal.returns
returns c =
    asked
    (step (payload-given c.in_ok-bytes.ensures) end)
    (rw c.alone.ensures refl) (rw c.alone.ensures refl) (rw c.alone.ensures (omega arith)) (rw c.alone.ensures (omega arith))
