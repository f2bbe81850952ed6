use Rattle.std.proofs.Common.{refl, arith}
use Rattle.body_cases.proofs.Requests.{left_at, asked, stop, step, end, number-given, number_cut}
use Rattle.body_cases.proofs.writing.ask_reset.Goals as goal

pub returns-in_err-full : goal.returns-in_err-full
returns-in_err-full c =
    left_at c.from_residual.ensures.1
    (stop (number_cut _ _ _ c.in_err-full.ensures))

pub returns : goal.returns
returns c =
    asked
    (step (number-given c.in_ok-full.ensures) end)
    (rw c.alone.ensures refl) (rw c.alone.ensures refl) (rw c.alone.ensures (omega arith)) (rw c.alone.ensures (omega arith))
