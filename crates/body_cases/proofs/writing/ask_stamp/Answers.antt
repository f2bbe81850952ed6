use Rattle.std.proofs.Common.{refl, arith}
use Rattle.body_cases.proofs.Requests.{left_at, asked, stop, step, end, stamp-given, stamp_cut}
use Rattle.body_cases.proofs.writing.ask_stamp.Goals as goal

pub returns-in_err-bytes : goal.returns-in_err-bytes
returns-in_err-bytes c =
    left_at c.from_residual.ensures.1
    (stop (stamp_cut _ _ _ c.in_err-bytes.ensures))

pub returns : goal.returns
returns c =
    asked
    (step (stamp-given {p = c.in_ok-bytes.bytes} c.in_ok-bytes.ensures) end)
    (rw c.alone.ensures refl) (rw c.alone.ensures refl) (rw c.alone.ensures (omega arith)) (rw c.alone.ensures (omega arith))
