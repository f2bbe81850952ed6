use Rattle.std.proofs.Common.{refl, arith}
use Rattle.body_cases.proofs.Requests.{left_at, asked, stop, past, step, end, number-given, opaque-given, number_cut}
use Rattle.body_cases.proofs.writing.ask_ident.Goals as goal

pub returns-in_err-addresses : goal.returns-in_err-addresses
returns-in_err-addresses c =
    left_at c.from_residual.ensures.1
    (stop (number_cut _ _ _ c.in_err-addresses.ensures))

pub returns-in_err-bytes : goal.returns-in_err-bytes
returns-in_err-bytes c =
    left_at c.from_residual-in_err-bytes.ensures.1
    (past (number-given c.in_ok-addresses.ensures) (stop c.in_err-bytes.ensures))

pub returns-in_err-gid : goal.returns-in_err-gid
returns-in_err-gid c =
    left_at c.from_residual-in_err-gid.ensures.1
    (past (number-given c.in_ok-addresses.ensures) (past (opaque-given 48 c.in_ok-bytes.ensures) (stop (number_cut _ _ _ c.in_err-gid.ensures))))

pub returns-in_err-global_seq : goal.returns-in_err-global_seq
returns-in_err-global_seq c =
    left_at c.from_residual-in_err-global_seq.ensures.1
    (past (number-given c.in_ok-addresses.ensures) (past (opaque-given 48 c.in_ok-bytes.ensures) (past (number-given c.in_ok-gid.ensures) (stop (number_cut _ _ _ c.in_err-global_seq.ensures)))))

pub returns-in_err-supported : goal.returns-in_err-supported
returns-in_err-supported c =
    left_at c.from_residual-in_err-supported.ensures.1
    (past (number-given c.in_ok-addresses.ensures) (past (opaque-given 48 c.in_ok-bytes.ensures) (past (number-given c.in_ok-gid.ensures) (past (number-given c.in_ok-global_seq.ensures) (stop (number_cut _ _ _ c.in_err-supported.ensures))))))

pub returns-in_err-required : goal.returns-in_err-required
returns-in_err-required c =
    left_at c.from_residual-in_err-required.ensures.1
    (past (number-given c.in_ok-addresses.ensures) (past (opaque-given 48 c.in_ok-bytes.ensures) (past (number-given c.in_ok-gid.ensures) (past (number-given c.in_ok-global_seq.ensures) (past (number-given c.in_ok-supported.ensures) (stop (number_cut _ _ _ c.in_err-required.ensures)))))))

pub returns-in_err-flags : goal.returns-in_err-flags
returns-in_err-flags c =
    left_at c.from_residual-in_err-flags.ensures.1
    (past (number-given c.in_ok-addresses.ensures) (past (opaque-given 48 c.in_ok-bytes.ensures) (past (number-given c.in_ok-gid.ensures) (past (number-given c.in_ok-global_seq.ensures) (past (number-given c.in_ok-supported.ensures) (past (number-given c.in_ok-required.ensures) (stop (number_cut _ _ _ c.in_err-flags.ensures))))))))

pub returns-in_err-cookie : goal.returns-in_err-cookie
returns-in_err-cookie c =
    left_at c.from_residual-in_err-cookie.ensures.1
    (past (number-given c.in_ok-addresses.ensures) (past (opaque-given 48 c.in_ok-bytes.ensures) (past (number-given c.in_ok-gid.ensures) (past (number-given c.in_ok-global_seq.ensures) (past (number-given c.in_ok-supported.ensures) (past (number-given c.in_ok-required.ensures) (past (number-given c.in_ok-flags.ensures) (stop (number_cut _ _ _ c.in_err-cookie.ensures)))))))))

pub returns : goal.returns
returns c =
    asked
    (step (number-given c.in_ok-addresses.ensures) (step (opaque-given 48 c.in_ok-bytes.ensures) (step (number-given c.in_ok-gid.ensures) (step (number-given c.in_ok-global_seq.ensures) (step (number-given c.in_ok-supported.ensures) (step (number-given c.in_ok-required.ensures) (step (number-given c.in_ok-flags.ensures) (step (number-given c.in_ok-cookie.ensures) end))))))))
    (rw c.alone.ensures refl) (rw c.alone.ensures refl) (rw c.alone.ensures (omega arith)) (rw c.alone.ensures (omega arith))
