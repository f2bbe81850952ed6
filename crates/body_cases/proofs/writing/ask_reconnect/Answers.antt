use Rattle.std.proofs.Common.{refl, arith}
use Rattle.body_cases.proofs.Requests.{left_at, asked, stop, past, step, end, number-given, opaque-given, number_cut}
use Rattle.body_cases.proofs.writing.ask_reconnect.Goals as goal

pub returns-in_err-addresses : goal.returns-in_err-addresses
returns-in_err-addresses c =
    left_at c.from_residual.ensures.1
    (stop (number_cut _ _ _ c.in_err-addresses.ensures))

pub returns-in_err-bytes : goal.returns-in_err-bytes
returns-in_err-bytes c =
    left_at c.from_residual-in_err-bytes.ensures.1
    (past (number-given c.in_ok-addresses.ensures) (stop c.in_err-bytes.ensures))

pub returns-in_err-client_cookie : goal.returns-in_err-client_cookie
returns-in_err-client_cookie c =
    left_at c.from_residual-in_err-client_cookie.ensures.1
    (past (number-given c.in_ok-addresses.ensures) (past (opaque-given 40 c.in_ok-bytes.ensures) (stop (number_cut _ _ _ c.in_err-client_cookie.ensures))))

pub returns-in_err-server_cookie : goal.returns-in_err-server_cookie
returns-in_err-server_cookie c =
    left_at c.from_residual-in_err-server_cookie.ensures.1
    (past (number-given c.in_ok-addresses.ensures) (past (opaque-given 40 c.in_ok-bytes.ensures) (past (number-given c.in_ok-client_cookie.ensures) (stop (number_cut _ _ _ c.in_err-server_cookie.ensures)))))

pub returns-in_err-global_seq : goal.returns-in_err-global_seq
returns-in_err-global_seq c =
    left_at c.from_residual-in_err-global_seq.ensures.1
    (past (number-given c.in_ok-addresses.ensures) (past (opaque-given 40 c.in_ok-bytes.ensures) (past (number-given c.in_ok-client_cookie.ensures) (past (number-given c.in_ok-server_cookie.ensures) (stop (number_cut _ _ _ c.in_err-global_seq.ensures))))))

pub returns-in_err-connect_seq : goal.returns-in_err-connect_seq
returns-in_err-connect_seq c =
    left_at c.from_residual-in_err-connect_seq.ensures.1
    (past (number-given c.in_ok-addresses.ensures) (past (opaque-given 40 c.in_ok-bytes.ensures) (past (number-given c.in_ok-client_cookie.ensures) (past (number-given c.in_ok-server_cookie.ensures) (past (number-given c.in_ok-global_seq.ensures) (stop (number_cut _ _ _ c.in_err-connect_seq.ensures)))))))

pub returns-in_err-msg_seq : goal.returns-in_err-msg_seq
returns-in_err-msg_seq c =
    left_at c.from_residual-in_err-msg_seq.ensures.1
    (past (number-given c.in_ok-addresses.ensures) (past (opaque-given 40 c.in_ok-bytes.ensures) (past (number-given c.in_ok-client_cookie.ensures) (past (number-given c.in_ok-server_cookie.ensures) (past (number-given c.in_ok-global_seq.ensures) (past (number-given c.in_ok-connect_seq.ensures) (stop (number_cut _ _ _ c.in_err-msg_seq.ensures))))))))

pub returns : goal.returns
returns c =
    asked
    (step (number-given c.in_ok-addresses.ensures) (step (opaque-given 40 c.in_ok-bytes.ensures) (step (number-given c.in_ok-client_cookie.ensures) (step (number-given c.in_ok-server_cookie.ensures) (step (number-given c.in_ok-global_seq.ensures) (step (number-given c.in_ok-connect_seq.ensures) (step (number-given c.in_ok-msg_seq.ensures) end)))))))
    (rw c.alone.ensures refl) (rw c.alone.ensures refl) (rw c.alone.ensures (omega arith)) (rw c.alone.ensures (omega arith))
