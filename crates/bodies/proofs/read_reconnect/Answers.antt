use Rattle.bodies.proofs.Bodies.{by_steps, left_at, end, stop, step}
use Rattle.bodies.proofs.ByTags.{reconnect_is}
use Rattle.bodies.proofs.read_reconnect.Goals as goal

pub returns-in_err-addresses : goal.returns-in_err-addresses
returns-in_err-addresses c =
    left_at (reconnect_is _) c.start.ensures c.from_residual.ensures.1
    (stop _ c.in_err-addresses.ensures)

pub returns-in_err-block : goal.returns-in_err-block
returns-in_err-block c =
    left_at (reconnect_is _) c.start.ensures c.from_residual-in_err-block.ensures.1
    (step _ _ c.in_ok-addresses.ensures (stop _ c.in_err-block.ensures))

pub returns-in_err-client_cookie : goal.returns-in_err-client_cookie
returns-in_err-client_cookie c =
    left_at (reconnect_is _) c.start.ensures c.from_residual-in_err-client_cookie.ensures.1
    (step _ _ c.in_ok-addresses.ensures (step _ _ c.in_ok-block.ensures (stop _ c.in_err-client_cookie.ensures)))

pub returns-in_err-server_cookie : goal.returns-in_err-server_cookie
returns-in_err-server_cookie c =
    left_at (reconnect_is _) c.start.ensures c.from_residual-in_err-server_cookie.ensures.1
    (step _ _ c.in_ok-addresses.ensures (step _ _ c.in_ok-block.ensures (step _ _ c.in_ok-client_cookie.ensures (stop _ c.in_err-server_cookie.ensures))))

pub returns-in_err-global_seq : goal.returns-in_err-global_seq
returns-in_err-global_seq c =
    left_at (reconnect_is _) c.start.ensures c.from_residual-in_err-global_seq.ensures.1
    (step _ _ c.in_ok-addresses.ensures (step _ _ c.in_ok-block.ensures (step _ _ c.in_ok-client_cookie.ensures (step _ _ c.in_ok-server_cookie.ensures (stop _ c.in_err-global_seq.ensures)))))

pub returns-in_err-connect_seq : goal.returns-in_err-connect_seq
returns-in_err-connect_seq c =
    left_at (reconnect_is _) c.start.ensures c.from_residual-in_err-connect_seq.ensures.1
    (step _ _ c.in_ok-addresses.ensures (step _ _ c.in_ok-block.ensures (step _ _ c.in_ok-client_cookie.ensures (step _ _ c.in_ok-server_cookie.ensures (step _ _ c.in_ok-global_seq.ensures (stop _ c.in_err-connect_seq.ensures))))))

pub returns-in_err-msg_seq : goal.returns-in_err-msg_seq
returns-in_err-msg_seq c =
    left_at (reconnect_is _) c.start.ensures c.from_residual-in_err-msg_seq.ensures.1
    (step _ _ c.in_ok-addresses.ensures (step _ _ c.in_ok-block.ensures (step _ _ c.in_ok-client_cookie.ensures (step _ _ c.in_ok-server_cookie.ensures (step _ _ c.in_ok-global_seq.ensures (step _ _ c.in_ok-connect_seq.ensures (stop _ c.in_err-msg_seq.ensures)))))))

pub returns : goal.returns
returns c =
    by_steps (reconnect_is _) c.start.ensures
    (step _ _ c.in_ok-addresses.ensures (step _ _ c.in_ok-block.ensures (step _ _ c.in_ok-client_cookie.ensures (step _ _ c.in_ok-server_cookie.ensures (step _ _ c.in_ok-global_seq.ensures (step _ _ c.in_ok-connect_seq.ensures (step _ _ c.in_ok-msg_seq.ensures (end c.settle.ensures))))))))
