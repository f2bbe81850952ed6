use Rattle.bodies.proofs.Bodies.{by_steps, left_at, end, stop, step}
use Rattle.bodies.proofs.ByTags.{ident_is}
use Rattle.bodies.proofs.read_ident.Goals as goal

pub returns-in_err-addresses : goal.returns-in_err-addresses
returns-in_err-addresses c =
    left_at (ident_is _) c.start.ensures c.from_residual.ensures.1
    (stop _ c.in_err-addresses.ensures)

pub returns-in_err-block : goal.returns-in_err-block
returns-in_err-block c =
    left_at (ident_is _) c.start.ensures c.from_residual-in_err-block.ensures.1
    (step _ _ c.in_ok-addresses.ensures (stop _ c.in_err-block.ensures))

pub returns-in_err-gid : goal.returns-in_err-gid
returns-in_err-gid c =
    left_at (ident_is _) c.start.ensures c.from_residual-in_err-gid.ensures.1
    (step _ _ c.in_ok-addresses.ensures (step _ _ c.in_ok-block.ensures (stop _ c.in_err-gid.ensures)))

pub returns-in_err-global_seq : goal.returns-in_err-global_seq
returns-in_err-global_seq c =
    left_at (ident_is _) c.start.ensures c.from_residual-in_err-global_seq.ensures.1
    (step _ _ c.in_ok-addresses.ensures (step _ _ c.in_ok-block.ensures (step _ _ c.in_ok-gid.ensures (stop _ c.in_err-global_seq.ensures))))

pub returns-in_err-supported : goal.returns-in_err-supported
returns-in_err-supported c =
    left_at (ident_is _) c.start.ensures c.from_residual-in_err-supported.ensures.1
    (step _ _ c.in_ok-addresses.ensures (step _ _ c.in_ok-block.ensures (step _ _ c.in_ok-gid.ensures (step _ _ c.in_ok-global_seq.ensures (stop _ c.in_err-supported.ensures)))))

pub returns-in_err-required : goal.returns-in_err-required
returns-in_err-required c =
    left_at (ident_is _) c.start.ensures c.from_residual-in_err-required.ensures.1
    (step _ _ c.in_ok-addresses.ensures (step _ _ c.in_ok-block.ensures (step _ _ c.in_ok-gid.ensures (step _ _ c.in_ok-global_seq.ensures (step _ _ c.in_ok-supported.ensures (stop _ c.in_err-required.ensures))))))

pub returns-in_err-flags : goal.returns-in_err-flags
returns-in_err-flags c =
    left_at (ident_is _) c.start.ensures c.from_residual-in_err-flags.ensures.1
    (step _ _ c.in_ok-addresses.ensures (step _ _ c.in_ok-block.ensures (step _ _ c.in_ok-gid.ensures (step _ _ c.in_ok-global_seq.ensures (step _ _ c.in_ok-supported.ensures (step _ _ c.in_ok-required.ensures (stop _ c.in_err-flags.ensures)))))))

pub returns-in_err-cookie : goal.returns-in_err-cookie
returns-in_err-cookie c =
    left_at (ident_is _) c.start.ensures c.from_residual-in_err-cookie.ensures.1
    (step _ _ c.in_ok-addresses.ensures (step _ _ c.in_ok-block.ensures (step _ _ c.in_ok-gid.ensures (step _ _ c.in_ok-global_seq.ensures (step _ _ c.in_ok-supported.ensures (step _ _ c.in_ok-required.ensures (step _ _ c.in_ok-flags.ensures (stop _ c.in_err-cookie.ensures))))))))

pub returns : goal.returns
returns c =
    by_steps (ident_is _) c.start.ensures
    (step _ _ c.in_ok-addresses.ensures (step _ _ c.in_ok-block.ensures (step _ _ c.in_ok-gid.ensures (step _ _ c.in_ok-global_seq.ensures (step _ _ c.in_ok-supported.ensures (step _ _ c.in_ok-required.ensures (step _ _ c.in_ok-flags.ensures (step _ _ c.in_ok-cookie.ensures (end c.settle.ensures)))))))))
