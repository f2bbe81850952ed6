use Rattle.bodies.proofs.Bodies.{by_steps, left_at, end, stop, step}
use Rattle.bodies.proofs.ByTags.{hello_is}
use Rattle.bodies.proofs.read_hello.Goals as goal

pub returns-in_err-entity_type : goal.returns-in_err-entity_type
returns-in_err-entity_type c =
    left_at (hello_is _) c.start.ensures c.from_residual.ensures.1
    (stop _ c.in_err-entity_type.ensures)

pub returns-in_err-address : goal.returns-in_err-address
returns-in_err-address c =
    left_at (hello_is _) c.start.ensures c.from_residual-in_err-address.ensures.1
    (step _ _ c.in_ok-entity_type.ensures (stop _ c.in_err-address.ensures))

pub returns : goal.returns
returns c =
    by_steps (hello_is _) c.start.ensures
    (step _ _ c.in_ok-entity_type.ensures (step _ _ c.in_ok-address.ensures (end c.settle.ensures)))
