use Rattle.bodies.specs.Write.{end, step}
use Rattle.bodies.proofs.Drafted.{from_empty}
use Rattle.bodies.proofs.row_hello.Goals as goal

pub returns : goal.returns
returns c =
    from_empty c.start_draft.ensures
    (step c.append_u8-p.ensures (step c.append_rest.ensures end))
