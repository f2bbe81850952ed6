use Rattle.bodies.specs.Write.{end, step}
use Rattle.bodies.proofs.Drafted.{from_empty}
use Rattle.bodies.proofs.row_reconnect.Goals as goal

pub returns : goal.returns
returns c =
    from_empty c.start_draft.ensures
    (step c.append_u32-p.ensures (step c.append_rest-p.ensures (step c.append_u64-p.ensures (step c.append_u64-p-2.ensures (step c.append_u64-p-3.ensures (step c.append_u64-p-4.ensures (step c.append_u64.ensures end)))))))
