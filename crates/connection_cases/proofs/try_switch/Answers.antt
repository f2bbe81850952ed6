use mathlib.Core.Path.{refl}
use native.Mathlib.Omega.{arith}
use Rattle.connection_cases.proofs.Laws.{try_did}
use Rattle.connection_cases.proofs.try_switch.Goals as goal

pub returns : goal.returns
returns c =
    let a = c.args in
    let h = c.requires in
    try_did a.s.now a.place a.state c.switch-o.result
    (c.bytes_at-key.ensures (omega arith))
    (c.bytes_at.ensures (omega arith))
    (c.bytes_at-2.ensures (omega arith))
    c.u64_at.ensures
    c.switch-o.ensures
    c.opened_by.ensures
    refl
    c.print_judgement.ensures
    c.print_empty.ensures
