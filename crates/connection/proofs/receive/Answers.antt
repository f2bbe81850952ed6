use mathlib.Core.Path.{◌≡◌, sym, ap, ◌∙◌}
use mathlib.Core.Bool.{true, false}
use Rattle.connection.specs.Step.{is_secure, ready_rule}
use Rattle.connection.proofs.Laws.{contradicted, answered_by_lem}
use Rattle.connection.proofs.receive.Goals as goal

pub returns-then-not-ready_rule : goal.returns-then-not-ready_rule
returns-then-not-ready_rule c =
    let z = c.args in
    let e : ready_rule z.state ≡ false = sym c.ready_rule.ensures ∙ c.if-not-ready_rule.true in
    contradicted z.state z.store.now z.piece.now _ e c.from.ensures

pub returns-in-Secure : goal.returns-in-Secure
returns-in-Secure c =
    let z = c.args in
    let e : ready_rule z.state ≡ true = sym c.ready_rule.ensures ∙ c.if-not-ready_rule.false in
    let m : is_secure z.state.mode ≡ true = ap is_secure c.in-Secure.is in
    answered_by_lem z.state z.store.now z.piece.now true e m c.receive_secure.ensures

pub returns-in-Crc : goal.returns-in-Crc
returns-in-Crc c =
    let z = c.args in
    let e : ready_rule z.state ≡ true = sym c.ready_rule.ensures ∙ c.if-not-ready_rule.false in
    let m : is_secure z.state.mode ≡ false = ap is_secure c.in-Crc.is in
    answered_by_lem z.state z.store.now z.piece.now false e m c.receive_crc.ensures
