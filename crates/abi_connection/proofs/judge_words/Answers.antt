use mathlib.Core.Path.{refl, sym, ap, ◌∙◌}
use mathlib.Core.Bool.{true, false, not, ◌&&◌}
use lib.Dec.{eqb}
use lib.ListN.{get_or}
use Rattle.refusal.specs.declared.Refusal.TheVariants as refusal
use Rattle.refusal.specs.Refusals.{Judged, judged_by, unless}
use Rattle.abi_connection.specs.Words.{abi_connection}
use Rattle.abi_connection.proofs.Agreeing.{judged_by_lem}
use Rattle.abi_connection.proofs.judge_words.Goals as goal

pub returns-then-not-agrees : goal.returns-then-not-agrees
returns-then-not-agrees c =
    let z = c.args in
    let m : Judged = unless (not (eqb (get_or z.link 1 0) 0) && not (eqb (get_or z.numbers 1 0) 0)) refusal.SwitchRefused in
    judged_by_lem (abi_connection z.link z.numbers z.block z.sealed z.first z.key z.nonce) _ (unless false refusal.StateContradicts) m false
    refl
    refl
    (sym c.if-not-agrees.true ∙ c.agrees.ensures)
    refl

pub returns : goal.returns
returns c =
    let z = c.args in
    judged_by_lem (abi_connection z.link z.numbers z.block z.sealed z.first z.key z.nonce) (judged_by c.unless.result) (unless true refusal.StateContradicts) (judged_by c.unless.result) true
    refl
    refl
    (sym c.if-not-agrees.false ∙ c.agrees.ensures)
    (c.unless.ensures ∙ ap (λ b. unless b refusal.SwitchRefused) c.may_switch.ensures)
