use mathlib.Core.Path.{◌≡◌}
use lib.ListN.{length}
use Rattle.abi_delivery.proofs.Laws.{nothing-done, something_done}
use borrow.Author.Rules.{rules}
use Rattle.abi_delivery.proofs.apply_words.Goals as goal

pub returns-in-Nothing : goal.returns-in-Nothing
returns-in-Nothing c =
    let z = c.args in
    let h : length z.ws ≡ 2 = search rules in
    nothing-done z.ws z.handles.now z.request h c.in-Nothing.is c.no_effect.ensures

pub returns-in_default : goal.returns-in_default
returns-in_default c =
    let z = c.args in
    something_done z.ws z.handles.now z.request c.session_of.ensures c.apply-d.ensures c.session_numbers.ensures c.effect_words.ensures
