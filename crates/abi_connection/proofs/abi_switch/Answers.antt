use mathlib.Core.Path.{◌≡◌, refl, ◌∙◌, sym, ap}
use mathlib.Core.Bool.{true, false, true≢false}
use Rattle.std.specs.Prelude.{Result, Ok, Err, is_err}
use Rattle.refusal.specs.declared.Refusal.{Refusal}
use Rattle.refusal.specs.Refusals.{Judged, is_fine, judged_by}
use Rattle.connection.specs.Step.{switched_sending}
use Rattle.abi_receiver.specs.Words.{number_of}
use Rattle.abi_connection.specs.Words.{abi_connection}
use Rattle.abi_connection.proofs.Calls.{switch-refused, switch-made}
use Rattle.abi_connection.proofs.abi_switch.Goals as goal

-- what a judgement that code asks for its refusal comes to
refused-is : (r : Result (Unit {0}) Refusal) → is_err r ≡ true → is_fine (judged_by r) ≡ false
refused-is (Ok u) e = absurd (true≢false (sym e))
refused-is (Err why) e = refl

fine-is : (r : Result (Unit {0}) Refusal) → is_err r ≡ false → is_fine (judged_by r) ≡ true
fine-is (Ok u) e = refl
fine-is (Err why) e = absurd (true≢false e)

pub returns-then-is_err : goal.returns-then-is_err
returns-then-is_err c =
    let z = c.args in
    let p = abi_connection z.link.now z.numbers.now z.block.now z.sealed.now z.first.now z.key.now z.nonce.now in
    let v = c.judge_words-v in
    let s = c.sending_by-s in
    switch-refused p z.with.now z.receiving_nonce.now z.sending_nonce.now _ s.result _ c.sending_numbers.ensures
    (sym (ap is_fine v.ensures) ∙ refused-is v.result (sym c.is_err.ensures.value ∙ c.if-is_err.true)) (c.number_of-n.ensures ∙ ap number_of v.ensures)
    (s.ensures ∙ ap (λ (j : Judged). switched_sending j z.with.now z.sending_nonce.now) v.ensures)

pub returns : goal.returns
returns c =
    let z = c.args in
    let p = abi_connection z.link.now z.numbers.now z.block.now z.sealed.now z.first.now z.key.now z.nonce.now in
    let v = c.judge_words-v in
    let s = c.sending_by-s in
    switch-made p z.with.now z.receiving_nonce.now z.sending_nonce.now _ s.result _ _ c.sending_numbers.ensures
    (sym (ap is_fine v.ensures) ∙ fine-is v.result (sym c.is_err.ensures.value ∙ c.if-is_err.false)) (c.number_of-n.ensures ∙ ap number_of v.ensures)
    (s.ensures ∙ ap (λ (j : Judged). switched_sending j z.with.now z.sending_nonce.now) v.ensures)
    (rw (← c.switch_on.ensures) c.secure_words-w.ensures)
