-- What a call on the part for sealed frames promises, on each of its two ways.
use mathlib.Core.Path.{◌≡◌, sym, ap, subst, ◌∙◌}
use mathlib.Core.List.{List}
use mathlib.Core.Bool.{Bool, true, false, cond}
use Prim.Native.Nat.{ℕ}
use Rattle.refusal.proofs.Booleans.{wrong}
use Rattle.stream.specs.declared.Event.TheVariants as event
use Rattle.std.specs.Prelude.{Some}
use Rattle.refusal.specs.Refusals.{contradiction}
use Rattle.sealed_receiver.specs.declared.State.{State}
use Rattle.sealed_receiver.specs.declared.Received.{Received}
use Rattle.sealed_receiver.specs.Step.{Answer, answer, Answered}
use Rattle.abi_receiver.specs.Words.{report_words, ReportOf}
use Rattle.abi_connection.specs.Secure.{AbiSecure, secure_of, abi_of, fits, AbiOf, handed, received_by, store_by, SecureAnswered}

module _ (p : AbiSecure) (s piece : List ℕ) where
  pub beyond : fits p.numbers ≡ false → (received_by p s piece ≡ handed p (report_words 0 (Some (event.Refused contradiction)))) × (store_by p s piece ≡ s)
  unfolding received_by store_by
  beyond e = (rw e, rw e)

  abbrev a : Answer
  a = answer (secure_of p) s piece

  pub within : fits p.numbers ≡ true
      → (received_by p s piece ≡ handed (abi_of a.received.state) (report_words a.received.taken a.received.report)) × (store_by p s piece ≡ a.store)
  unfolding received_by store_by
  within e = (rw e, rw e)

  pub words-refused : (r : List ℕ) → fits p.numbers ≡ false → r ≡ report_words 0 (Some (event.Refused contradiction)) → SecureAnswered p s piece (handed p r) s
  words-refused r e d =
      let b = beyond e in
      record { received = ap (handed p) d ∙ sym b.0; store = sym b.1; back = λ t. wrong (sym e ∙ t); tells = rw (e, d) }

  joined : {q q' : AbiSecure} {r r' : List ℕ} → q ≡ q' → r ≡ r' → handed q r ≡ handed q' r'
  joined e f = rw (e, f)

  words_of : (o : Received) (q : AbiSecure) (r : List ℕ) → AbiOf o.state q → ReportOf o.taken o.report r → o ≡ a.received
      → handed q r ≡ handed (abi_of a.received.state) (report_words a.received.taken a.received.report)
  words_of o q r w t f = joined w.words t.words ∙ ap (λ (x : Received). handed (abi_of x.state) (report_words x.taken x.report)) f

  pub answered : (st : State) (o : Received) (q : AbiSecure) (r s' : List ℕ) → fits p.numbers ≡ true → st ≡ secure_of p → Answered st s piece o s'
      → AbiOf o.state q → ReportOf o.taken o.report r → SecureAnswered p s piece (handed q r) s'
  answered st o q r s' e d h w t =
      let b = within e in
      let f : o ≡ a.received = h.received ∙ rw d in
      record {
        received = words_of o q r w t f ∙ sym b.0;
        store = h.store ∙ (rw d) ∙ sym b.1;
        back = λ _. subst (λ (x : Received). AbiOf x.state q) f w;
        tells = t.back ∙ ap (λ (x : Received). x.report) f ∙ ap (λ (x : Bool). cond x a.received.report (Some (event.Refused contradiction))) (sym e);
      }
