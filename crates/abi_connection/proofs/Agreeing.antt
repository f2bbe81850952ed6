-- Whether words stand for a state that agrees with itself. Of the part for crc frames a call says so, with any piece and any store: it gives 26 exactly where it does not.
use mathlib.Core.Path.{◌≡◌, refl, sym, ap, ap₂, subst, ◌∙◌}
use mathlib.Core.List.{List}
use mathlib.Core.Bool.{Bool, true, false, not, cond, ◌&&◌, and_assoc}
use Prim.Native.Nat.{ℕ, ◌≤◌}
use native.Mathlib.Omega.{arith}
use lib.Dec.{eqb}
use lib.ListN.{get_or}
use borrow.Author.Tests.{eqb-true}
use Rattle.refusal.specs.declared.Refusal.TheVariants as refusal
use Rattle.refusal.specs.Refusals.{Judged, or_else, unless, contradiction}
use Rattle.refusal.proofs.Booleans.{by_test, at_test, each_true}
use Rattle.banner.specs.declared.Revision.TheVariants.{Msgr20, Msgr21}
use Rattle.stream.specs.declared.Event.TheVariants as event
use Rattle.std.specs.Prelude.{Some}
use Rattle.receiver.specs.State as crc-states
use Rattle.banner.specs.Banner.{is_msgr21}
use Rattle.receiver.specs.Step as crc-step
use Rattle.receiver.proofs.Every.{sound}
use Rattle.sealed_receiver.specs.State as sealed-states
use Rattle.connection.specs.declared.State.{State}
use Rattle.connection.specs.Step.{ready_rule, agrees_in_use, agrees, may_be_switched}
use Rattle.connection.proofs.Laws.{switch_judged}
use Rattle.abi_receiver.specs.Words as crc
use Rattle.abi_receiver.specs.Words.{AbiState, state_of, report_words}
use Rattle.abi_receiver.proofs.Back.{refused_report, refused-report}
use Rattle.abi_receiver.proofs.Answers.{answer-within, answer-beyond}
use Rattle.abi_connection.specs.Secure as secure
use Rattle.abi_connection.specs.Secure.{AbiSecure, secure_of}
use Rattle.abi_connection.specs.Words.{AbiConnection, connected, connection_of, fits, judge_words, is26}
use Rattle.abi_connection.proofs.Calls.{crc-stands, secure_stands, crc-fits, secure_fits, usable, not_usable, Usable, is-usable}

-- ---- a report of 26

tells_26 : (q : List ℕ) → is26 q ≡ true → refused_report q ≡ Some (event.Refused contradiction)
tells_26 q e =
    let a = each_true (eqb (get_or q 0 0) 4) (eqb (get_or q 15 0) 26 && (eqb (get_or q 16 0) 0 && (eqb (get_or q 17 0) 0 && eqb (get_or q 18 0) 0))) e in
    let b = each_true (eqb (get_or q 15 0) 26) (eqb (get_or q 16 0) 0 && (eqb (get_or q 17 0) 0 && eqb (get_or q 18 0) 0)) a.1 in
    let c = each_true (eqb (get_or q 16 0) 0) (eqb (get_or q 17 0) 0 && eqb (get_or q 18 0) 0) b.1 in
    let d = each_true (eqb (get_or q 17 0) 0) (eqb (get_or q 18 0) 0) c.1 in
    rw (eqb-true (get_or q 0 0) 4 a.0, eqb-true (get_or q 15 0) 26 b.0, eqb-true (get_or q 16 0) 0 c.0, eqb-true (get_or q 17 0) 0 d.0, eqb-true (get_or q 18 0) 0 d.1)

module _ (c : AbiState) (s piece : List ℕ) (o : crc.AbiReceived) (s' : List ℕ) (h : crc.AbiAnswered c s piece o s') where
  abbrev answered : crc-step.Answer
  answered = crc-step.answer (state_of c) s piece

  words-within : crc.fits c.numbers ≡ true → o.report ≡ report_words answered.received.taken answered.received.report
  words-within f = ap (λ (x : crc.AbiReceived). x.report) (h.received ∙ ap (λ (x : crc.AbiAnswer). x.received) (answer-within c s piece f))

  words-beyond : crc.fits c.numbers ≡ false → o.report ≡ report_words 0 (Some (event.Refused contradiction))
  words-beyond f = ap (λ (x : crc.AbiReceived). x.report) (h.received ∙ ap (λ (x : crc.AbiAnswer). x.received) (answer-beyond c s piece f))

  contradicting : crc-states.agrees (state_of c) ≡ false → answered ≡ crc-step.refuse_unchanged (state_of c) contradiction s
  unfolding crc-step.answer
  contradicting e = rw e

  agreeing : crc-states.agrees (state_of c) ≡ true → is26 (report_words answered.received.taken answered.received.report) ≡ false
  agreeing e =
      let x = answered.received in
      by_test (is26 (report_words x.taken x.report))
      (λ i. absurd ((sound (state_of c) s piece x answered.store (record { received = refl; store = refl })).never26 e (refused-report x.taken x.report contradiction (tells_26 (report_words x.taken x.report) i))))
      (λ i. i)

  pub crc_says : not (is26 o.report) ≡ (crc.fits c.numbers && crc-states.agrees (state_of c))
  crc_says =
      by_test (crc.fits c.numbers)
      (λ f. by_test (crc-states.agrees (state_of c)) (λ e. ap (λ (q : List ℕ). not (is26 q)) (words-within f) ∙ ap not (agreeing e) ∙ sym (rw (f, e)))
      (λ e. ap (λ (q : List ℕ). not (is26 q)) (words-within f ∙ ap (λ (x : crc-step.Answer). report_words x.received.taken x.received.report) (contradicting e)) ∙ sym (rw (f, e))))
      (λ f. ap (λ (q : List ℕ). not (is26 q)) (words-beyond f) ∙ sym (ap (λ (x : Bool). x && crc-states.agrees (state_of c)) f))

-- ---- the whole

agrees-is : (st : State) → agrees st ≡ (ready_rule st && agrees_in_use st)
unfolding agrees
agrees-is st = refl

pub disagrees : (p : AbiConnection) → usable p ≡ false → false ≡ (fits p && agrees (connection_of p))
disagrees p e =
    let st = connection_of p in
    ap (λ (b : Bool). b && agrees_in_use st) (sym (not_usable p e)) ∙ and_assoc (fits p) (ready_rule st) (agrees_in_use st) ∙ sym (ap (λ (b : Bool). fits p && b) (agrees-is st))

module _ (ready : ℕ) (c : AbiState) (x : AbiSecure) where
  pub crc-agrees : (b : Bool) → Usable (connected 0 ready c x) → b ≡ (crc.fits c.numbers && crc-states.agrees (state_of c))
      → b ≡ (fits (connected 0 ready c x) && agrees (connection_of (connected 0 ready c x)))
  crc-agrees b u e =
      let p = connected 0 ready c x in
      let i : agrees (connection_of p) ≡ crc-states.agrees (state_of c) =
      agrees-is (connection_of p) ∙ ap (λ (r : Bool). r && agrees_in_use (connection_of p)) u.rule ∙ ap agrees_in_use (crc-stands ready c x) in
      e ∙ sym (rw (crc-fits ready c x u.ready, i))

  pub secure_agrees : (b : Bool) → Usable (connected 1 ready c x) → b ≡ (secure.fits x.numbers && sealed-states.agrees (secure_of x))
      → b ≡ (fits (connected 1 ready c x) && agrees (connection_of (connected 1 ready c x)))
  secure_agrees b u e =
      let p = connected 1 ready c x in
      let i : agrees (connection_of p) ≡ sealed-states.agrees (secure_of x) =
      agrees-is (connection_of p) ∙ ap (λ (r : Bool). r && agrees_in_use (connection_of p)) u.rule ∙ ap agrees_in_use (secure_stands ready c x) in
      e ∙ sym (rw (secure_fits ready c x u.ready, i))

-- the same of the words as they lie in memory
module _ (link : List ℕ) (c : AbiState) (x : AbiSecure) where
  abbrev laid : AbiConnection
  laid = connected (get_or link 0 0) (get_or link 1 0) c x

  pub crc-agrees-given : (b : Bool) → get_or link 0 0 ≡ 0 → usable laid ≡ true → b ≡ (crc.fits c.numbers && crc-states.agrees (state_of c)) → b ≡ (fits laid && agrees (connection_of laid))
  crc-agrees-given b e u h =
      let ready = get_or link 1 0 in
      let v = subst (λ (m : ℕ). Usable (connected m ready c x)) e (is-usable laid u) in
      subst (λ (m : ℕ). b ≡ (fits (connected m ready c x) && agrees (connection_of (connected m ready c x)))) (sym e) (crc-agrees ready c x b v h)

  pub secure_agrees-given : (b : Bool) → (get_or link 0 0 ≡ 0 → ⊥) → usable laid ≡ true → b ≡ (secure.fits x.numbers && sealed-states.agrees (secure_of x))
      → b ≡ (fits laid && agrees (connection_of laid))
  secure_agrees-given b e u h =
      let ready = get_or link 1 0 in
      let l : get_or link 0 0 ≤ 1 = (is-usable laid u).mode in
      let f : get_or link 0 0 ≡ 1 = omega (arith, e) in
      let v = subst (λ (m : ℕ). Usable (connected m ready c x)) f (is-usable laid u) in
      subst (λ (m : ℕ). b ≡ (fits (connected m ready c x) && agrees (connection_of (connected m ready c x)))) (sym f) (secure_agrees ready c x b v h)

-- ---- the judgement of a switch

pub may_switch_lem : (p : AbiConnection) → (not (eqb p.ready 0) && not (eqb (get_or p.crc.numbers 1 0) 0)) ≡ may_be_switched (connection_of p)
unfolding connection_of state_of
may_switch_lem p =
    ap (λ (b : Bool). not (eqb p.ready 0) && b) (at_test (λ b. not b ≡ is_msgr21 (cond b Msgr20 Msgr21)) (eqb (get_or p.crc.numbers 1 0) 0) (λ _. refl) (λ _. refl))

pub judged-words : (p : AbiConnection) → or_else (unless (fits p && agrees (connection_of p)) refusal.StateContradicts) (unless (may_be_switched (connection_of p)) refusal.SwitchRefused) ≡ judge_words p
unfolding judge_words agrees
judged-words p = by_test (fits p) (λ f. rw f (switch_judged (connection_of p))) (λ f. rw f)

-- from the judgements of its two tests
pub judged_by_lem : (p : AbiConnection) (v a m : Judged) (g : Bool) → v ≡ or_else a m → a ≡ unless g refusal.StateContradicts → g ≡ (fits p && agrees (connection_of p))
    → m ≡ unless (not (eqb p.ready 0) && not (eqb (get_or p.crc.numbers 1 0) 0)) refusal.SwitchRefused → v ≡ judge_words p
judged_by_lem p v a m g e f h i =
    e
    ∙ ap₂ or_else (f ∙ ap (λ (b : Bool). unless b refusal.StateContradicts) h) (i ∙ ap (λ (b : Bool). unless b refusal.SwitchRefused) (may_switch_lem p))
    ∙ judged-words p
