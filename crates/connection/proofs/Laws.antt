-- What the calls return, one law a return, over plain values.
use mathlib.Core.List.{List, [], ◌∷◌}
use mathlib.Core.Path.{◌≡◌, refl, sym, ap, ◌∙◌}
use mathlib.Core.Bool.{Bool, true, false, cond, ◌&&◌}
use Prim.Native.Nat.{ℕ}
use Rattle.refusal.specs.declared.Numbers.{Numbers}
use Rattle.refusal.specs.declared.Refusal.TheVariants as refusal
use Rattle.refusal.specs.Refusals.{contradiction, or_else, unless}
use Rattle.refusal.proofs.Judgements.{or_else_last}
use types.Run.{OneOf, miss}
use denote.Enum.Declared.{tag_of}
use Rattle.stream.specs.contracts.Event as declared-event
use Rattle.stream.specs.declared.Event.{Event}
use Rattle.stream.specs.declared.Event.TheVariants as event
use Rattle.stream.specs.Events.{ends_frame}
use Rattle.stream.proofs.Events.{by_kind, others}
use Rattle.std.specs.Prelude.{Some, None}
use Rattle.receiver.specs.declared.Received as crc-received
use Rattle.receiver.specs.Step as crc
use Rattle.sealed_receiver.specs.declared.Received as sealed-received
use Rattle.sealed_receiver.specs.Step as sealed
use Rattle.connection.specs.declared.State.{State}
use Rattle.connection.specs.declared.Received.{Received}
use Rattle.connection.specs.Step.{is_secure, ready_after, ready_rule, agrees_in_use, agrees, may_be_switched, judge_switch, Answer, answered, by_crc, by_secure, by_mode, answer, Gave, Answered}

-- an event that is neither a frame (2) nor a drop (3)
pub not_frame-end : (e : Event) → OneOf (others (2 ∷ 3 ∷ [])) (tag_of declared-event.the_type e) → false ≡ ends_frame e
not_frame-end =
    by_kind (λ w. OneOf (others (2 ∷ 3 ∷ [])) (tag_of declared-event.the_type w) → false ≡ ends_frame w) (λ h k. absurd (miss (others (2 ∷ 3 ∷ [])) 2 tt k)) (λ h k. absurd (miss (others (2 ∷ 3 ∷ [])) 3 tt k))
    (λ n k. refl) (λ w o k. rw o.within)

pub crc-gave : (st : State) (a : crc.Answer) (r : crc-received.Received) (ready : Bool) → r ≡ a.received → ready ≡ ready_after st.ready r.taken r.report
    → record { state = record { mode = st.mode; ready = ready; crc = r.state; sealed = st.sealed }; taken = r.taken; report = r.report } ≡ (by_crc st a).received
crc-gave st a r ready e q =
    ap (λ (b : Bool). record { state = record { mode = st.mode; ready = b; crc = r.state; sealed = st.sealed }; taken = r.taken; report = r.report }) q
    ∙ ap (λ (x : crc-received.Received). record { state = record { mode = st.mode; ready = ready_after st.ready x.taken x.report; crc = x.state; sealed = st.sealed }; taken = x.taken; report = x.report }) e

pub secure_gave : (st : State) (a : sealed.Answer) (r : sealed-received.Received) → r ≡ a.received
    → record { state = record { mode = st.mode; ready = st.ready; crc = st.crc; sealed = r.state }; taken = r.taken; report = r.report } ≡ (by_secure st a).received
secure_gave st a r e =
    ap (λ (x : sealed-received.Received). record { state = record { mode = st.mode; ready = st.ready; crc = st.crc; sealed = x.state }; taken = x.taken; report = x.report }) e

module _ (st : State) (s piece : List ℕ) where
  abbrev pub contradicts : Answer
  contradicts = answered st 0 (Some (event.Refused contradiction)) s

  pub by_rule : (b : Bool) → ready_rule st ≡ b → answer st s piece ≡ cond b (by_mode st s piece) contradicts
  unfolding answer
  by_rule b e = ap (λ (x : Bool). cond x (by_mode st s piece) contradicts) e

  gave : (a : Answer) (r : Received) (s' : List ℕ) → answer st s piece ≡ a → Gave a r s' → Answered st s piece r s'
  gave a r s' e g = record { received = g.received ∙ sym (ap (λ (x : Answer). x.received) e); store = g.store ∙ sym (ap (λ (x : Answer). x.store) e) }

  pub contradicted : (n : Numbers) → ready_rule st ≡ false → n ≡ contradiction
      → Answered st s piece (record { state = st; taken = 0; report = Some (event.Refused n) }) s
  contradicted n e q = gave contradicts _ s (by_rule false e) (record { received = rw q; store = refl })

  pub mode-is : (b : Bool) → ready_rule st ≡ true → is_secure st.mode ≡ b
      → answer st s piece ≡ cond b (by_secure st (sealed.answer st.sealed s piece)) (by_crc st (crc.answer st.crc s piece))
  mode-is b e m = by_rule true e ∙ ap (λ (x : Bool). cond x (by_secure st (sealed.answer st.sealed s piece)) (by_crc st (crc.answer st.crc s piece))) m

  pub answered_by_lem : (b : Bool) {r : Received} {s' : List ℕ} → ready_rule st ≡ true → is_secure st.mode ≡ b
      → Gave (cond b (by_secure st (sealed.answer st.sealed s piece)) (by_crc st (crc.answer st.crc s piece))) r s' → Answered st s piece r s'
  answered_by_lem b e m g = gave _ _ _ (mode-is b e m) g

pub switch_judged : (st : State) → or_else (unless (ready_rule st && agrees_in_use st) refusal.StateContradicts) (unless (may_be_switched st) refusal.SwitchRefused) ≡ judge_switch st
unfolding judge_switch agrees
switch_judged st = ap (or_else (unless (ready_rule st && agrees_in_use st) refusal.StateContradicts)) (sym (or_else_last (unless (may_be_switched st) refusal.SwitchRefused)))
