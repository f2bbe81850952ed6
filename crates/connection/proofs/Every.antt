-- What holds of every single call and of every try to switch.
use Prim.Native.Nat.{ℕ, ◌<◌}
use mathlib.Core.List.{List, []}
use mathlib.Core.Path.{◌≡◌, refl, sym, ap, subst, ◌∙◌}
use mathlib.Core.Bool.{Bool, true, false, and-true}
use native.Mathlib.Omega.{arith}
use lib.ListN.{length}
use borrow.Author.Tests.{eqb-true}
use Rattle.refusal.specs.declared.Numbers.{Numbers}
use Rattle.refusal.specs.declared.Refusal.TheVariants as refusal
use Rattle.refusal.specs.Refusals.{Judged, fine, refused, numbers_of, contradiction}
use Rattle.refusal.proofs.Booleans.{by_test, by_less, wrong, both_left, both_right, second_false}
use Rattle.refusal.proofs.Judgements.{by_judgement_lem}
use Rattle.banner.specs.declared.Features.{Features}
use Rattle.stream.specs.declared.Event.TheVariants as event
use Rattle.std.specs.Prelude.{Some, None}
use Rattle.receiver.specs.declared.State as crc-state
use Rattle.receiver.specs.State.{rank}
use Rattle.receiver.specs.State as crc-states
use Rattle.receiver.specs.Step as crc
use Rattle.receiver.proofs.Machine.{Stands, runs, refuses, next-stands, refuses-next, feed-some, feed-none}
use Rattle.receiver.proofs.Machine as machine
use Rattle.receiver.proofs.Live as crc-live
use Rattle.receiver.proofs.Every as crc-every
use Rattle.sealed_receiver.specs.declared.State as sealed-state
use Rattle.sealed_receiver.specs.State as sealed-states
use Rattle.sealed_receiver.specs.Step as sealed
use Rattle.sealed_receiver.proofs.Live as sealed-live
use Rattle.sealed_receiver.proofs.Live.{switched-running}
use Rattle.sealed_receiver.proofs.Every as sealed-every
use Rattle.connection.specs.declared.Mode.{Mode}
use Rattle.connection.specs.declared.Mode.TheVariants as mode
use Rattle.connection.specs.declared.State.{State}
use Rattle.connection.specs.declared.Received.{Received}
use Rattle.connection.specs.declared.Switched.{Switched}
use Rattle.connection.specs.Step.{ready_rule, agrees_in_use, agrees, begun, Answer, answered, by_crc, by_secure, answer, Answered, may_be_switched, judge_switch, switched_state, SwitchedWith}
use Rattle.connection.specs.Calls.{Piece, SwitchedDemand3}
use Rattle.connection.specs.Every.{refused_in_use, needed_in_use, short_store, refused_connection, Running, Refuses, Sound, SoundSwitch}
use Rattle.connection.proofs.Machines.{crc_side, secure_side, CrcRunning, CrcRefusedFor, SecureRunning, SecureRefusedFor, crc-answer, secure_answer_lem, machine_answer, answer-given}
use Rattle.connection.proofs.SplitAtSwitch.{crc-agrees, secure_agrees, judged_27, unless-number, unready}
use Rattle.connection.proofs.Laws.{by_rule}
use Rattle.connection.proofs.Chain.{switched-demand3}

-- ---- the part in use, by the mode

abbrev pub state_of : Mode → Bool → crc-state.State → sealed-state.State → State
state_of k ready c x = record { mode = k; ready = ready; crc = c; sealed = x }

pub rule_of : (st : State) → agrees st ≡ true → ready_rule st ≡ true
unfolding agrees
rule_of st e = both_left (ready_rule st) (agrees_in_use st) e

pub in-use-of : (st : State) → agrees st ≡ true → agrees_in_use st ≡ true
unfolding agrees
in-use-of st e = both_right (ready_rule st) (agrees_in_use st) e

-- sealed frames are read by one that is not ready
pub secure_unready : (ready : Bool) (c : crc-state.State) (x : sealed-state.State) → ready_rule (state_of mode.Secure ready c x) ≡ true → ready ≡ false
secure_unready ready c x e = unready (state_of mode.Secure ready c x) e (λ z. wrong (sym z.crc))

-- before a preamble no store is needed, and so one that needs it is not ready
crc-unready : (ready : Bool) (c : crc-state.State) (x : sealed-state.State) (n : ℕ) → ready_rule (state_of mode.Crc ready c x) ≡ true → n < crc.needed_by c → ready ≡ false
crc-unready ready c x n e l = unready (state_of mode.Crc ready c x) e (λ z. let q : crc.needed_by c ≡ 0 = rw z.stage in omega (arith, l, q))

refused-unready : (k : Mode) (ready : Bool) (c : crc-state.State) (x : sealed-state.State)
    → (let st = state_of k ready c x in ready_rule st ≡ true → refused_in_use st ≡ true → ready ≡ false)
refused-unready mode.Crc ready c x e l = unready (state_of mode.Crc ready c x) e (λ z. omega (arith, z.stage, eqb-true (rank c.position.stage) 9 l))
refused-unready mode.Secure ready c x e l = secure_unready ready c x e

pub data RefusedFor (n : Numbers) (st : State) : Type 0 where
  refused_crc : CrcRefusedFor n st → RefusedFor n st
  refused_secure : SecureRefusedFor n st → RefusedFor n st

module _ (s piece : List ℕ) where
  -- ---- a store that became too short

  abbrev refusing : State → Numbers → Answer
  refusing st n = answered st 0 (Some (event.Refused n)) s

  short_by : (k : Mode) (ready : Bool) (c : crc-state.State) (x : sealed-state.State) → (let st = state_of k ready c x in
      agrees st ≡ true → refused_in_use st ≡ false → length s < needed_in_use st → answer st s piece ≡ refusing (refused_connection st (short_store st)) (short_store st))
  short_by mode.Crc ready c x e l t =
      let st = state_of mode.Crc ready c x in
      crc-answer st s piece refl (rule_of st e)
      ∙ ap (by_crc st) (crc-every.shortened c s piece (in-use-of st e) l t)
      ∙ ap (λ (b : Bool). refusing (state_of mode.Crc b (crc.refused_state c.known (crc.short_store c)) x) (crc.short_store c)) (and-true ready)
  short_by mode.Secure ready c x e l t =
      let st = state_of mode.Secure ready c x in
      secure_answer_lem st s piece refl (secure_unready ready c x (rule_of st e)) ∙ ap (by_secure st) (sealed-every.shortened x s piece (in-use-of st e) l t)

  short-refused : (k : Mode) (ready : Bool) (c : crc-state.State) (x : sealed-state.State) → (let st = state_of k ready c x in
      agrees st ≡ true → refused_in_use st ≡ false → length s < needed_in_use st → RefusedFor (short_store st) (refused_connection st (short_store st)))
  short-refused mode.Crc ready c x e l t =
      let st = state_of mode.Crc ready c x in
      let u = crc-unready ready c x (length s) (rule_of st e) t in
      refused_crc (record { mode = refl; rule = rw u; has_refused = crc-live.agree-own c (in-use-of st e) l (crc.short_store c) refl })
  short-refused mode.Secure ready c x e l t =
      let st = state_of mode.Secure ready c x in
      refused_secure (record { mode = refl; rule = secure_unready ready c x (rule_of st e); has_refused = sealed-live.refused-at (sealed.short_store x) refl })

  -- ---- 26

  crc-contradicting : (c : crc-state.State) → crc-states.agrees c ≡ false → crc.answer c s piece ≡ crc.refuse_unchanged c contradiction s
  unfolding crc.answer
  crc-contradicting c e = rw e

  in-use-not : (st : State) → agrees st ≡ false → ready_rule st ≡ true → agrees_in_use st ≡ false
  unfolding agrees
  in-use-not st e q = second_false (ready_rule st) (agrees_in_use st) e q

  contradicting_by : (k : Mode) (ready : Bool) (c : crc-state.State) (x : sealed-state.State) → (let st = state_of k ready c x in
      agrees st ≡ false → ready_rule st ≡ true → answer st s piece ≡ refusing st contradiction)
  contradicting_by mode.Crc ready c x e q =
      let st = state_of mode.Crc ready c x in
      crc-answer st s piece refl q
      ∙ ap (by_crc st) (crc-contradicting c (in-use-not st e q))
      ∙ ap (λ (b : Bool). refusing (state_of mode.Crc b c x) contradiction) (and-true ready)
  contradicting_by mode.Secure ready c x e q =
      let st = state_of mode.Secure ready c x in
      secure_answer_lem st s piece refl (secure_unready ready c x q) ∙ ap (by_secure st) (sealed-every.contradicting x s piece (in-use-not st e q))

  contradicting : (st : State) → agrees st ≡ false → answer st s piece ≡ refusing st contradiction
  contradicting st e = by_test (ready_rule st) (contradicting_by st.mode st.ready st.crc st.sealed e) (by_rule st s piece false)

-- ---- what a state that agrees comes to

data Placed (st : State) (s : List ℕ) : Type 0 where
  on_crc : Stands crc_side st s → Placed st s
  on_secure : Stands secure_side st s → Placed st s
  too_short : refused_in_use st ≡ false → length s < needed_in_use st → Placed st s

data Runs (st : State) (s : List ℕ) : Type 0 where
  runs_crc : CrcRunning st s → Runs st s
  runs_secure : SecureRunning st s → Runs st s

running_by : (k : Mode) (ready : Bool) (c : crc-state.State) (x : sealed-state.State) (s : List ℕ) → Running (state_of k ready c x) s → Runs (state_of k ready c x) s
running_by mode.Crc ready c x s r =
    let st = state_of mode.Crc ready c x in
    runs_crc (record { mode = refl; rule = rule_of st r.agree; live = record { agree = in-use-of st r.agree; live = r.live; fits = r.fits } })
running_by mode.Secure ready c x s r =
    let st = state_of mode.Secure ready c x in
    runs_secure (record { mode = refl; rule = secure_unready ready c x (rule_of st r.agree); live = record { agree = in-use-of st r.agree; live = r.live; fits = r.fits } })

running-runs : (st : State) (s : List ℕ) → Running st s → Runs st s
running-runs st s r = running_by st.mode st.ready st.crc st.sealed s r

pub refused_of : (k : Mode) (ready : Bool) (c : crc-state.State) (x : sealed-state.State)
    → (let st = state_of k ready c x in agrees st ≡ true → refused_in_use st ≡ true → (n : Numbers) × RefusedFor n st)
refused_of mode.Crc ready c x e l =
    let st = state_of mode.Crc ready c x in
    (c.known.refusal, refused_crc (record { mode = refl; rule = rule_of st e; has_refused = crc-live.refused_for_lem c (in-use-of st e) l }))
refused_of mode.Secure ready c x e l =
    let st = state_of mode.Secure ready c x in
    (x.known.refusal, refused_secure (record { mode = refl; rule = secure_unready ready c x (rule_of st e); has_refused = sealed-every.refused_for_lem x (in-use-of st e) l }))

refused-placed : (n : Numbers) (st : State) (s : List ℕ) → RefusedFor n st → Placed st s
refused-placed n st s (refused_crc g) = on_crc (refuses n g)
refused-placed n st s (refused_secure g) = on_secure (refuses n g)

placed : (st : State) (s : List ℕ) → agrees st ≡ true → Placed st s
placed st s e =
    by_test (refused_in_use st) (λ l. let g = refused_of st.mode st.ready st.crc st.sealed e l in refused-placed g.0 st s g.1)
    (λ l. by_less (length s) (needed_in_use st) (too_short l) (λ f. live (running-runs st s (record { agree = e; live = l; fits = f }))))
  where
    live : Runs st s → Placed st s
    live (runs_crc r) = on_crc (runs r)
    live (runs_secure r) = on_secure (runs r)

-- ---- a refused stream

refused-agrees : {n : Numbers} {st : State} → RefusedFor n st → agrees st ≡ true
refused-agrees {n} {st} (refused_crc g) = crc-agrees {st = st} {s = []} (refuses n g)
refused-agrees {n} {st} (refused_secure g) = secure_agrees {st = st} {s = []} (refuses n g)

refused_not26 : {st : State} → RefusedFor contradiction st → ⊥
refused_not26 (refused_crc g) = (let e : crc-states.given contradiction ≡ true = g.has_refused.gives in wrong e)
refused_not26 (refused_secure g) = (let e : sealed-states.given contradiction ≡ true = g.has_refused.gives in wrong e)

repeated : {st : State} {s : List ℕ} {r : Received} {s' : List ℕ} (n : Numbers)
    → record { state = r.state; taken = r.taken; report = r.report; store = s' } ≡ machine.refused_again n st s → Refuses st n s r s'
repeated n e = record {
  state = ap (λ (y : machine.Answer State). y.state) e;
  taken = ap (λ (y : machine.Answer State). y.taken) e;
  report = ap (λ (y : machine.Answer State). y.report) e;
  store = ap (λ (y : machine.Answer State). y.store) e;
}

pub lasts : {n : Numbers} {st : State} → RefusedFor n st → (s piece : List ℕ) (r : Received) (s' : List ℕ) → Answered st s piece r s' → Refuses st n s r s'
lasts {n} {st} (refused_crc g) s piece r s' a = repeated n (crc_side.repeats n st s piece (record { size = 0; received = r; store = s' }) g a)
lasts {n} {st} (refused_secure g) s piece r s' a = repeated n (secure_side.repeats n st s piece (record { size = 0; received = r; store = s' }) g a)

-- ---- every call

module _ (st : State) (s piece : List ℕ) (r : Received) (s' : List ℕ) (a : Answered st s piece r s') where
  abbrev call : Piece
  call = record { size = 0; received = r; store = s' }

  refusing_so : (st' : State) (n : Numbers) → answer st s piece ≡ answered st' 0 (Some (event.Refused n)) s → Refuses st' n s r s'
  refusing_so st' n e = repeated n (ap machine_answer (answer-given call a ∙ e))

  pub short_so : agrees st ≡ true → refused_in_use st ≡ false → length s < needed_in_use st → Refuses (refused_connection st (short_store st)) (short_store st) s r s'
  short_so e l t = refusing_so (refused_connection st (short_store st)) (short_store st) (short_by s piece st.mode st.ready st.crc st.sealed e l t)

  -- it hands back a state that agrees, and behind a refusal one that is refused
  pub record Well : Type 0 where
    pub agree : agrees r.state ≡ true
    pub has_refused : (n : Numbers) → r.report ≡ Some (event.Refused n) → RefusedFor n r.state

  pub well : agrees st ≡ true → Well
  well e = go (placed st s e)
    where
      go : Placed st s → Well
      go (on_crc h) = record {
        agree = crc-agrees {st = r.state} {s = s'} (next-stands crc_side st s piece call h a);
        has_refused = λ n q. refused_crc (refuses-next crc_side st s piece call h a n q);
      }
      go (on_secure h) = record {
        agree = secure_agrees {st = r.state} {s = s'} (next-stands secure_side st s piece call h a);
        has_refused = λ n q. refused_secure (refuses-next secure_side st s piece call h a n q);
      }
      go (too_short l t) =
          let z = short_so e l t in
          let g = short-refused s piece st.mode st.ready st.crc st.sealed e l t in
          record {
            agree = ap agrees z.state ∙ refused-agrees g;
            has_refused = λ n q.
                let w : Some (event.Refused (short_store st)) ≡ Some (event.Refused n) = sym z.report ∙ q in
                let i : short_store st ≡ n = cc in
                subst (λ (y : State). RefusedFor n y) (sym z.state) (subst (λ (j : Numbers). RefusedFor j (refused_connection st (short_store st))) i g);
          }

  -- what holds of any machine that is fed the piece
  by_feed : (P : machine.Answer State → Type 0) → ((step : State → List ℕ → ℕ → machine.Stepped State) → P (machine.feed step st s piece)) → Runs st s
      → P (record { state = r.state; taken = r.taken; report = r.report; store = s' })
  by_feed P f (runs_crc x) = subst P (sym (crc_side.feeds st s piece call x a)) (f crc_side.on_byte)
  by_feed P f (runs_secure x) = subst P (sym (secure_side.feeds st s piece call x a)) (f secure_side.on_byte)

  some : Running st s → 0 < length piece → 0 < r.taken
  some l h = by_feed (λ y. 0 < y.taken) (λ step. feed-some step st s piece h) (running-runs st s l)

  none : Running st s → length piece ≡ 0 → (r.taken ≡ 0) × (r.report ≡ None)
  none l h = by_feed (λ y. (y.taken ≡ 0) × (y.report ≡ None)) (λ step. feed-none step st s piece h) (running-runs st s l)

  pub sound : Sound st s piece r s'
  sound = record {
    contradicts = λ e. refusing_so st contradiction (contradicting s piece st e);
    never26 = λ e q. refused_not26 ((well e).has_refused contradiction q);
    agreeing = λ e. (well e).agree;
    stays = λ n e q s₂ piece₂ r₂ s₃ a₂. lasts ((well e).has_refused n q) s₂ piece₂ r₂ s₃ a₂;
    short = short_so;
    progress = some;
    nothing = none;
  }

-- ---- every try to switch

module _ (st : State) (key receiving sending : List ℕ) (r : Switched) (w : SwitchedWith st key receiving sending r) where
  judged_26 : agrees st ≡ false → judge_switch st ≡ refused contradiction
  unfolding judge_switch
  judged_26 e = rw e

  unchanged : (n : Numbers) → judge_switch st ≡ refused n → r.state ≡ st
  unchanged n e = w.state ∙ ap (λ (j : Judged). switched_state j st key receiving) e

  pub sound-switch : SoundSwitch st r
  sound-switch = record {
    contradicts = λ e. w.judgement ∙ judged_26 e;
    never26 = λ e q.
        let i : contradiction ≡ numbers_of refusal.SwitchRefused = unless-number (may_be_switched st) contradiction (sym (judged_27 st e) ∙ sym w.judgement ∙ q) in
        let z : ◌≡◌ {A = ℕ} 26 27 = ap (λ (n : Numbers). n.number) i in
        absurd (omega (arith, z));
    unchanged = λ n q. unchanged n (sym w.judgement ∙ q);
    agreeing = λ e. by_judgement_lem (judge_switch st)
        (λ q. ap agrees (w.state ∙ rw q) ∙ secure_agrees {st = switched_state fine st key receiving} {s = []} (runs (record { mode = refl; rule = refl; live = switched-running key receiving [] })))
        (λ n q. ap agrees (unchanged n q) ∙ e);
    stays = λ e l.
        let u = refused-unready st.mode st.ready st.crc st.sealed (rule_of st e) l in
        w.judgement ∙ judged_27 st e ∙ rw u;
  }

pub begun-agrees : (own : Features) → agrees (begun own) ≡ true
unfolding SwitchedDemand3
begun-agrees own = (switched-demand3 own [] [] [] tt).agreeing
