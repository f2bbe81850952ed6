-- A list of calls by C is a list of calls of the connection.
use mathlib.Core.Path.{◌≡◌, ◌∙◌, refl, sym, ap, ap₂, subst}
use mathlib.Core.List.{List, [], ◌∷◌}
use mathlib.Core.Bool.{Bool, true, false, cond}
use Prim.Native.Nat.{ℕ, ◌+◌}
use Rattle.refusal.specs.declared.Refusal.TheVariants as refusal
use Rattle.refusal.specs.declared.Refusal.{Refusal}
use Rattle.std.specs.Prelude.{Result, Ok, Err}
use Rattle.refusal.specs.Refusals.{Judged, fine, refused, judged_by, contradiction}
use Rattle.stream.specs.declared.Event.TheVariants as event
use Rattle.receiver.specs.declared.State as crc-state
use Rattle.std.specs.Prelude.{Some}
use Rattle.receiver.specs.Calls.{piece_at}
use Rattle.sealed_receiver.specs.declared.State as secure-state
use Rattle.refusal.proofs.Booleans.{by_test}
use Rattle.connection.specs.declared.Mode.{Mode}
use Rattle.connection.specs.declared.Mode.TheVariants as mode
use Rattle.connection.specs.declared.State.{State}
use Rattle.connection.specs.declared.Switched.{Switched}
use Rattle.connection.specs.Step.{is_secure, begun, ready_rule, agrees, answer, may_be_switched, judge_switch, switched_state, switched_sending}
use Rattle.connection.specs.Calls as connection
use Rattle.connection.specs.Calls.{Call, Chained, SwitchedDemand3}
use Rattle.connection.proofs.Laws.{contradicted, mode-is}
use Rattle.abi_receiver.specs.Words.{number_of}
use Rattle.abi_receiver.specs.Words as crc
use Rattle.abi_connection.specs.Words.{AbiConnection, connection_of, abi_of, fits, StandsFor, AbiOf, next, AbiReceived, handed, kind_in, taken_in, AbiAnswer, AbiAnswered, AbiSwitched, switched_words, switched_by, abi_switch, AbiSwitchedWith}
use Rattle.abi_connection.proofs.Calls.{taken_word, answer_by, answered_by_lem, judged-within, all_three}
use Rattle.mahuixen.specs.Calls.{AbiPiece, AbiTry, AbiCall, taking, switching, AbiChained, abi_received, abi_switched, abi_calls, AbiDemand3}

-- ---- a call: on the words of a state it is the ABI form of a call of the connection, and hands on the words of the state that this one answers

crc-next : (st : State) (b : Bool) (y : crc-state.State) → st.mode ≡ mode.Crc
    → next (abi_of st) (record { mode = st.mode; ready = b; crc = y; sealed = st.sealed }) ≡ abi_of (record { mode = st.mode; ready = b; crc = y; sealed = st.sealed })
crc-next st b y m = rw m

secure_next : (st : State) (b : Bool) (y : secure-state.State) → st.mode ≡ mode.Secure
    → next (abi_of st) (record { mode = st.mode; ready = b; crc = st.crc; sealed = y }) ≡ abi_of (record { mode = st.mode; ready = b; crc = st.crc; sealed = y })
secure_next st b y m = rw m

next-words : (st : State) (s piece : List ℕ) → ready_rule st ≡ true → next (abi_of st) (answer st s piece).received.state ≡ abi_of (answer st s piece).received.state
next-words st s piece q = go st.mode refl
  where
    go : (m : Mode) → st.mode ≡ m → next (abi_of st) (answer st s piece).received.state ≡ abi_of (answer st s piece).received.state
    go mode.Crc m = rw (mode-is st s piece false q (ap is_secure m)) (crc-next st _ _ m)
    go mode.Secure m = rw (mode-is st s piece true q (ap is_secure m)) (secure_next st _ _ m)

pub record AbiForm (st : State) (s piece : List ℕ) (o : AbiReceived) (s' : List ℕ) : Type 0 where
  pub received : o ≡ abi_received (answer st s piece).received
  pub store : s' ≡ (answer st s piece).store
  pub next : AbiOf (answer st s piece).received.state o.state

module _ (st : State) (p : AbiConnection) (s piece : List ℕ) (o : AbiReceived) (s' : List ℕ) (w : AbiOf st p) (h : AbiAnswered p s piece o s') where
  abbrev k : connection_of p ≡ st
  k = w.stands.state

  answer-given : (o ≡ abi_received (answer st s piece).received) × (s' ≡ (answer st s piece).store)
  answer-given =
      by_test (ready_rule st)
      (λ q.
      let e = answered_by_lem p s piece st k w.stands.fit q in
      let f : next p (answer st s piece).received.state ≡ abi_of (answer st s piece).received.state =
      ap (λ (x : AbiConnection). next x (answer st s piece).received.state) w.words ∙ next-words st s piece q in (
        h.received ∙ ap (λ (x : AbiAnswer). x.received) e ∙ ap (λ (x : AbiConnection). handed x (crc.report_words (answer st s piece).received.taken (answer st s piece).received.report)) f,
        h.store ∙ ap (λ (x : AbiAnswer). x.store) e,
      ))
      (λ q.
      let e = answer_by p s piece false (rw (w.stands.fit, k, q)) in
      let a = contradicted st s piece contradiction q refl in (
        h.received ∙ ap (λ (x : AbiAnswer). x.received) e ∙ ap (λ (x : AbiConnection). handed x (crc.report_words 0 (Some (event.Refused contradiction)))) w.words ∙ ap abi_received a.received,
        h.store ∙ ap (λ (x : AbiAnswer). x.store) e ∙ a.store,
      ))

  pub abi_form : AbiForm st s piece o s'
  abi_form =
      record {
        received = answer-given.0;
        store = answer-given.1;
        next = record {
          words = ap (λ (x : AbiReceived). x.state) answer-given.0;
          stands = subst (λ (x : State). StandsFor (answer x s piece).received.state o.state) k (h.back w.stands.fit);
        };
      }

-- ---- and a try to switch

-- what a try to switch is judged, as the code has it
abbrev pub judgement_of : State → Result (Unit {0}) Refusal
judgement_of st = cond (agrees st) (cond (may_be_switched st) (Ok tt) (Err refusal.SwitchRefused)) (Err refusal.StateContradicts)

pub judged : (st : State) → judged_by (judgement_of st) ≡ judge_switch st
unfolding judge_switch
judged st = by_test (agrees st) (λ a. by_test (may_be_switched st) (λ b. rw (a, b)) (λ b. rw (a, b))) (λ a. rw a)

module _ (st : State) (key receiving sending : List ℕ) where
  abbrev pub answered : Switched
  answered = record { state = switched_state (judge_switch st) st key receiving; sending = switched_sending (judge_switch st) key sending; judgement = judgement_of st }

  switched-words : (p : AbiConnection) (j : Judged) → AbiOf st p → switched_words j p key receiving ≡ abi_of (switched_state j st key receiving)
  switched-words p fine w = ap (λ (x : AbiConnection). next x (switched_state fine st key receiving)) w.words
  switched-words p (refused n) w = w.words

  by_judgement_lem : (p : AbiConnection) → fits p ≡ true → connection_of p ≡ st → abi_switch p key receiving sending ≡ switched_by (judge_switch st) p key receiving sending
  unfolding abi_switch
  by_judgement_lem p f e = ap (λ (j : Judged). switched_by j p key receiving sending) (judged-within p key receiving sending f ∙ ap judge_switch e)

  pub record SwitchForm (o : AbiSwitched) : Type 0 where
    pub switched : o ≡ abi_switched answered
    pub next : AbiOf answered.state o.state

  pub switch_form : (p : AbiConnection) (o : AbiSwitched) → AbiOf st p → AbiSwitchedWith p key receiving sending o → SwitchForm o
  switch_form p o w h =
      let k = w.stands.state in
      let e : o ≡ abi_switched answered =
      h.promise ∙ by_judgement_lem p w.stands.fit k ∙ all_three (ap number_of (sym (judged st))) (switched-words p (judge_switch st) w) refl in
      record {
        switched = e;
        next = record {
          words = ap (λ (x : AbiSwitched). x.state) e;
          stands = subst (λ (x : State). StandsFor (switched_state (judge_switch x) x key receiving) o.state) k (h.back w.stands.fit);
        };
      }

-- ---- lists

-- the calls of which these are the ABI forms
pub record AsCalls (stream : List ℕ) (st : State) (s : List ℕ) (t : ℕ) (ps : List AbiCall) : Type 0 where
  pub calls : List Call
  pub abi : ps ≡ abi_calls calls
  pub chained : Chained stream st s t calls

same-piece : {c : AbiPiece} {r : AbiReceived} {s : List ℕ} → c.number ≡ kind_in c.received → c.received ≡ r → c.store ≡ s
    → c ≡ record { size = c.size; number = kind_in r; received = r; store = s }
same-piece k e f = rw (← e, ← f, ← k)

same_try : {c : AbiTry} {r : AbiSwitched} → c.switched ≡ r → c ≡ record { key = c.key; receiving = c.receiving; sending = c.sending; switched = r }
same_try e = rw (← e)

pub as_calls : (stream : List ℕ) (st : State) (p : AbiConnection) (s : List ℕ) (t : ℕ) (ps : List AbiCall) → AbiOf st p → AbiChained stream p s t ps → AsCalls stream st s t ps
as_calls stream st p s t [] w h = record { calls = []; abi = refl; chained = tt }
as_calls stream st p s t (taking c ∷ ps) w h =
    let a = answer st s (piece_at stream t c.size) in
    let o = abi_form st p s (piece_at stream t c.size) c.received c.store w h.0.answered in
    let n : taken_in c.received ≡ a.received.taken = ap taken_in o.received ∙ taken_word a.received.taken a.received.report in
    let on = as_calls stream a.received.state c.received.state a.store (t + a.received.taken) ps o.next (rw (n, o.store) at h.1) in
    record {
      calls = connection.taking (record { size = c.size; received = a.received; store = a.store }) ∷ on.calls;
      abi = ap₂ ◌∷◌ (ap taking (same-piece h.0.kind o.received o.store)) on.abi;
      chained = (record { received = refl; store = refl }, on.chained);
    }
as_calls stream st p s t (switching c ∷ ps) w h =
    let r = answered st c.key c.receiving c.sending in
    let o = switch_form st c.key c.receiving c.sending p c.switched w h.0 in
    let on = as_calls stream r.state c.switched.state s t ps o.next h.1 in
    record {
      calls = connection.switching (record { key = c.key; receiving = c.receiving; sending = c.sending; switched = r }) ∷ on.calls;
      abi = ap₂ ◌∷◌ (ap switching (same_try o.switched)) on.abi;
      chained = (record { judgement = judged st; state = refl; sends = refl }, on.chained);
    }

pub demand3_in_c : SwitchedDemand3 → AbiDemand3
unfolding SwitchedDemand3 AbiDemand3
demand3_in_c demand own n p b stream store ps h =
    let found = as_calls stream (begun own) p store 0 ps b.state h in
    record { calls = found.calls; abi = found.abi; chained = found.chained; defined = demand own stream store found.calls found.chained }
