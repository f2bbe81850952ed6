-- Demands 1 and 2 of calls by C, from those of the calls that they are.
use mathlib.Core.Path.{◌≡◌, refl, sym, ap, ap₂, subst, ◌∙◌}
use mathlib.Core.List.{List, [], ◌∷◌, ◌++◌}
use mathlib.Core.Bool.{Bool, true, false, ◌&&◌, and-false}
use Prim.Native.Nat.{ℕ, ◌+◌, ◌<◌}
use native.Mathlib.Omega.{arith}
use Rattle.refusal.specs.declared.Numbers.{Numbers}
use Rattle.refusal.specs.declared.Refusal.TheVariants.{StateContradicts}
use Rattle.refusal.specs.Refusals.{numbers_of, contradiction}
use Rattle.refusal.proofs.Booleans.{by_test}
use Rattle.banner.specs.declared.Features.{Features}
use Rattle.std.specs.Prelude.{Ok}
use Rattle.refusal.specs.Writes as writes
use Rattle.banner.specs.declared.Revision.{Revision}
use Rattle.builder.specs.Build.{frame_done, banner_done}
use Rattle.stream.specs.declared.Event.TheVariants as event
use Rattle.receiver.specs.declared.State as crc-state
use Rattle.receiver.specs.Report.{Report}
use Rattle.std.specs.Prelude.{Some}
use Rattle.receiver.specs.Step.{started}
use Rattle.receiver.specs.Every as receiver
use Rattle.connection.specs.declared.Mode.{Mode}
use Rattle.connection.specs.declared.Mode.TheVariants as mode
use Rattle.connection.specs.declared.State.{State}
use Rattle.connection.specs.declared.Received.{Received}
use Rattle.connection.specs.Step.{begun, ready_rule, agrees, Answer, answer, Answered}
use Rattle.connection.specs.Every as connection
use Rattle.connection.specs.Every.{Sound}
use Rattle.connection.proofs.Every.{rule_of}
use Rattle.ends.specs.Handed.{HandedOver}
use Rattle.ends.specs.Trip.{Build, Accepts, bytes_of, RoundTrip}
use Rattle.ends.specs.Ends.{Queued, Link, Linked, sent_by, TwoEnds}
use Rattle.abi.specs.declared.Written.{Written}
use Rattle.abi.specs.Words.{within, revision_by_number, abi_refused, AbiDone, abi_done, header_at, header_limits, in_abi, abi_result}
use Rattle.abi.proofs.Headers.{header-fits}
use Rattle.abi_receiver.specs.Words.{report_words}
use Rattle.abi_receiver.proofs.Back.{refused-back}
use Rattle.abi_connection.specs.Words.{AbiConnection, connection_of, fits, AbiOf, following, next, AbiReceived, handed, kind_in, AbiAnswer, abi_answer_of, contradicts, ReceivedBy}
use Rattle.abi_connection.proofs.Calls.{answer_by, answered_by_lem}
use Rattle.abi_builder.specs.Words.{abi_frame}
use Rattle.mahuixen.specs.Calls.{AbiPiece, AbiChained}
use Rattle.mahuixen.specs.Demands.{InnerCall, AbiRefuses, AbiDemand1, pieces, AbiAccepts, AbiQueued, AbiLinked, AbiDemand2}
use Rattle.mahuixen.proofs.Crc.{CrcPieces, crc-pieces, CrcCalls, crc-calls}

-- ---- demand 1

-- a start is on a crc link, and no frame was reported
started-crc : (own : Features) → ((begun own).mode ≡ mode.Crc) × ((ready_rule (begun own) ≡ true) × ((begun own).crc ≡ started own))
unfolding begun
started-crc own = (refl, (refl, refl))

as_one : {r : Received} {st : State} {n : ℕ} {e : Report} → r.state ≡ st → r.taken ≡ n → r.report ≡ e → r ≡ record { state = st; taken = n; report = e }
as_one p q u = rw (← p, ← q, ← u)

-- the words of a state that follow from others follow from themselves
next-again : (p : AbiConnection) (st : State) → next (next p st) st ≡ next p st
next-again p st = go st.mode
  where
    go : (m : Mode) → following m (following m p st) st ≡ following m p st
    go mode.Crc = refl
    go mode.Secure = refl

module _ (every : connection.EveryCall) where
  sound_of : (st : State) (s piece : List ℕ) (r : Received) (s' : List ℕ) → Answered st s piece r s' → Sound st s piece r s'
  unfolding connection.EveryCall
  sound_of st s piece r s' h = every.1 st s piece r s' h

  module _ (p : AbiConnection) (s piece : List ℕ) (n : ℕ) (r : AbiReceived) (s' : List ℕ) (h : ReceivedBy p s piece n r s') where
    abbrev a : Answer
    a = answer (connection_of p) s piece

    away : (fits p && ready_rule (connection_of p)) ≡ false → AbiRefuses p contradiction s n r s'
    away e =
        let x = answer_by p s piece false e in
        let u : r ≡ contradicts p = h.answered.received ∙ ap (λ (y : AbiAnswer). y.received) x in
        record {
          number = h.kind ∙ ap kind_in u;
          state = ap (λ (y : AbiReceived). y.state) u;
          report = ap (λ (y : AbiReceived). y.report) u;
          store = h.answered.store ∙ ap (λ (y : AbiAnswer). y.store) x;
        }

    module _ (k : fits p ≡ true) (q : ready_rule (connection_of p) ≡ true) where
      received_is : r ≡ (abi_answer_of p a).received
      received_is = h.answered.received ∙ ap (λ (y : AbiAnswer). y.received) (answered_by_lem p s piece (connection_of p) refl k q)

      store_is : s' ≡ a.store
      store_is = h.answered.store ∙ ap (λ (y : AbiAnswer). y.store) (answered_by_lem p s piece (connection_of p) refl k q)

      inner : InnerCall p s piece n r s'
      inner =
          let d : Answered (connection_of p) s piece a.received s' = record { received = refl; store = store_is } in
          record { received = a.received; number = h.kind; abi = received_is; answered = d; sound = sound_of (connection_of p) s piece a.received s' d }

  stays : (p : AbiConnection) (s piece : List ℕ) (i : ℕ) (r : AbiReceived) (s' : List ℕ) → ReceivedBy p s piece i r s'
      → (n : Numbers) → fits p ≡ true → agrees (connection_of p) ≡ true → (t : ℕ) → r.report ≡ report_words t (Some (event.Refused n))
      → (s₂ piece₂ : List ℕ) (i₂ : ℕ) (r₂ : AbiReceived) (s₃ : List ℕ) → ReceivedBy r.state s₂ piece₂ i₂ r₂ s₃ → AbiRefuses r.state n s₂ i₂ r₂ s₃
  stays p s piece i r s' h n k g t e s₂ piece₂ i₂ r₂ s₃ h₂ =
      let first : r ≡ (abi_answer_of p (answer (connection_of p) s piece)).received = received_is p s piece i r s' h k (rule_of (connection_of p) g) in
      let x : Received = (answer (connection_of p) s piece).received in
      let v = sound_of (connection_of p) s piece x (answer (connection_of p) s piece).store (record { received = refl; store = refl }) in
      let reported : x.report ≡ Some (event.Refused n) = refused-back x.taken t x.report n (sym (ap (λ (y : AbiReceived). y.report) first) ∙ e) in
      let b = h.answered.back k in
      let q : ready_rule (connection_of r.state) ≡ true = ap ready_rule b.state ∙ rule_of x.state (v.agreeing g) in
      let z : Answer = answer x.state s₂ piece₂ in
      let y = v.stays n g reported s₂ piece₂ z.received z.store (record { received = refl; store = refl }) in
      let again : r₂ ≡ handed (next r.state x.state) (report_words 0 (Some (event.Refused n))) =
      received_is r.state s₂ piece₂ i₂ r₂ s₃ h₂ b.fit q
      ∙ ap (λ (c : State). (abi_answer_of r.state (answer c s₂ piece₂)).received) b.state
      ∙ ap (λ (c : Received). handed (next r.state c.state) (report_words c.taken c.report)) (as_one y.state y.taken y.report) in
      let words : r.state ≡ next p x.state = ap (λ (c : AbiReceived). c.state) first in
      record {
        number = h₂.kind ∙ ap kind_in again;
        state = ap (λ (c : AbiReceived). c.state) again ∙ ap (λ (c : AbiConnection). next c x.state) words ∙ next-again p x.state ∙ sym words;
        report = ap (λ (c : AbiReceived). c.report) again;
        store = store_is r.state s₂ piece₂ i₂ r₂ s₃ h₂ b.fit q ∙ ap (λ (c : State). (answer c s₂ piece₂).store) b.state ∙ y.store;
      }

pub demand1_in_c : receiver.EveryCall → connection.EveryCall → AbiDemand1
unfolding receiver.EveryCall
demand1_in_c every calls = record {
  sound = λ p s piece n r s' h. record {
    beyond = λ e. away calls p s piece n r s' h (rw e);
    unready = λ e. away calls p s piece n r s' h (rw e (and-false (fits p)));
    inner = inner calls p s piece n r s' h;
    stays = stays calls p s piece n r s' h;
  };
  adds = λ own n p b ps h.
      (let z = started-crc own in
      let x = subst (λ (y : crc-state.State). CrcCalls y ps) z.1.1 (crc-calls (begun own) p ps b.state z.0 z.1.0 h) in
      record { calls = x.calls; abi = x.abi; handed = x.handed; adds = every.2 own x.calls x.handed });
}

-- ---- demand 2

-- a build that wrote something was not refused
accepted-is : (d : writes.Done) (b : Written) (l : List ℕ) → abi_done b l ≡ in_abi d → 0 < b.written → (w : ℕ) → b.written ≡ w → writes.done (writes.outcome_of (Ok w)) l ≡ d
accepted-is d b l e z w v = go d.outcome refl
  where
    go : (x : writes.WriteOutcome) → d.outcome ≡ x → writes.done (writes.outcome_of (Ok w)) l ≡ d
    go (writes.wrote n) q =
        let p : abi_done b l ≡ abi_done (abi_result (writes.wrote n)) d.buffer = e ∙ ap (λ (x : writes.WriteOutcome). abi_done (abi_result x) d.buffer) q in
        let m : b.written ≡ n = ap (λ (x : AbiDone). x.answer.written) p in
        let k : l ≡ d.buffer = ap (λ (x : AbiDone). x.buffer) p in
        ap₂ writes.done (ap writes.wrote (sym v ∙ m) ∙ sym q) k
    go (writes.refused_for n) q =
        let p : abi_done b l ≡ abi_done (abi_result (writes.refused_for n)) d.buffer = e ∙ ap (λ (x : writes.WriteOutcome). abi_done (abi_result x) d.buffer) q in
        let m : b.written ≡ 0 = ap (λ (x : AbiDone). x.answer.written) p in
        absurd (omega arith)

-- nor were the words of its header
within-fields : (revision : ℕ) (ws : List ℕ) (abort : Bool) (source buf : List ℕ) (queued : ℕ) (b : Written) (l : List ℕ)
    → abi_done b l ≡ abi_frame revision ws abort source buf queued → 0 < b.written
    → abi_done b l ≡ in_abi (frame_done (revision_by_number revision) (header_at 0 ws) abort source buf queued)
unfolding abi_frame
within-fields revision ws abort source buf queued b l e z =
    by_test (within header_limits 0 ws) (λ k. e ∙ rw k)
    (λ k.
    let p : abi_done b l ≡ abi_done (abi_refused (numbers_of StateContradicts)) buf = e ∙ rw k in
    let m : b.written ≡ 0 = ap (λ (x : AbiDone). x.answer.written) p in
    absurd (omega arith))

accepts : (revision : ℕ) (buf : List ℕ) (queued : ℕ) (b : Build) → AbiAccepts revision buf queued b → Accepts (revision_by_number revision) buf queued b
accepts revision buf queued b a =
    let e = within-fields revision a.words b.abort b.source buf queued a.built b.buffer a.promised.promise a.accepted in
    record {
      promised = record { promise = accepted-is (frame_done (revision_by_number revision) b.header b.abort b.source buf queued) a.built b.buffer (rw a.header e) a.accepted b.written a.written };
      header = rw a.header (header-fits 0 a.words);
      source = a.source;
    }

queued_in : (revision : ℕ) (buf : List ℕ) (queued : ℕ) (bs : List Build) → AbiQueued revision buf queued bs → Queued (revision_by_number revision) buf queued bs
queued_in revision buf queued [] q = tt
queued_in revision buf queued (b ∷ bs) q = (accepts revision buf queued b q.0, queued_in revision b.buffer (queued + b.written) bs q.1)

pub linked : (revision : ℕ) (l : Link) → AbiLinked revision l → Linked (revision_by_number revision) l
linked revision l a = record {
  banner = record { promise = accepted-is (banner_done l.features.supported l.features.required l.space l.queued) a.banner l.buffer a.promised.promise a.accepted l.written a.written };
  builds = queued_in revision l.buffer (l.queued + l.written) l.builds a.builds;
}

pieces_of : (stream : List ℕ) (own : Features) (p : AbiConnection) (store : List ℕ) (ps : List AbiPiece) → AbiOf (begun own) p → AbiChained stream p store 0 (pieces ps)
    → CrcPieces stream (started own) store 0 ps
pieces_of stream own p store ps w h =
    let z = started-crc own in
    subst (λ (y : crc-state.State). CrcPieces stream y store 0 ps) z.1.1 (crc-pieces stream (begun own) p store 0 ps w z.0 z.1.0 h)

pub demand2_in_c : HandedOver → RoundTrip → TwoEnds → AbiDemand2
unfolding HandedOver RoundTrip TwoEnds
demand2_in_c handed trip two = record {
  handed = λ own n p q front X store revision up ps h.
      (let x = pieces_of (front ++ X) own p store ps q.state h in
      record { calls = x.calls; abi = x.abi; chained = x.chained; holds = (handed own front X store (revision_by_number revision) up).reports x.calls x.chained });
  trip = λ own n p q front store revision up buf queued b a room behind ps h.
      (let x = pieces_of (front ++ bytes_of queued b ++ behind) own p store ps q.state h in
      record {
        calls = x.calls;
        abi = x.abi;
        chained = x.chained;
        holds = trip own front store (revision_by_number revision) up buf queued b (accepts revision buf queued b a) room behind x.calls x.chained;
      });
  ends = λ own n p q store revision l e a o f room behind ps h.
      (let x = pieces_of (sent_by l ++ behind) own p store ps q.state h in
      record {
        calls = x.calls;
        abi = x.abi;
        chained = x.chained;
        holds = two own store l (subst (λ (r : Revision). Linked r l) e (linked revision l a)) o f room behind x.calls x.chained;
      });
}
