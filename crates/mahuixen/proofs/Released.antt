-- A list of connections by C is a list of connections of `delivery`.
use mathlib.Core.Path.{◌≡◌, ◌∙◌, refl, sym, ap, ap₂}
use mathlib.Core.List.{List, [], ◌∷◌}
use mathlib.Core.Bool.{Bool, cond, ◌&&◌}
use Prim.Native.Nat.{ℕ, ◌+◌}
use lib.Dec.{ltb, eqb}
use Rattle.refusal.specs.Refusals.{judged_by, is_fine, unless, contradiction}
use Rattle.refusal.specs.declared.Refusal.TheVariants as refusal
use Rattle.refusal.specs.declared.Refusal.{Refusal}
use Rattle.std.specs.Prelude.{Result, Ok, Err}
use Rattle.refusal.proofs.Booleans.{at_test}
use Rattle.banner.specs.declared.Features.{Features}
use Rattle.banner.specs.Bits.{missing}
use Rattle.banner.specs.Banner.{judge_own}
use Rattle.stream.specs.declared.Event.TheVariants as event
use Rattle.receiver.specs.Report.{Report}
use Rattle.std.specs.Prelude.{Some}
use Rattle.receiver.specs.Calls.{piece_at}
use Rattle.session.specs.declared.Session.{Session}
use Rattle.session.specs.Calls.{fresh_session}
use Rattle.session.specs.Laws as session
use Rattle.session.specs.Laws.{call_of}
use Rattle.connection.specs.declared.State.{State}
use Rattle.connection.specs.Step.{begun, answer}
use Rattle.delivery.specs.declared.Applied.{Applied}
use Rattle.delivery.specs.declared.Delivered.{Delivered}
use Rattle.delivery.specs.declared.Switched.{Switched}
use Rattle.delivery.specs.Requests as promises
use Rattle.delivery.specs.Requests.{request_by_report, done_to, session_called_by}
use Rattle.delivery.specs.Calls as delivery
use Rattle.delivery.specs.Calls.{Connection, Chained, Connects, session_after, EveryRelease}
use Rattle.abi_receiver.specs.Words.{number_of}
use Rattle.abi_connection.specs.Words.{AbiConnection, connection_of, AbiOf, taken_in, report_by}
use Rattle.abi_connection.proofs.Calls.{taken_word}
use Rattle.abi_session.specs.Words as words
use Rattle.abi_session.specs.Words.{AbiSession, session_of, AbiOutcome, abi_outcome, AbiCalled}
use Rattle.abi_delivery.specs.Words.{AbiApplied, abi_applied}
use Rattle.mahuixen.specs.Releases.{AbiDeliveryCall, piece, tried, accepted, handed, AbiDeliveryChained, abi_session_after, AbiDeliveryConnection, AbiConnects, abi_delivery_calls, abi_delivery_connections, AbiEveryRelease}
use Rattle.mahuixen.proofs.Chain.{abi_form, judgement_of, judged, answered, switch_form}

-- ---- a call for a piece

-- what it reports is what the connection does
reported : (st : State) (p : AbiConnection) (s bytes : List ℕ) → AbiOf st p → report_by p s bytes ≡ (answer st s bytes).received.report
reported st p s bytes w =
    ap (λ (b : Bool). cond b (answer (connection_of p) s bytes).received.report (Some (event.Refused contradiction))) w.stands.fit
    ∙ ap (λ (x : State). (answer x s bytes).received.report) w.stands.state

module _ (st : State) (x : Session) (s bytes : List ℕ) where
  abbrev done : Applied
  done = done_to x (request_by_report (answer st s bytes).received.report (answer st s bytes).store)

  abbrev delivered : Delivered
  delivered = record {
    state = promises.delivery (answer st s bytes).received.state done.session;
    taken = (answer st s bytes).received.taken;
    report = (answer st s bytes).received.report;
    effect = done.effect;
  }

  done_form : (p : AbiConnection) (q : AbiSession) (d : AbiApplied) (s' : List ℕ) → AbiOf st p → q ≡ words.abi_of x → s' ≡ (answer st s bytes).store
      → d ≡ abi_applied (done_to (session_of q) (request_by_report (report_by p s bytes) s')) → d ≡ abi_applied done
  done_form p q d s' w e f h =
      h
      ∙ ap (λ (y : AbiSession). abi_applied (done_to (session_of y) (request_by_report (report_by p s bytes) s'))) e
      ∙ ap (λ (r : Report). abi_applied (done_to x (request_by_report r s'))) (reported st p s bytes w)
      ∙ ap (λ (y : List ℕ). abi_applied (done_to x (request_by_report (answer st s bytes).received.report y))) f

-- ---- a call of the session

called_form : (x : Session) (q : AbiSession) (c : session.Call) (n : ℕ) (o : AbiOutcome) → q ≡ words.abi_of x → AbiCalled q c n o → o ≡ abi_outcome (call_of x c)
called_form x q c n o e h = h.outcome ∙ ap (λ (y : AbiSession). abi_outcome (call_of (session_of y) c)) e

-- ---- a try to switch

abbrev switching : State → Session → List ℕ → List ℕ → List ℕ → Switched
switching st x key receiving sending = record {
  state = promises.delivery (answered st key receiving sending).state x;
  sending = (answered st key receiving sending).sending;
  judgement = judgement_of st;
}

-- ---- lists

-- the calls of which these are the ABI forms, and the session that they leave
record AsDeliveryCalls (stream : List ℕ) (st : State) (x : Session) (q : AbiSession) (s : List ℕ) (t : ℕ) (ps : List AbiDeliveryCall) : Type 0 where
  calls : List delivery.Call
  abi : ps ≡ abi_delivery_calls calls
  chained : Chained stream (promises.delivery st x) s t calls
  left : abi_session_after q ps ≡ words.abi_of (session_after x calls)

as_delivery-calls : (stream : List ℕ) (st : State) (p : AbiConnection) (x : Session) (q : AbiSession) (s : List ℕ) (t : ℕ) (ps : List AbiDeliveryCall)
    → AbiOf st p → q ≡ words.abi_of x → AbiDeliveryChained stream p q s t ps → AsDeliveryCalls stream st x q s t ps
as_delivery-calls stream st p x q s t [] w e h = record { calls = []; abi = refl; chained = tt; left = e }
as_delivery-calls stream st p x q s t (piece size k o d s' ∷ ps) w e h =
    let a = answer st s (piece_at stream t size) in
    let r = delivered st x s (piece_at stream t size) in
    let f = abi_form st p s (piece_at stream t size) o s' w h.0.received.answered in
    let g = done_form st x s (piece_at stream t size) p q d s' w e f.store h.0.done in
    let n : taken_in o ≡ a.received.taken = ap taken_in f.received ∙ taken_word a.received.taken a.received.report in
    let on =
    as_delivery-calls stream a.received.state o.state r.state.session d.session a.store (t + a.received.taken) ps f.next
    (ap (λ (y : AbiApplied). y.session) g) (rw (n, f.store) at h.1) in
    record {
      calls = delivery.piece size r a.store ∷ on.calls;
      abi = cc (h.0.received.kind, f.received, g, f.store, on.abi);
      chained = (record { received = record { received = refl; store = refl }; done = refl }, on.chained);
      left = on.left;
    }
as_delivery-calls stream st p x q s t (tried key receiving sending o ∷ ps) w e h =
    let r = switching st x key receiving sending in
    let f = switch_form st key receiving sending p o w h.0 in
    let on = as_delivery-calls stream (answered st key receiving sending).state o.state x q s t ps f.next e h.1 in
    record {
      calls = delivery.tried key receiving sending r ∷ on.calls;
      abi = ap₂ ◌∷◌ (ap (tried key receiving sending) f.switched) on.abi;
      chained = (record { switched = record { judgement = judged st; state = refl; sends = refl }; session = refl }, on.chained);
      left = on.left;
    }
as_delivery-calls stream st p x q s t (accepted n k o ∷ ps) w e h =
    let c = call_of x (session.accept n) in
    let f = called_form x q (session.accept n) k o e h.0 in
    let on = as_delivery-calls stream st p c.session o.session s t ps w (ap (λ (y : AbiOutcome). y.session) f) h.1 in
    record {
      calls = delivery.accepted n (session_called_by (promises.delivery st x) c) ∷ on.calls;
      abi = cc (h.0.kind, f, on.abi);
      chained = (record { state = refl; answer = refl }, on.chained);
      left = on.left;
    }
as_delivery-calls stream st p x q s t (handed n k o ∷ ps) w e h =
    let c = call_of x (session.ack n) in
    let f = called_form x q (session.ack n) k o e h.0 in
    let on = as_delivery-calls stream st p c.session o.session s t ps w (ap (λ (y : AbiOutcome). y.session) f) h.1 in
    record {
      calls = delivery.handed n (session_called_by (promises.delivery st x) c) ∷ on.calls;
      abi = cc (h.0.kind, f, on.abi);
      chained = (record { state = refl; answer = refl }, on.chained);
      left = on.left;
    }

-- ---- a start

abbrev own_judgement : Features → Result (Unit {0}) Refusal
own_judgement own = cond (is_fine (judge_own own.supported own.required)) (Ok tt) (Err refusal.OwnFeatures)

own-judged : (own : Features) → judged_by (own_judgement own) ≡ judge_own own.supported own.required
own-judged own =
    at_test (λ b. judged_by (cond (is_fine (unless b refusal.OwnFeatures)) (Ok tt) (Err refusal.OwnFeatures)) ≡ unless b refusal.OwnFeatures)
    (ltb own.supported 2 && ltb own.required 2 && eqb (missing 64 own.required own.supported) 0) (λ _. refl) (λ _. refl)

-- ---- connections

record AsConnections (x : Session) (ps : List AbiDeliveryConnection) : Type 0 where
  connections : List Connection
  abi : ps ≡ abi_delivery_connections connections
  connects : Connects x connections

same_connection : {k : AbiDeliveryConnection} {n : ℕ} {p : AbiConnection} {cs : List AbiDeliveryCall} → k.number ≡ n → k.state ≡ p → k.calls ≡ cs
    → k ≡ record { own = k.own; stream = k.stream; store = k.store; number = n; state = p; calls = cs }
same_connection e f g = rw (← e, ← f, ← g)

as_connections : (x : Session) (q : AbiSession) (ps : List AbiDeliveryConnection) → q ≡ words.abi_of x → AbiConnects q ps → AsConnections x ps
as_connections x q [] e h = record { connections = []; abi = refl; connects = tt }
as_connections x q (k ∷ ps) e h =
    let found = as_delivery-calls k.stream (begun k.own) k.state x q k.store 0 k.calls h.0.state e h.1 in
    let on = as_connections (session_after x found.calls) (abi_session_after q k.calls) ps found.left h.2 in
    let c : Connection =
    record {
      own = k.own;
      stream = k.stream;
      store = k.store;
      connected = record { state = promises.delivery (begun k.own) x; judgement = own_judgement k.own };
      calls = found.calls;
    } in
    record {
      connections = c ∷ on.connections;
      abi = ap₂ ◌∷◌ (same_connection (h.0.number ∙ ap number_of (sym (own-judged k.own))) h.0.state.words found.abi) on.abi;
      connects = (record { state = refl; judgement = own-judged k.own }, found.chained, on.connects);
    }

pub releases_in_c : EveryRelease → AbiEveryRelease
unfolding EveryRelease AbiEveryRelease
releases_in_c release q e ps h =
    let found = as_connections fresh_session q ps e h in
    record { connections = found.connections; abi = found.abi; connects = found.connects; acknowledged = release found.connections found.connects }
