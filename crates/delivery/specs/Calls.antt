-- No message is released before its acknowledgement: one claim about every list of connections, each with its own start, stream and store, and of every list of
-- calls on them, in crc mode and sealed. What was received is said by the definition over the stream, with the switch that was made on it
-- (connection/specs/Switched.antt), not by the receiver's reports.
use Rattle.std.specs.Prelude.{Result, Ok, ◌≡◌, ◌⊎◌, ℕ, ◌+◌, ◌≤◌, length, take, drop}
use mathlib.Core.List.{List, [], ◌∷◌, ◌++◌, map, Memᴰ}
use Rattle.refusal.specs.declared.Numbers.{Numbers}
use Rattle.refusal.specs.Refusals.{refused, judged_by}
use Rattle.banner.specs.declared.Features.{Features}
use Rattle.banner.specs.Banner.{judge_own}
use Rattle.preamble.specs.declared.Header.{Header}
use Rattle.bodies.specs.Rows.{one_number_of, reset_of}
use Rattle.bodies.specs.Read.{whole}
use Rattle.stream.specs.declared.Event.TheVariants.{Frame}
use Rattle.stream.specs.Stream.{Entry, entry}
use Rattle.receiver.specs.Calls.{piece_at}
use Rattle.connection.specs.Switched.{Switch, trace_with}
use Rattle.connection.specs.Step.{switched_sending}
use Rattle.connection.specs.Calls as connection
use Rattle.connection.specs.Calls.{taking, switching, switch_by, OneMade, AsSwitched}
use Rattle.session.specs.declared.Session.{Session}
use Rattle.session.specs.declared.Message.{Message}
use Rattle.session.specs.declared.Answer.{Answer}
use Rattle.session.specs.declared.Answer.TheVariants.{Accepted}
use Rattle.session.specs.Calls.{message, held_of, fresh_session}
use Rattle.session.specs.Laws as session
use Rattle.session.specs.Laws.{call_of}
use Rattle.session.specs.History as history
use Rattle.session.specs.History.{session_by, Accounted}
use Rattle.delivery.specs.declared.Delivery.{Delivery}
use Rattle.delivery.specs.declared.Request.{Request}
use Rattle.delivery.specs.declared.Request.TheVariants as request
use Rattle.delivery.specs.declared.Effect.{Effect}
use Rattle.delivery.specs.declared.Effect.TheVariants as effect
use Rattle.delivery.specs.declared.Applied.{Applied}
use Rattle.delivery.specs.declared.Delivered.{Delivered}
use Rattle.delivery.specs.declared.Switched.{Switched}
use Rattle.delivery.specs.declared.SessionCalled.{SessionCalled}
use Rattle.delivery.specs.declared.Connected.{Connected}
use Rattle.delivery.specs.Requests.{body_of, request_by, applied, done_to, received_by, switched_by, Delivers, Switches, Called, ConnectedWith}

-- ---- connections and the calls on them

pub data Call : Type 0 where
  -- a piece of so many bytes was lent to `deliver`: what it handed back, and the store as it left it
  piece : ℕ → Delivered → List ℕ → Call
  -- a try to switch, with a key and the nonce of each direction: what `switch` handed back
  tried : (key receiving sending : List ℕ) → Switched → Call
  -- a message with this handle was sent: what `accept` handed back
  accepted : ℕ → SessionCalled → Call
  -- a message's header had this number: what `ack` handed back
  handed : ℕ → SessionCalled → Call

-- each call meets its promise, from the state and the store that the last one left; t bytes of the stream are taken
abbrev pub Chained : List ℕ → Delivery → List ℕ → ℕ → List Call → Type 0
Chained stream st s t [] = Unit {0}
Chained stream st s t (piece size r s' ∷ cs) = Delivers st s (piece_at stream t size) r s' × Chained stream r.state s' (t + r.taken) cs
Chained stream st s t (tried key receiving sending r ∷ cs) = Switches st key receiving sending r × Chained stream r.state s t cs
Chained stream st s t (accepted h r ∷ cs) = Called st (session.accept h) r × Chained stream r.state s t cs
Chained stream st s t (handed n r ∷ cs) = Called st (session.ack n) r × Chained stream r.state s t cs

abbrev pub session_after : Session → List Call → Session
session_after s [] = s
session_after s (piece size r s' ∷ cs) = session_after r.state.session cs
session_after s (tried key receiving sending r ∷ cs) = session_after r.state.session cs
session_after s (accepted h r ∷ cs) = session_after r.state.session cs
session_after s (handed n r ∷ cs) = session_after r.state.session cs

-- our own features, all that the peer sends, the store, what `connect` handed back, and the calls
pub record Connection : Type 0 where
  pub own : Features
  pub stream : List ℕ
  pub store : List ℕ
  pub connected : Connected
  pub calls : List Call

-- each connection is given the session that the one before it left
abbrev pub Connects : Session → List Connection → Type 0
Connects s [] = Unit {0}
Connects s (k ∷ ks) =
    ConnectedWith s k.own k.connected
    × Chained k.stream k.connected.state k.store 0 k.calls
    × Connects (session_after s k.calls) ks

abbrev pub session_after_all : Session → List Connection → Session
session_after_all s [] = s
session_after_all s (k ∷ ks) = session_after_all (session_after s k.calls) ks

-- ---- what the definition has received

-- the calls as those of the connection alone
abbrev pub on_connection : List Call → List connection.Call
on_connection [] = []
on_connection (piece size r s' ∷ cs) = taking (record { size = size; received = received_by r; store = s' }) ∷ on_connection cs
on_connection (tried key receiving sending r ∷ cs) = switching (record { key = key; receiving = receiving; sending = sending; switched = switched_by r }) ∷ on_connection cs
on_connection (accepted h r ∷ cs) = on_connection cs
on_connection (handed n r ∷ cs) = on_connection cs

-- the switch that was made on it, or none: behind how many frames is counted by the calls' reports, of which `received` says that they are the definition's
abbrev pub switch_of : Connection → Switch
switch_of k = switch_by 0 (on_connection k.calls)

-- the entries of a connection's first t bytes
abbrev pub entries_up_to : Connection → ℕ → List Entry
entries_up_to k t = (trace_with (switch_of k) k.own (take t k.stream) k.store).entries

-- those that the bytes behind t add, up to t'
abbrev pub added : Connection → ℕ → ℕ → List Entry
added k t t' = drop (length (entries_up_to k t)) (entries_up_to k t')

-- why something is done to the session: the caller sends a message with a handle, or hands in a number; or the definition has an entry
pub data Cause : Type 0 where
  sends : ℕ → Cause
  hands : ℕ → Cause
  receives : Entry → Cause

abbrev pub causes_from : Connection → ℕ → List Call → List Cause
causes_from k t [] = []
causes_from k t (piece size r s' ∷ cs) = map receives (added k t (t + r.taken)) ++ causes_from k (t + r.taken) cs
causes_from k t (tried key receiving sending r ∷ cs) = causes_from k t cs
causes_from k t (accepted h r ∷ cs) = sends h ∷ causes_from k t cs
causes_from k t (handed n r ∷ cs) = hands n ∷ causes_from k t cs

abbrev pub causes_of : List Connection → List Cause
causes_of [] = []
causes_of (k ∷ ks) = causes_from k 0 k.calls ++ causes_of ks

-- ---- the session's own calls that are due

abbrev pub calls_requested : Request → List session.Call
calls_requested request.Nothing = []
calls_requested (request.Ack n) = session.ack n ∷ []
calls_requested (request.Reconnect n) = session.reconnect n ∷ []
calls_requested (request.Reset full) = session.reset full ∷ []
calls_requested (request.Malformed n) = []

abbrev pub calls_by : Cause → List session.Call
calls_by (sends h) = session.accept h ∷ []
calls_by (hands n) = session.ack n ∷ []
calls_by (receives e) = calls_requested (request_by e.event e.store)

abbrev pub calls_due : List Cause → List session.Call
calls_due [] = []
calls_due (c ∷ cs) = calls_by c ++ calls_due cs

-- the history of such calls, each with its outcome
abbrev pub played : Session → List session.Call → List history.Entry
played s [] = []
played s (c ∷ cs) = record { call = c; outcome = call_of s c } ∷ played (call_of s c).session cs

abbrev pub history_of : List Cause → List history.Entry
history_of cs = played fresh_session (calls_due cs)

-- ---- each call by itself

-- what was done to the session s, by the entries that the bytes of a call added: at most one, at the last byte taken
pub data Does (s : Session) (t' : ℕ) (d : Applied) : List Entry → Type 0 where
  nothing : d ≡ applied s effect.Nothing → Does s t' d []
  one : (e : Entry) → e.at ≡ t' → d ≡ done_to s (request_by e.event e.store) → Does s t' d (e ∷ [])

abbrev pub Each : Connection → Session → ℕ → List Call → Type 0
Each k s t [] = Unit {0}
Each k s t (piece size r s' ∷ cs) =
    (entries_up_to k (t + r.taken) ≡ entries_up_to k t ++ added k t (t + r.taken))
    × Does s (t + r.taken) (applied r.state.session r.effect) (added k t (t + r.taken))
    × Each k r.state.session (t + r.taken) cs
Each k s t (tried key receiving sending r ∷ cs) = Each k r.state.session t cs
Each k s t (accepted h r ∷ cs) = Each k r.state.session t cs
Each k s t (handed n r ∷ cs) = Each k r.state.session t cs

abbrev pub EachOf : Session → List Connection → Type 0
EachOf s [] = Unit {0}
EachOf s (k ∷ ks) = Each k s 0 k.calls × EachOf (session_after s k.calls) ks

-- ---- what the caller is told

-- by an effect: the session's answer, if it was asked
abbrev pub answers_by : Effect → List (Result Answer Numbers)
answers_by effect.Nothing = []
answers_by (effect.Malformed n) = []
answers_by (effect.Answer r) = r ∷ []

abbrev pub answers_in : List Call → List (Result Answer Numbers)
answers_in [] = []
answers_in (piece size r s' ∷ cs) = answers_by r.effect ++ answers_in cs
answers_in (tried key receiving sending r ∷ cs) = answers_in cs
answers_in (accepted h r ∷ cs) = r.answer ∷ answers_in cs
answers_in (handed n r ∷ cs) = r.answer ∷ answers_in cs

-- THE SESSION'S ANSWERS, in the order in which the calls tell them
abbrev pub answers_of : List Connection → List (Result Answer Numbers)
answers_of [] = []
answers_of (k ∷ ks) = answers_in k.calls ++ answers_of ks

-- those of a history
abbrev pub history_answers : List history.Entry → List (Result Answer Numbers)
history_answers [] = []
history_answers (e ∷ es) = e.outcome.answer ∷ history_answers es

-- `connect` says whether our own features are refused; where they are, the definition has no entry, whatever comes
pub record Starts (k : Connection) : Type 0 where
  pub judgement : judged_by k.connected.judgement ≡ judge_own k.own.supported k.own.required
  pub refuses : (n : Numbers) → judged_by k.connected.judgement ≡ refused n → (t : ℕ) → entries_up_to k t ≡ []

abbrev pub StartsOf : List Connection → Type 0
StartsOf [] = Unit {0}
StartsOf (k ∷ ks) = Starts k × StartsOf ks

-- what a try to switch gives the builder is by its judgement: the key and the nonce where the switch was made, and else nothing to build with
abbrev pub Given : List Call → Type 0
Given [] = Unit {0}
Given (piece size r s' ∷ cs) = Given cs
Given (tried key receiving sending r ∷ cs) = (r.sending ≡ switched_sending (judged_by r.judgement) key sending) × Given cs
Given (accepted h r ∷ cs) = Given cs
Given (handed n r ∷ cs) = Given cs

-- one switch is made at most, and every other try gave 27
abbrev pub SwitchesOf : List Connection → Type 0
SwitchesOf [] = Unit {0}
SwitchesOf (k ∷ ks) = OneMade (on_connection k.calls) × Given k.calls × SwitchesOf ks

-- each call takes and reports what demand 3 says of the connection's stream
abbrev pub ReceivedOf : List Connection → Type 0
ReceivedOf [] = Unit {0}
ReceivedOf (k ∷ ks) = AsSwitched k.own k.stream k.store (on_connection k.calls) (switch_of k) × ReceivedOf ks

-- ---- WHY A MESSAGE IS NO LONGER HELD

-- an ack that the session refuses with 23 is a reason by this list too; `each` and `accounted` say that it releases nothing
pub data Reason (m : ℕ) : Cause → Type 0 where
  -- the definition has a whole frame of one segment with tag 20 or 15, and the number in its body is the message's or a higher one
  acknowledged : (h : Header) (at n : ℕ) (s : List ℕ) → (h.tag ≡ 20) ⊎ (h.tag ≡ 15) → h.count ≡ 1 → body_of h s ≡ whole (one_number_of n) → m ≤ n
      → Reason m (receives (entry (Frame h) at s))
  -- it has such a frame with tag 12, a full reset
  dropped : (h : Header) (at : ℕ) (s : List ℕ) → h.tag ≡ 12 → h.count ≡ 1 → body_of h s ≡ whole (reset_of 1) → Reason m (receives (entry (Frame h) at s))
  -- the caller handed in such a number
  handed_in : (n : ℕ) → m ≤ n → Reason m (hands n)

-- one of these causes is a reason
pub data Covered (m : ℕ) : List Cause → Type 0 where
  here : {c : Cause} {cs : List Cause} → Reason m c → Covered m (c ∷ cs)
  later : {c : Cause} {cs : List Cause} → Covered m cs → Covered m (c ∷ cs)

-- a message that was held before a call, with the session s, and is not held after it, with s', has a reason among the call's own causes
abbrev pub Leaves : Session → Session → List Cause → Type 0
Leaves s s' causes = (x : Message) → Memᴰ x (held_of s) → Memᴰ x (held_of s') ⊎ Covered x.number causes

abbrev pub LeavesIn : Connection → Session → ℕ → List Call → Type 0
LeavesIn k s t [] = Unit {0}
LeavesIn k s t (piece size r s' ∷ cs) = Leaves s r.state.session (map receives (added k t (t + r.taken))) × LeavesIn k r.state.session (t + r.taken) cs
LeavesIn k s t (tried key receiving sending r ∷ cs) = Leaves s r.state.session [] × LeavesIn k r.state.session t cs
LeavesIn k s t (accepted h r ∷ cs) = Leaves s r.state.session [] × LeavesIn k r.state.session t cs
LeavesIn k s t (handed n r ∷ cs) = Leaves s r.state.session (hands n ∷ []) × LeavesIn k r.state.session t cs

abbrev pub LeavesOf : Session → List Connection → Type 0
LeavesOf s [] = Unit {0}
LeavesOf s (k ∷ ks) = LeavesIn k s 0 k.calls × LeavesOf (session_after s k.calls) ks

-- THE CLAIM, of the connections ks, from a fresh session on
pub record Acknowledged (ks : List Connection) : Type 0 where
  -- each call of `deliver` takes and reports what demand 3 says of its connection's stream
  pub received : ReceivedOf ks
  -- it does what the entry asks, if there is one, that its bytes add to the definition's list, and nothing else
  pub each : EachOf fresh_session ks
  -- and a message leaves at its reason's own call, and not before
  pub leaves : LeavesOf fresh_session ks
  -- so the session is where its own calls lead that the causes make due, in their order
  pub final : session_after_all fresh_session ks ≡ session_by fresh_session (history_of (causes_of ks))
  -- of these K13's claim holds: what is held is what they neither acknowledged nor dropped
  pub accounted : Accounted (history_of (causes_of ks))
  -- and the answers that the caller is told are their answers, in order, none left out
  pub answers : answers_of ks ≡ history_answers (history_of (causes_of ks))
  -- each connection began as `connect` said, and was switched once at most, as `switch` said
  pub starts : StartsOf ks
  pub switches : SwitchesOf ks
  -- a message m that was sent, with the handle h, is still held, or one of the causes since then is a reason why it is not
  pub released : (before since : List Cause) (h m : ℕ) → causes_of ks ≡ before ++ (sends h ∷ since)
      → (call_of (session_by fresh_session (history_of before)) (session.accept h)).answer ≡ Ok (Accepted m)
      → Memᴰ (message m h) (held_of (session_after_all fresh_session ks)) ⊎ Covered m since

-- the lists may end anywhere, so it holds after every call
unfoldable pub EveryRelease : Type 0
EveryRelease = (ks : List Connection) → Connects fresh_session ks → Acknowledged ks
