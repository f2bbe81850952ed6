-- No message is released before its acknowledgement, of calls that C makes: a list of connections, each a start and calls on it, with one session through all of them, is, call by
-- call, a list of connections of `delivery`.
use Rattle.std.specs.Prelude.{◌≡◌, List, [], ◌∷◌, ℕ, ◌+◌, get_or}
use Rattle.refusal.specs.Refusals.{judged_by}
use Rattle.banner.specs.declared.Features.{Features}
use Rattle.receiver.specs.Calls.{piece_at}
use Rattle.session.specs.Calls.{outcome, fresh_session}
use Rattle.session.specs.Laws as session
use Rattle.delivery.specs.declared.SessionCalled.{SessionCalled}
use Rattle.delivery.specs.Requests.{applied, received_by, switched_by}
use Rattle.delivery.specs.Calls as delivery
use Rattle.delivery.specs.Calls.{Connection, Connects, Acknowledged}
use Rattle.abi_receiver.specs.Words.{number_of}
use Rattle.abi_connection.specs.Words.{AbiConnection, abi_of, AbiStarted, AbiReceived, kind_in, taken_in, AbiSwitched, AbiSwitchedWith}
use Rattle.abi_session.specs.Words as words
use Rattle.abi_session.specs.Words.{AbiSession, AbiOutcome, abi_outcome, AbiCalled}
use Rattle.abi_delivery.specs.Words.{AbiApplied, abi_applied, AbiDelivers}
use Rattle.mahuixen.specs.Calls.{abi_received, abi_switched}

-- ---- connections by C, and the calls on them

pub data AbiDeliveryCall : Type 0 where
  -- a piece of so many bytes was lent: the number that was answered, what was handed back, what was done to the session, and the store then
  piece : (size number : ℕ) → AbiReceived → AbiApplied → List ℕ → AbiDeliveryCall
  -- a try to switch, with a key and the nonce of each direction
  tried : (key receiving sending : List ℕ) → AbiSwitched → AbiDeliveryCall
  -- a message with this handle was sent: the number that was answered, and what was handed back
  accepted : (handle number : ℕ) → AbiOutcome → AbiDeliveryCall
  -- a message's header had this number
  handed : (seq number : ℕ) → AbiOutcome → AbiDeliveryCall

-- each call meets the promise of its exported function, from the state, the session and the store that the last one left
abbrev pub AbiDeliveryChained : List ℕ → AbiConnection → AbiSession → List ℕ → ℕ → List AbiDeliveryCall → Type 0
AbiDeliveryChained stream p q s t [] = Unit {0}
AbiDeliveryChained stream p q s t (piece size n o d s' ∷ cs) =
    AbiDelivers p q s (piece_at stream t size) n o d s' × AbiDeliveryChained stream o.state d.session s' (t + taken_in o) cs
AbiDeliveryChained stream p q s t (tried key receiving sending r ∷ cs) = AbiSwitchedWith p key receiving sending r × AbiDeliveryChained stream r.state q s t cs
AbiDeliveryChained stream p q s t (accepted h n o ∷ cs) = AbiCalled q (session.accept h) n o × AbiDeliveryChained stream p o.session s t cs
AbiDeliveryChained stream p q s t (handed i n o ∷ cs) = AbiCalled q (session.ack i) n o × AbiDeliveryChained stream p o.session s t cs

abbrev pub abi_session_after : AbiSession → List AbiDeliveryCall → AbiSession
abi_session_after q [] = q
abi_session_after q (piece size n o d s' ∷ cs) = abi_session_after d.session cs
abi_session_after q (tried key receiving sending r ∷ cs) = abi_session_after q cs
abi_session_after q (accepted h n o ∷ cs) = abi_session_after o.session cs
abi_session_after q (handed i n o ∷ cs) = abi_session_after o.session cs

-- our own features, all that the peer sends, the store, what the start answered and its state, and the calls
pub record AbiDeliveryConnection : Type 0 where
  pub own : Features
  pub stream : List ℕ
  pub store : List ℕ
  pub number : ℕ
  pub state : AbiConnection
  pub calls : List AbiDeliveryCall

-- each connection is given the session that the one before it left
abbrev pub AbiConnects : AbiSession → List AbiDeliveryConnection → Type 0
AbiConnects q [] = Unit {0}
AbiConnects q (k ∷ ks) =
    AbiStarted k.own k.number k.state
    × AbiDeliveryChained k.stream k.state q k.store 0 k.calls
    × AbiConnects (abi_session_after q k.calls) ks

-- ---- the ABI form of a connection: the same pieces and stores, the words of states, reports and effects, and for the number that is answered the first word of a report or an answer

abbrev pub abi_session_called : SessionCalled → AbiOutcome
abi_session_called r = abi_outcome (outcome r.state.session r.answer)

-- the kind of an answer, its first word
abbrev pub answer_kind : AbiOutcome → ℕ
answer_kind o = get_or o.answer 0 0

abbrev pub abi_delivery_calls : List delivery.Call → List AbiDeliveryCall
abi_delivery_calls [] = []
abi_delivery_calls (delivery.piece size r s' ∷ cs) =
    piece size (kind_in (abi_received (received_by r))) (abi_received (received_by r)) (abi_applied (applied r.state.session r.effect)) s' ∷ abi_delivery_calls cs
abi_delivery_calls (delivery.tried key receiving sending r ∷ cs) = tried key receiving sending (abi_switched (switched_by r)) ∷ abi_delivery_calls cs
abi_delivery_calls (delivery.accepted h r ∷ cs) = accepted h (answer_kind (abi_session_called r)) (abi_session_called r) ∷ abi_delivery_calls cs
abi_delivery_calls (delivery.handed n r ∷ cs) = handed n (answer_kind (abi_session_called r)) (abi_session_called r) ∷ abi_delivery_calls cs

abbrev pub abi_delivery_connection : Connection → AbiDeliveryConnection
abi_delivery_connection k = record {
  own = k.own;
  stream = k.stream;
  store = k.store;
  number = number_of (judged_by k.connected.judgement);
  state = abi_of k.connected.state.receiver;
  calls = abi_delivery_calls k.calls;
}

abbrev pub abi_delivery_connections : List Connection → List AbiDeliveryConnection
abi_delivery_connections [] = []
abi_delivery_connections (k ∷ ks) = abi_delivery_connection k ∷ abi_delivery_connections ks

-- THE CLAIM, of connections by C: they are, call by call, connections of which it holds that no message is released before its acknowledgement
pub record AbiAcknowledged (ps : List AbiDeliveryConnection) : Type 0 where
  pub connections : List Connection
  pub abi : ps ≡ abi_delivery_connections connections
  pub connects : Connects fresh_session connections
  pub acknowledged : Acknowledged connections

-- from a session of which no message was sent
unfoldable pub AbiEveryRelease : Type 0
AbiEveryRelease = (q : AbiSession) → q ≡ words.abi_of fresh_session → (ps : List AbiDeliveryConnection) → AbiConnects q ps → AbiAcknowledged ps
