-- What a report asks of the session, and what the calls answer.
use Rattle.std.specs.Prelude.{Option, Some, None, ◌≡◌, List, [], ◌∷◌, Bool, cond, ◌||◌, ℕ, take, eqb}
use Rattle.refusal.specs.declared.Refusal.TheVariants.{BodyMalformed}
use Rattle.refusal.specs.Refusals.{numbers_of, judged_by}
use Rattle.banner.specs.declared.Features.{Features}
use Rattle.banner.specs.Banner.{judge_own}
use Rattle.preamble.specs.declared.Header.{Header}
use Rattle.fields.specs.Field.{Field, number, negative, numbers, payload, opaque, fixed}
use Rattle.bodies.specs.Read as reading
use Rattle.bodies.specs.Read.{whole, refused, read_body}
use Rattle.stream.specs.declared.Event.{Event}
use Rattle.stream.specs.Events.{is_frame, Role, banner_end, first_end, frame_end, stream_end, role_of}
use Rattle.preamble.specs.Layout.{no_header}
use Rattle.connection.specs.declared.State.{State}
use Rattle.connection.specs.declared.Received.{Received}
use Rattle.connection.specs.declared.Switched as connection
use Rattle.connection.specs.Step.{begun, Answered, SwitchedWith}
use Rattle.session.specs.declared.Session.{Session}
use Rattle.session.specs.declared.Outcome.{Outcome}
use Rattle.session.specs.Calls.{ack_of, reconnect_of, reset_of}
use Rattle.session.specs.Laws.{Call, call_of}
use Rattle.delivery.specs.declared.Delivery.{Delivery}
use Rattle.delivery.specs.declared.Request.{Request}
use Rattle.delivery.specs.declared.Request.TheVariants as request
use Rattle.delivery.specs.declared.Effect.{Effect}
use Rattle.delivery.specs.declared.Effect.TheVariants as effect
use Rattle.delivery.specs.declared.Applied.{Applied}
use Rattle.delivery.specs.declared.Delivered.{Delivered}
use Rattle.delivery.specs.declared.Switched.{Switched}
use Rattle.delivery.specs.declared.SessionCalled.{SessionCalled}
use Rattle.delivery.specs.declared.Connected.{Connected}

-- ---- what a frame asks of the session (000, "Message flow handshake" and "Message exchange"; 02, K6 and K13)

-- ack, reconnect_ok, reset
abbrev pub for_session : ℕ → Bool
for_session tag = eqb tag 20 || (eqb tag 15 || eqb tag 12)

-- by the tag, and the number that is the body: a msg_seq, or a reset's byte, which is 1 for a full one
abbrev pub request_of : ℕ → ℕ → Request
request_of tag n = cond (eqb tag 20) (request.Ack n) (cond (eqb tag 15) (request.Reconnect n) (cond (eqb tag 12) (request.Reset (eqb n 1)) request.Nothing))

-- the body is segment 1; bytes of further segments are left over, and malformed from the first of them on
abbrev pub by_number : Header → ℕ → Request
by_number h n = cond (eqb h.count 1) (request_of h.tag n) (request.Malformed (numbers_of (BodyMalformed h.s1.len)))

abbrev pub by_field : Header → Field → Request
by_field h (number w n) = by_number h n
by_field h (negative n) = request.Nothing
by_field h (numbers ns) = request.Nothing
by_field h (payload bs) = request.Nothing
by_field h (opaque k bs) = request.Nothing
by_field h (fixed w bs) = request.Nothing

abbrev pub by_fields : Header → List Field → Request
by_fields h [] = request.Nothing
by_fields h (f ∷ []) = by_field h f
by_fields h (f ∷ g ∷ fs) = request.Nothing

abbrev pub by_body : Header → reading.Answer → Request
by_body h (whole fs) = by_fields h fs
by_body h (refused n) = request.Malformed n

-- segment 1, at the store's front, read by K6's table
abbrev pub body_of : Header → List ℕ → reading.Answer
body_of h s = read_body h.tag (take h.s1.len s)

unfoldable pub request_by_frame : Header → List ℕ → Request
request_by_frame h s = cond (for_session h.tag) (by_body h (body_of h s)) request.Nothing

-- the header that comes with an event; with a banner and a refusal none does
abbrev pub role_header : Role → Header
role_header (banner_end p r) = no_header
role_header (first_end h) = h
role_header (frame_end h) = h
role_header (stream_end n) = no_header

-- WHAT AN EVENT ASKS, with the store then: only a whole frame asks for anything
abbrev pub request_by : Event → List ℕ → Request
request_by e s = cond (is_frame e) (request_by_frame (role_header (role_of e)) s) request.Nothing

abbrev pub request_by_report : Option Event → List ℕ → Request
request_by_report None s = request.Nothing
request_by_report (Some e) s = request_by e s

-- ---- what is done to the session

abbrev pub applied : Session → Effect → Applied
applied s e = record { session = s; effect = e }

abbrev pub answered_by : Outcome → Applied
answered_by o = applied o.session (effect.Answer o.answer)

abbrev pub done_to : Session → Request → Applied
done_to s request.Nothing = applied s effect.Nothing
done_to s (request.Ack n) = answered_by (ack_of s n)
done_to s (request.Reconnect n) = answered_by (reconnect_of s n)
done_to s (request.Reset full) = answered_by (reset_of s full)
done_to s (request.Malformed n) = applied s (effect.Malformed n)

-- ---- THE PROMISES OF THE CALLS

abbrev pub delivery : State → Session → Delivery
delivery st s = record { receiver = st; session = s }

abbrev pub received_by : Delivered → Received
received_by r = record { state = r.state.receiver; taken = r.taken; report = r.report }

-- `deliver`: what `receive` promises, and what its report asks of the session, read from the store as it left it
pub record Delivers (st : Delivery) (s piece : List ℕ) (r : Delivered) (s' : List ℕ) : Type 0 where
  pub received : Answered st.receiver s piece (received_by r) s'
  pub done : applied r.state.session r.effect ≡ done_to st.session (request_by_report r.report s')

abbrev pub switched_by : Switched → connection.Switched
switched_by r = record { state = r.state.receiver; sending = r.sending; judgement = r.judgement }

-- `switch`: what a switch of the connection promises, and the session as it was
pub record Switches (st : Delivery) (key receiving sending : List ℕ) (r : Switched) : Type 0 where
  pub switched : SwitchedWith st.receiver key receiving sending (switched_by r)
  pub session : r.state.session ≡ st.session

abbrev pub session_called_by : Delivery → Outcome → SessionCalled
session_called_by st o = record { state = delivery st.receiver o.session; answer = o.answer }

-- `accept` and `ack`: a call of the session, which hands back what it leaves and tells its answer
pub record Called (st : Delivery) (c : Call) (r : SessionCalled) : Type 0 where
  pub state : r.state ≡ delivery st.receiver (call_of st.session c).session
  pub answer : r.answer ≡ (call_of st.session c).answer

-- `connect`: a start, and the session as it was
pub record ConnectedWith (s : Session) (own : Features) (r : Connected) : Type 0 where
  pub state : r.state ≡ delivery (begun own) s
  pub judgement : judged_by r.judgement ≡ judge_own own.supported own.required
