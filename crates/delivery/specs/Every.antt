-- What holds of every call, whatever its receiving side, session, store and piece, also of those that no start and no earlier call handed back.
use Rattle.std.specs.Prelude.{Option, Some, None, Ok, Err, ◌≡◌, List, [], ◌∷◌, Bool, true, false, ◌&&◌, ℕ, length}
use Rattle.refusal.specs.declared.Numbers.{Numbers}
use Rattle.stream.specs.Events.{is_frame, role_of}
use Rattle.stream.specs.Stream.{entry}
use Rattle.stream.specs.declared.Event.{Event}
use Rattle.refusal.specs.Refusals.{contradiction}
use Rattle.connection.specs.Step.{agrees}
use Rattle.connection.specs.Every.{Refuses}
use Rattle.session.specs.Calls as session
use Rattle.session.specs.Calls.{places}
use Rattle.session.specs.Laws.{accept, ack}
use Rattle.delivery.specs.declared.Delivery.{Delivery}
use Rattle.delivery.specs.declared.Effect.{Effect}
use Rattle.delivery.specs.declared.Effect.TheVariants as effect
use Rattle.delivery.specs.declared.Delivered.{Delivered}
use Rattle.delivery.specs.declared.SessionCalled.{SessionCalled}
use Rattle.delivery.specs.Requests.{for_session, role_header, received_by, Delivers, Called}
use Rattle.delivery.specs.Calls.{Cause, hands, receives, Leaves}

-- a whole frame with one of the session's tags is reported
abbrev pub speaks : Option Event → Bool
speaks None = false
speaks (Some e) = is_frame e && for_session (role_header (role_of e)).tag

-- 20, or a refusal of the session
abbrev pub request_refused : Effect → Bool
request_refused effect.Nothing = false
request_refused (effect.Malformed n) = true
request_refused (effect.Answer (Ok r)) = false
request_refused (effect.Answer (Err n)) = true

-- what is reported, as a cause: at the last byte taken of the piece, with the store then
abbrev pub reported_cause : Option Event → ℕ → List ℕ → List Cause
reported_cause None t s = []
reported_cause (Some e) t s = receives (entry e t s) ∷ []

-- nothing was asked of the session, and it is as it was
pub record Untouched (st : Delivery) (r : Delivered) : Type 0 where
  pub session : r.state.session ≡ st.session
  pub effect : r.effect ≡ effect.Nothing

pub record Sound (st : Delivery) (s piece : List ℕ) (r : Delivered) (s' : List ℕ) : Type 0 where
  -- only a call that reports a whole frame with tag 20, 15 or 12 does anything to the session
  pub keeps : speaks r.report ≡ false → Untouched st r
  -- a receiving side that contradicts itself gives 26: nothing is taken or changed, and nothing is done to the session
  pub contradicts : agrees st.receiver ≡ false → Refuses st.receiver contradiction s (received_by r) s' × Untouched st r
  -- a session that contradicts itself stays as it is, and so does one that turns away what is asked
  pub broken : session.agrees st.session ≡ false → r.state.session ≡ st.session
  pub unchanged : request_refused r.effect ≡ true → r.state.session ≡ st.session
  -- a message that was held before the call and is not held after it has its reason in what the call reports
  pub leaves : Leaves st.session r.state.session (reported_cause r.report r.taken s')

-- a call of the session: the receiving side is as it was, and a message leaves for these causes alone
pub record SoundSessionCall (st : Delivery) (r : SessionCalled) (causes : List Cause) : Type 0 where
  pub receiver : r.state.receiver ≡ st.receiver
  pub broken : session.agrees st.session ≡ false → r.state.session ≡ st.session
  pub unchanged : (n : Numbers) → r.answer ≡ Err n → r.state.session ≡ st.session
  pub leaves : Leaves st.session r.state.session causes

-- THE CLAIM, of a session that has its 64 places, as every one has
unfoldable pub EveryCall : Type 0
EveryCall =
    (st : Delivery) → length st.session.handles ≡ places
    → ((s piece : List ℕ) (r : Delivered) (s' : List ℕ) → Delivers st s piece r s' → Sound st s piece r s')
    × ((h : ℕ) (r : SessionCalled) → Called st (accept h) r → SoundSessionCall st r [])
    × ((n : ℕ) (r : SessionCalled) → Called st (ack n) r → SoundSessionCall st r (hands n ∷ []))
