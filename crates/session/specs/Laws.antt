-- What holds of every single call: when it gives 26, what a refusal leaves, and what it does to the messages held.
use Rattle.std.specs.Prelude.{Result, Ok, Err, Option, Some, ◌≡◌, List, [], ◌∷◌, ◌++◌, map, Bool, true, false, cond, ℕ, zero, suc, ◌+◌, ◌≤◌, ◌<◌, length, ltb}
use Rattle.refusal.specs.declared.Numbers.{Numbers}
use Rattle.refusal.specs.declared.Refusal.TheVariants.{StateContradicts, AckAhead}
use Rattle.refusal.specs.Refusals.{numbers_of}
use Rattle.session.specs.declared.Session.{Session}
use Rattle.session.specs.declared.Message.{Message}
use Rattle.session.specs.declared.Answer.{Answer}
use Rattle.session.specs.declared.Answer.TheVariants as answer
use Rattle.session.specs.declared.Outcome.{Outcome}
use Rattle.session.specs.Calls.{places, message, held_of, agrees, fresh_session, outcome, refusing, accept_of, ack_of, reconnect_of, reset_of, held_at}

-- ---- calls, by value or lent: a lent call leaves the session that the other hands back

pub data Call : Type 0 where
  accept : ℕ → Call
  ack : ℕ → Call
  reconnect : ℕ → Call
  reset : Bool → Call

abbrev pub call_of : Session → Call → Outcome
call_of s (accept h) = accept_of s h
call_of s (ack n) = ack_of s n
call_of s (reconnect n) = reconnect_of s n
call_of s (reset full) = reset_of s full

-- ---- what a call and its answer say of the messages

pub data Event : Type 0 where
  accepted : Message → Event
  -- all up to a number, by an ack that is not refused
  acknowledged : ℕ → Event
  -- all that are held, by a full reset
  dropped : Event
  nothing : Event

abbrev pub event_unless_refused : Result Answer Numbers → Event → Event
event_unless_refused (Ok r) e = e
event_unless_refused (Err n) e = nothing

abbrev pub event_of : Call → Result Answer Numbers → Event
event_of (accept h) (Ok (answer.Accepted n)) = accepted (message n h)
event_of (accept h) (Ok answer.Done) = nothing
event_of (accept h) (Ok (answer.Resend k)) = nothing
event_of (accept h) (Err n) = nothing
event_of (ack n) r = event_unless_refused r (acknowledged n)
event_of (reconnect n) r = event_unless_refused r (acknowledged n)
event_of (reset true) r = event_unless_refused r dropped
event_of (reset false) r = nothing

-- the messages with a number above n
unfoldable pub above : ℕ → List Message → List Message
above n [] = []
above n (m ∷ ms) = cond (ltb n m.number) (m ∷ above n ms) (above n ms)

-- what is held after an event
abbrev pub after : Event → List Message → List Message
after (accepted m) ms = ms ++ (m ∷ [])
after (acknowledged n) ms = above n ms
after dropped ms = []
after nothing ms = ms

-- ---- what is sent again after a reconnect: what `held_at` gives, as often as the answer says; none on a refusal

unfoldable pub held_answers : Session → ℕ → ℕ → List (Result (Option Message) Numbers)
held_answers s i zero = []
held_answers s i (suc k) = held_at s i ∷ held_answers s (i + 1) k

abbrev pub resent_by : Result Answer Numbers → Session → List (Result (Option Message) Numbers)
resent_by (Ok (answer.Accepted n)) s = []
resent_by (Ok answer.Done) s = []
resent_by (Ok (answer.Resend k)) s = held_answers s 0 k
resent_by (Err n) s = []

abbrev pub resent : Outcome → List (Result (Option Message) Numbers)
resent o = resent_by o.answer o.session

-- ---- THE CLAIM, of a session that has its 64 places, as every one has

pub record Sound (s : Session) (c : Call) : Type 0 where
  -- 26 exactly where the fields contradict each other, and such a session is handed back by no other call
  pub contradicts : agrees s ≡ false → call_of s c ≡ refusing s (numbers_of StateContradicts)
  pub never26 : agrees s ≡ true → (call_of s c).answer ≡ Err (numbers_of StateContradicts) → ⊥
  pub agreeing : agrees s ≡ true → agrees (call_of s c).session ≡ true
  pub sized : length (call_of s c).session.handles ≡ places
  -- a refusal changes nothing
  pub unchanged : (n : Numbers) → (call_of s c).answer ≡ Err n → (call_of s c).session ≡ s
  -- what is then held
  pub table : agrees s ≡ true → held_of (call_of s c).session ≡ after (event_of c (call_of s c).answer) (held_of s)

pub record EveryCall : Type 0 where
  pub fresh : agrees fresh_session ≡ true
  pub each : (s : Session) (c : Call) → length s.handles ≡ places → Sound s c
  -- an ack at or below the last one changes nothing
  pub old : (s : Session) (n : ℕ) → agrees s ≡ true → n ≤ s.released
      → (ack_of s n ≡ outcome s (Ok answer.Done)) × (reconnect_of s n ≡ outcome s (Ok (answer.Resend (length (held_of s)))))
  -- after a reconnect the messages then held are sent again, in order, and none on 23
  pub resends : (s : Session) (n : ℕ) → agrees s ≡ true → n ≤ s.last → resent (reconnect_of s n) ≡ map (λ m. Ok (Some m)) (above n (held_of s))
  pub none : (s : Session) (n : ℕ) → agrees s ≡ true → s.last < n → (reconnect_of s n ≡ refusing s (numbers_of AckAhead)) × (resent (reconnect_of s n) ≡ [])
