-- Every history of calls: one claim about every list of calls from a fresh session, each given the session that the last one handed back.
use Rattle.std.specs.Prelude.{Result, Ok, Err, ◌≡◌, List, [], ◌∷◌, ◌++◌, Bool, true, false, cond, ℕ, zero, suc, ◌+◌, ◌≤◌, max, length, leb, ltb}
use Rattle.refusal.specs.declared.Numbers.{Numbers}
use Rattle.refusal.specs.declared.Refusal.TheVariants as refusal
use Rattle.refusal.specs.Refusals.{Judged, unless, first_of, by_judgement}
use Rattle.session.specs.declared.Session.{Session}
use Rattle.session.specs.declared.Message.{Message}
use Rattle.session.specs.declared.Answer.{Answer}
use Rattle.session.specs.declared.Answer.TheVariants as answer
use Rattle.session.specs.declared.Outcome.{Outcome}
use Rattle.session.specs.Calls.{places, final_number, held_of, agrees, fresh_session}
use Rattle.session.specs.Laws.{Call, accept, ack, reconnect, reset, call_of, Event, accepted, acknowledged, dropped, nothing, event_of}

-- ---- histories

-- a call and what it answered
pub record Entry : Type 0 where
  pub call : Call
  pub outcome : Outcome

-- each call met its promise, from the session that the last one handed back
abbrev pub Chained : Session → List Entry → Type 0
Chained s [] = Unit {0}
Chained s (e ∷ es) = (e.outcome ≡ call_of s e.call) × Chained e.outcome.session es

abbrev pub session_by : Session → List Entry → Session
session_by s [] = s
session_by s (e ∷ es) = session_by e.outcome.session es

-- what it says of the messages, by the calls and their answers alone
abbrev pub event_by : Entry → Event
event_by e = event_of e.call e.outcome.answer

abbrev pub events_of : List Entry → List Event
events_of [] = []
events_of (e ∷ es) = event_by e ∷ events_of es

-- ---- what became of each message, by the events alone

pub data Fate : Type 0 where
  is_acknowledged : Fate
  is_dropped : Fate
  is_held : Fate

-- of the message with the number m, by the events after it was accepted: the first ack that covers it, or the first full reset
unfoldable pub fate_of : ℕ → List Event → Fate
fate_of m [] = is_held
fate_of m (accepted x ∷ es) = fate_of m es
fate_of m (acknowledged n ∷ es) = cond (leb m n) is_acknowledged (fate_of m es)
fate_of m (dropped ∷ es) = is_dropped
fate_of m (nothing ∷ es) = fate_of m es

abbrev pub same : Fate → Fate → Bool
same is_acknowledged is_acknowledged = true
same is_acknowledged is_dropped = false
same is_acknowledged is_held = false
same is_dropped is_acknowledged = false
same is_dropped is_dropped = true
same is_dropped is_held = false
same is_held is_acknowledged = false
same is_held is_dropped = false
same is_held is_held = true

-- the messages accepted, and those of them with a fate, in the order in which they were accepted
unfoldable pub accepted_in : List Event → List Message
accepted_in [] = []
accepted_in (accepted x ∷ es) = x ∷ accepted_in es
accepted_in (acknowledged n ∷ es) = accepted_in es
accepted_in (dropped ∷ es) = accepted_in es
accepted_in (nothing ∷ es) = accepted_in es

unfoldable pub with_fate : Fate → List Event → List Message
with_fate f [] = []
with_fate f (accepted x ∷ es) = cond (same f (fate_of x.number es)) (x ∷ with_fate f es) (with_fate f es)
with_fate f (acknowledged n ∷ es) = with_fate f es
with_fate f (dropped ∷ es) = with_fate f es
with_fate f (nothing ∷ es) = with_fate f es

-- the highest number acknowledged
unfoldable pub highest : List Event → ℕ
highest [] = 0
highest (accepted x ∷ es) = highest es
highest (acknowledged n ∷ es) = max n (highest es)
highest (dropped ∷ es) = highest es
highest (nothing ∷ es) = highest es

-- ---- the answer that is due, by the events before the call

abbrev pub due_by : Judged → Result Answer Numbers → Result Answer Numbers
due_by j r = by_judgement j r Err

abbrev pub due : List Event → Call → Result Answer Numbers
due past (accept h) =
    due_by (first_of (unless (ltb (length (accepted_in past)) final_number) refusal.NumbersSpent ∷ unless (ltb (length (with_fate is_held past)) places) refusal.TableFull ∷ []))
    (Ok (answer.Accepted (length (accepted_in past) + 1)))
due past (ack n) = due_by (unless (leb n (length (accepted_in past))) refusal.AckAhead) (Ok answer.Done)
due past (reconnect n) =
    due_by (unless (leb n (length (accepted_in past))) refusal.AckAhead)
    (Ok (answer.Resend (length (with_fate is_held (past ++ (acknowledged n ∷ []))))))
due past (reset full) = Ok answer.Done

-- from the session s, after those events
abbrev pub Each : List Event → Session → List Entry → Type 0
Each past s [] = Unit {0}
Each past s (e ∷ es) =
    (e.outcome.answer ≡ due past e.call)
    -- an ack at or below the highest one before it changes nothing
    × ((n : ℕ) → event_by e ≡ acknowledged n → n ≤ highest past → e.outcome.session ≡ s)
    × Each (past ++ (event_by e ∷ [])) e.outcome.session es

-- ---- numbers

abbrev pub numbers : List Message → List ℕ
numbers [] = []
numbers (m ∷ ms) = m.number ∷ numbers ms

-- k numbers from n on
unfoldable pub count_up : ℕ → ℕ → List ℕ
count_up n zero = []
count_up n (suc k) = n ∷ count_up (n + 1) k

abbrev pub NotAmong : ℕ → List ℕ → Type 0
NotAmong n [] = Unit {0}
NotAmong n (m ∷ ms) = (n ≡ m → ⊥) × NotAmong n ms

abbrev pub AllDifferent : List ℕ → Type 0
AllDifferent [] = Unit {0}
AllDifferent (n ∷ ns) = NotAmong n ns × AllDifferent ns

-- THE CLAIM, of the calls es on a fresh session
pub record Accounted (es : List Entry) : Type 0 where
  -- each answer is the one that is due
  pub each : Each [] fresh_session es
  -- numbers start at 1 and go up by one; none is given twice
  pub counted : numbers (accepted_in (events_of es)) ≡ count_up 1 (length (accepted_in (events_of es)))
  pub once : AllDifferent (numbers (accepted_in (events_of es)))
  -- held are the messages that were neither acknowledged nor dropped, in order, each with its handle
  pub holds : held_of (session_by fresh_session es) ≡ with_fate is_held (events_of es)
  -- accepted is acknowledged, held and dropped
  pub adds :
      length (accepted_in (events_of es))
      ≡ length (with_fate is_acknowledged (events_of es)) + length (held_of (session_by fresh_session es)) + length (with_fate is_dropped (events_of es))
  -- no call gave 26
  pub agreeing : agrees (session_by fresh_session es) ≡ true

unfoldable pub EveryHistory : Type 0
EveryHistory = (es : List Entry) → Chained fresh_session es → Accounted es
