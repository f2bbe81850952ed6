-- A session, what it holds, and what each call answers.
use Rattle.std.specs.Prelude.{Result, Ok, Err, Option, Some, None, List, [], ◌∷◌, Bool, cond, ◌&&◌, ℕ, zero, suc, ◌+◌, ◌-◌, ◌%◌, length, get_or, set, replicate, leb, ltb}
use Rattle.refusal.specs.declared.Numbers.{Numbers}
use Rattle.refusal.specs.declared.Refusal.TheVariants as refusal
use Rattle.refusal.specs.Refusals.{Judged, unless, first_of, by_judgement}
use Rattle.session.specs.declared.Session.{Session}
use Rattle.session.specs.declared.Message.{Message}
use Rattle.session.specs.declared.Answer.{Answer}
use Rattle.session.specs.declared.Answer.TheVariants as answer
use Rattle.session.specs.declared.Outcome.{Outcome}

-- so many messages are held at most
abbrev pub places : ℕ
places = 64

-- the last number of the 64-bit range
abbrev pub final_number : ℕ
final_number = 0xFFFF_FFFF_FFFF_FFFF

-- ---- what a session holds

abbrev pub message : ℕ → ℕ → Message
message n h = record { number = n; handle = h }

abbrev pub message_at : List ℕ → ℕ → Message
message_at hs n = message n (get_or hs (n % places) 0)

-- the messages of the k numbers above n
unfoldable pub held_from : List ℕ → ℕ → ℕ → List Message
held_from hs n zero = []
held_from hs n (suc k) = message_at hs (n + 1) ∷ held_from hs (n + 1) k

-- THE MESSAGES HELD, oldest first
abbrev pub held_of : Session → List Message
held_of s = held_from s.handles s.released (s.last - s.released)

-- the rule behind refusal 26 (docs/STATE.md says it in words)
unfoldable pub agrees : Session → Bool
agrees s = leb s.released s.last && leb (s.last - s.released) places

abbrev pub fresh_session : Session
fresh_session = record { handles = replicate places 0; released = 0; last = 0 }

-- ---- what is turned away, in order

unfoldable pub judge_state : Session → Judged
judge_state s = unless (agrees s) refusal.StateContradicts

unfoldable pub judge_accept : Session → Judged
judge_accept s = first_of (judge_state s ∷ unless (ltb s.last final_number) refusal.NumbersSpent ∷ unless (ltb (length (held_of s)) places) refusal.TableFull ∷ [])

unfoldable pub judge_ack : Session → ℕ → Judged
judge_ack s n = first_of (judge_state s ∷ unless (leb n s.last) refusal.AckAhead ∷ [])

-- ---- sessions that follow from one another

-- one more message
abbrev pub adding : Session → ℕ → ℕ → Session
adding s n h = record { handles = set s.handles (n % places) h; released = s.released; last = n }

-- no number up to n is held any more
abbrev pub releasing : Session → ℕ → Session
releasing s n = record { handles = s.handles; released = n; last = s.last }

-- nor after an ack of n; one at or below an earlier one changes nothing
abbrev pub acked : Session → ℕ → Session
acked s n = cond (leb n s.released) s (releasing s n)

-- a full reset drops what is held, another keeps it
abbrev pub cleared : Session → Bool → Session
cleared s full = cond full (releasing s s.last) s

-- ---- THE ANSWERS OF THE CALLS

abbrev pub outcome : Session → Result Answer Numbers → Outcome
outcome s r = record { session = s; answer = r }

-- a refusal hands the session back as it was
abbrev pub refusing : Session → Numbers → Outcome
refusing s n = outcome s (Err n)

unfoldable pub accept_of : Session → ℕ → Outcome
accept_of s h = by_judgement (judge_accept s) (outcome (adding s (s.last + 1) h) (Ok (answer.Accepted (s.last + 1)))) (refusing s)

unfoldable pub ack_of : Session → ℕ → Outcome
ack_of s n = by_judgement (judge_ack s n) (outcome (acked s n) (Ok answer.Done)) (refusing s)

-- reconnect_ok with the msg_seq n
unfoldable pub reconnect_of : Session → ℕ → Outcome
reconnect_of s n = by_judgement (judge_ack s n) (outcome (acked s n) (Ok (answer.Resend (length (held_of (acked s n)))))) (refusing s)

unfoldable pub reset_of : Session → Bool → Outcome
reset_of s full = by_judgement (judge_state s) (outcome (cleared s full) (Ok answer.Done)) (refusing s)

-- the message at a place of a list
unfoldable pub found : List Message → ℕ → Option Message
found [] i = None
found (m ∷ ms) zero = Some m
found (m ∷ ms) (suc i) = found ms i

unfoldable pub held_at : Session → ℕ → Result (Option Message) Numbers
held_at s i = by_judgement (judge_state s) (Ok (found (held_of s) i)) Err
