-- What a call and a switch answer (02, K4): crc frames as they come, sealed frames from a switch on.
use Rattle.std.specs.Prelude.{◌≡◌, List, [], ◌∷◌, Bool, true, false, not, cond, ◌&&◌, ◌||◌, ℕ, replicate, eqb}
use Rattle.refusal.specs.declared.Refusal.TheVariants as refusal
use Rattle.refusal.specs.Refusals.{contradiction, Judged, fine, refused, judged_by, first_of, unless}
use Rattle.banner.specs.declared.Features.{Features}
use Rattle.banner.specs.Banner.{judge_own, is_msgr21}
use Rattle.stream.specs.declared.Event.{Event}
use Rattle.stream.specs.declared.Event.TheVariants as event
use Rattle.receiver.specs.Report.{Report}
use Rattle.std.specs.Prelude.{Some, None}
use Rattle.receiver.specs.State.{rank}
use Rattle.receiver.specs.State as crc
use Rattle.receiver.specs.Step as crc-step
use Rattle.sealed_receiver.specs.declared.State as sealed-state
use Rattle.sealed_receiver.specs.State as sealed
use Rattle.sealed_receiver.specs.Step as sealed-step
use Rattle.sealed_builder.specs.declared.Sending.{Sending}
use Rattle.sealed_builder.specs.Build.{fresh_sending, refused_sending}
use Rattle.connection.specs.declared.Mode.{Mode}
use Rattle.connection.specs.declared.Mode.TheVariants as mode
use Rattle.connection.specs.declared.State.{State}
use Rattle.connection.specs.declared.Received.{Received}
use Rattle.connection.specs.declared.Switched.{Switched}
use Rattle.connection.specs.declared.Started.{Started}
use Rattle.connection.specs.Switched.{ends_frame}

-- ---- states

abbrev pub is_secure : Mode → Bool
is_secure mode.Crc = false
is_secure mode.Secure = true

-- before a switch the part for sealed frames is not looked at: it has zeros for a key
abbrev pub no_secure : sealed-state.State
no_secure = sealed-step.switched (replicate 16 0) (replicate 12 0)

-- THE STATE OF A START
unfoldable pub begun : Features → State
begun own = record { mode = mode.Crc; ready = false; crc = crc-step.started own; sealed = no_secure }

pub record StartedWith (own : Features) (r : Started) : Type 0 where
  pub state : r.state ≡ begun own
  pub judgement : judged_by r.judgement ≡ judge_own own.supported own.required

-- a frame was just reported or dropped: its byte was the last one taken
abbrev pub report_ends_frame : Report → Bool
report_ends_frame None = false
report_ends_frame (Some e) = ends_frame e

abbrev pub ready_after : Bool → ℕ → Report → Bool
ready_after ready taken r = report_ends_frame r || (ready && eqb taken 0)

-- ---- the rules behind refusal 26: those of the part in use, and a frame that was just reported leaves it before the next preamble. The part that is not in use is not looked at

abbrev pub ready_rule : State → Bool
ready_rule st = cond st.ready (not (is_secure st.mode) && (eqb (rank st.crc.position.stage) 4 && eqb st.crc.position.got 0)) true

abbrev pub agrees_in_use : State → Bool
agrees_in_use st = cond (is_secure st.mode) (sealed.agrees st.sealed) (crc.agrees st.crc)

unfoldable pub agrees : State → Bool
agrees st = ready_rule st && agrees_in_use st

-- ---- a call

pub record Answer : Type 0 where
  pub received : Received
  pub store : List ℕ

abbrev pub answered : State → ℕ → Report → List ℕ → Answer
answered st taken r s = record { received = record { state = st; taken = taken; report = r }; store = s }

-- what the receiver of crc frames, or that of sealed ones, answers
abbrev pub by_crc : State → crc-step.Answer → Answer
by_crc st a =
    answered
    (record { mode = st.mode; ready = ready_after st.ready a.received.taken a.received.report; crc = a.received.state; sealed = st.sealed })
    a.received.taken a.received.report a.store

abbrev pub by_secure : State → sealed-step.Answer → Answer
by_secure st a =
    answered (record { mode = st.mode; ready = st.ready; crc = st.crc; sealed = a.received.state }) a.received.taken a.received.report a.store

abbrev pub by_mode : State → List ℕ → List ℕ → Answer
by_mode st s piece = cond (is_secure st.mode) (by_secure st (sealed-step.answer st.sealed s piece)) (by_crc st (crc-step.answer st.crc s piece))

unfoldable pub answer : State → List ℕ → List ℕ → Answer
answer st s piece = cond (ready_rule st) (by_mode st s piece) (answered st 0 (Some (event.Refused contradiction)) s)

-- a call that answers so
pub record Gave (a : Answer) (r : Received) (s' : List ℕ) : Type 0 where
  pub received : r ≡ a.received
  pub store : s' ≡ a.store

-- THE PROMISE OF A CALL
pub record Answered (st : State) (s piece : List ℕ) (r : Received) (s' : List ℕ) : Type 0 where
  pub received : r ≡ (answer st s piece).received
  pub store : s' ≡ (answer st s piece).store

-- ---- a switch

-- behind a reported or dropped frame of a msgr2.1 stream, before any byte of the next
abbrev pub may_be_switched : State → Bool
may_be_switched st = st.ready && is_msgr21 st.crc.known.revision

-- THE ORDER: 26, 27
unfoldable pub judge_switch : State → Judged
judge_switch st = first_of (unless (agrees st) refusal.StateContradicts ∷ unless (may_be_switched st) refusal.SwitchRefused ∷ [])

-- one key, and a nonce for each direction
abbrev pub switched_state : Judged → State → List ℕ → List ℕ → State
switched_state fine st key nonce = record { mode = mode.Secure; ready = false; crc = st.crc; sealed = sealed-step.switched key nonce }
switched_state (refused n) st key nonce = st

abbrev pub switched_sending : Judged → List ℕ → List ℕ → Sending
switched_sending fine key nonce = fresh_sending key nonce
switched_sending (refused n) key nonce = refused_sending

-- THE PROMISE OF A SWITCH: refused, it changes nothing
pub record SwitchedWith (st : State) (key receiving sending : List ℕ) (r : Switched) : Type 0 where
  pub judgement : judged_by r.judgement ≡ judge_switch st
  pub state : r.state ≡ switched_state (judge_switch st) st key receiving
  pub sends : r.sending ≡ switched_sending (judge_switch st) key sending
