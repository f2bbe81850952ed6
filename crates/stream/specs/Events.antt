-- Events by their kind, and by their role in the stream.
use Rattle.std.specs.Prelude.{Bool, true, false, ℕ, eqb}
use Rattle.refusal.specs.declared.Numbers.{Numbers}
use Rattle.refusal.specs.Refusals.{Judged, fine, refused, by_judgement}
use Rattle.banner.specs.declared.Features.{Features}
use Rattle.banner.specs.declared.Revision.{Revision}
use Rattle.preamble.specs.declared.Header.{Header}
use Rattle.stream.specs.declared.Event.{Event}
use Rattle.stream.specs.declared.Event.TheVariants.{Banner, First, Frame, Dropped, Refused}

-- the number of a kind, as C has it: what is asked of kinds is a formula over it
abbrev pub kind_of : Event → ℕ
kind_of (Banner p r) = 1
kind_of (First h) = 5
kind_of (Frame h) = 2
kind_of (Dropped h) = 3
kind_of (Refused n) = 4

abbrev pub is_banner : Event → Bool
is_banner e = eqb (kind_of e) 1

abbrev pub is_first : Event → Bool
is_first e = eqb (kind_of e) 5

abbrev pub is_frame : Event → Bool
is_frame e = eqb (kind_of e) 2

abbrev pub is_drop : Event → Bool
is_drop e = eqb (kind_of e) 3

abbrev pub is_refusal : Event → Bool
is_refusal e = eqb (kind_of e) 4

-- ---- roles: where several events are treated alike, their role is asked for

-- what ends at an event's byte: the banner; segment 1, within its frame (02, K1); a frame, whole or dropped; and with a refusal the stream (01)
pub data Role : Type 0 where
  banner_end : Features → Revision → Role
  first_end : Header → Role
  frame_end : Header → Role
  stream_end : Numbers → Role

abbrev pub role_of : Event → Role
role_of (Banner p r) = banner_end p r
role_of (First h) = first_end h
role_of (Frame h) = frame_end h
role_of (Dropped h) = frame_end h
role_of (Refused n) = stream_end n

abbrev pub is_frame_end : Role → Bool
is_frame_end (banner_end p r) = false
is_frame_end (first_end h) = false
is_frame_end (frame_end h) = true
is_frame_end (stream_end n) = false

-- a frame or a drop
abbrev pub ends_frame : Event → Bool
ends_frame e = is_frame_end (role_of e)

-- a number of the frame that ends, and 0 where none does
abbrev pub of_frame_end : (Header → ℕ) → Role → ℕ
of_frame_end f (banner_end p r) = 0
of_frame_end f (first_end h) = 0
of_frame_end f (frame_end h) = f h
of_frame_end f (stream_end n) = 0

-- all but a refusal are passed
abbrev pub judge_role : Role → Judged
judge_role (banner_end p r) = fine
judge_role (first_end h) = fine
judge_role (frame_end h) = fine
judge_role (stream_end n) = refused n

abbrev pub judge_event : Event → Judged
judge_event e = judge_role (role_of e)

-- behind an event that is passed, what the later ones give; behind a refusal, what the refusal gives
module _ {ℓ} {A : Type ℓ} where
  abbrev pub passing : Event → A → (Numbers → A) → A
  passing e a f = by_judgement (judge_event e) a f
