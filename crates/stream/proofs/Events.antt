-- Events by what they can be.
use Prim.Native.Nat.{ℕ, ◌+◌, ◌<◌}
use mathlib.Core.Path.{◌≡◌, refl}
use mathlib.Core.Bool.{false, cond}
use mathlib.Core.List.{List, [], ◌∷◌}
use denote.Struct.Field.{Field}
use mir.Val.{has_key}
use Rattle.refusal.specs.declared.Numbers.{Numbers}
use Rattle.refusal.specs.Refusals.{fine}
use Rattle.banner.specs.declared.Features.{Features}
use Rattle.banner.specs.declared.Revision.{Revision}
use Rattle.preamble.specs.declared.Header.{Header}
use Rattle.body.specs.Body.{wire_length}
use Rattle.stream.specs.declared.Event.{Event}
use Rattle.stream.specs.declared.Event.TheVariants.{Banner, First, Frame, Dropped, Refused}
use Rattle.stream.specs.Events.{is_frame, is_drop, is_refusal, Role, banner_end, first_end, frame_end, stream_end, ends_frame, judge_event}
use Rattle.stream.specs.Stream.{Entry}
use Rattle.stream.specs.Adds.{Adds, AddsAt, AddsFirst}
use Rattle.stream.specs.contracts.Event as declared-event

-- the numbers of an enum's variants, from n, without those given: what the last arm of a match is told
abbrev pub others_from : ℕ → List (List Field) → List ℕ → List ℕ
others_from n [] given = []
others_from n (v ∷ vs) given = cond (has_key given n) (others_from (1 + n) vs given) (n ∷ others_from (1 + n) vs given)

-- those of the events
abbrev pub others : List ℕ → List ℕ
others = others_from 0 declared-event.the_parts

-- what holds of an event at which neither a frame nor the stream ends
pub record Between (w : Event) : Type 0 where
  pub passed : judge_event w ≡ fine
  pub within : ends_frame w ≡ false
  pub frame : is_frame w ≡ false
  pub drop : is_drop w ≡ false
  pub refusal : is_refusal w ≡ false

-- THE EVENTS, the one list of them in proofs: a whole frame, a dropped one, a refusal, or any other
pub by_kind : (C : Event → Type 0) → ((h : Header) → C (Frame h)) → ((h : Header) → C (Dropped h)) → ((n : Numbers) → C (Refused n)) → ((w : Event) → Between w → C w)
    → (w : Event) → C w
by_kind C frame drop refusal other (Banner p r) = other (Banner p r) (record { passed = refl; within = refl; frame = refl; drop = refl; refusal = refl })
by_kind C frame drop refusal other (First h) = other (First h) (record { passed = refl; within = refl; frame = refl; drop = refl; refusal = refl })
by_kind C frame drop refusal other (Frame h) = frame h
by_kind C frame drop refusal other (Dropped h) = drop h
by_kind C frame drop refusal other (Refused n) = refusal n

-- an event is passed, or is a refusal
pub by_event : (C : Event → Type 0) → ((w : Event) → judge_event w ≡ fine → C w) → ((n : Numbers) → C (Refused n)) → (w : Event) → C w
by_event C passed refusal = by_kind C (λ h. passed (Frame h) refl) (λ h. passed (Dropped h) refl) refusal (λ w b. passed w b.passed)

-- it is a whole frame, or none
pub by_frame : (C : Event → Type 0) → ((h : Header) → C (Frame h)) → ((w : Event) → is_frame w ≡ false → C w) → (w : Event) → C w
by_frame C frame other = by_kind C frame (λ h. other (Dropped h) refl) (λ n. other (Refused n) refl) (λ w b. other w b.frame)

-- ---- events that add up, by their role

-- behind the banner: an early report, the end of a frame, or a refusal
pub by_adds : (C : Role → Type 0) (r : Revision) (P at : ℕ) (later : ℕ → Type 0) → ((h : Header) → later P → C (first_end h))
    → ((h : Header) → at ≡ P + wire_length r h → later at → C (frame_end h)) → ((n : Numbers) → P < at → C (stream_end n))
    → (e : Role) → AddsAt r P e at later → C e
by_adds C r P at later first frame refusal (banner_end p v) a = absurd a
by_adds C r P at later first frame refusal (first_end h) a = first h a.1
by_adds C r P at later first frame refusal (frame_end h) a = frame h a.0 a.1
by_adds C r P at later first frame refusal (stream_end n) a = refusal n a

-- at the front: a banner, or a refusal
pub by_front : (C : Role → Type 0) (at : ℕ) (es : List Entry) → ((p : Features) (r : Revision) → Adds r at es → C (banner_end p r)) → ((n : Numbers) → C (stream_end n))
    → (e : Role) → AddsFirst e at es → C e
by_front C at es banner refusal (banner_end p r) a = banner p r a
by_front C at es banner refusal (first_end h) a = absurd a
by_front C at es banner refusal (frame_end h) a = absurd a
by_front C at es banner refusal (stream_end n) a = refusal n
