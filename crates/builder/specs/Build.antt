-- What a build answers and what it leaves in the send buffer (01, "The pieces of the job", refusals 6, 8, 9, 13 to 16 and their order).
use Rattle.std.specs.Prelude.{◌≡◌, Result, List, [], ◌∷◌, Bool, not, ◌&&◌, ℕ, ◌+◌, length, leb, eqb}
use Rattle.buffer.specs.Splice.{splice}
use Rattle.refusal.specs.declared.Refusal.TheVariants as refusal
use Rattle.refusal.specs.Refusals.{Judged, fine, refused, first_of, unless}
use Rattle.banner.specs.declared.Revision.{Revision}
use Rattle.banner.specs.declared.Revision.TheVariants.{Msgr20, Msgr21}
use Rattle.banner.specs.Banner.{banner_bytes, judge_own}
use Rattle.preamble.specs.declared.Header.{Header}
use Rattle.preamble.specs.Layout.{total}
use Rattle.preamble.specs.Judge.{judge_header}
use Rattle.body.specs.Body.{frame_bytes, wire_length}
use Rattle.refusal.specs.declared.Refusal.{Refusal}
use Rattle.refusal.specs.Writes.{wrote, refused_for, Done, done, outcome_of}

-- the source has the bytes of all segments
abbrev pub judge_source : ℕ → ℕ → Judged
judge_source source t = unless (eqb source t) refusal.SourceLength

-- a one-segment msgr2.1 frame has no late byte to say it in
abbrev pub judge_abort : Revision → ℕ → Bool → Judged
judge_abort Msgr20 count abort = fine
judge_abort Msgr21 count abort = unless (not (abort && eqb count 1)) refusal.AbortOneSegment

-- n bytes have room behind the queued ones
abbrev pub judge_room : ℕ → ℕ → ℕ → Judged
judge_room n space queued = unless (leb (queued + n) space) (refusal.NoRoom n)

-- THE ORDER for a frame: 6, 8, 9 of its header, then 13, 15, 14
unfoldable pub judge_frame : Revision → Header → Bool → ℕ → ℕ → ℕ → Judged
judge_frame revision h abort source space queued =
    first_of
    (judge_header h
    ∷ judge_source source (total h)
    ∷ judge_abort revision h.count abort
    ∷ judge_room (wire_length revision h) space queued
    ∷ [])

-- the magic and the payload's length, and the two numbers of features
abbrev pub banner_length : ℕ
banner_length = 10 + 16

-- THE ORDER for a banner: 16, 14
unfoldable pub judge_banner : ℕ → ℕ → ℕ → ℕ → Judged
judge_banner supported required space queued = first_of (judge_own supported required ∷ judge_room banner_length space queued ∷ [])

-- a refused build changes nothing; another one puts its bytes behind the queued ones
abbrev pub outcome : Judged → ℕ → List ℕ → ℕ → List ℕ → Done
outcome fine n buf queued bytes = done (wrote n) (splice buf queued bytes)
outcome (refused r) n buf queued bytes = done (refused_for r) buf

-- WHAT BUILDING A FRAME COMES TO
unfoldable pub frame_done : Revision → Header → Bool → List ℕ → List ℕ → ℕ → Done
frame_done revision h abort source buf queued =
    outcome (judge_frame revision h abort (length source) (length buf) queued) (wire_length revision h) buf queued (frame_bytes revision h abort source)

-- WHAT BUILDING OUR BANNER COMES TO
unfoldable pub banner_done : ℕ → ℕ → List ℕ → ℕ → Done
banner_done supported required buf queued =
    outcome (judge_banner supported required (length buf) queued) banner_length buf queued (banner_bytes supported required)

-- THE PROMISES of the two builders: a buffer buf with so many bytes queued, the answer, and the buffer then
pub record BuiltFrame (revision : Revision) (h : Header) (abort : Bool) (source buf : List ℕ) (queued : ℕ) (answer : Result ℕ Refusal) (after : List ℕ) : Type 0 where
  pub promise : done (outcome_of answer) after ≡ frame_done revision h abort source buf queued

pub record BuiltBanner (supported required : ℕ) (buf : List ℕ) (queued : ℕ) (answer : Result ℕ Refusal) (after : List ℕ) : Type 0 where
  pub promise : done (outcome_of answer) after ≡ banner_done supported required buf queued
