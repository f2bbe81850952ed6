-- Demand 2, the round trip: a frame that the builder accepts comes back from the receiver, however the stream is cut and whatever follows it.
use Rattle.std.specs.Prelude.{Ok, ◌≡◌, List, [], ◌∷◌, ◌++◌, Bool, cond, ℕ, ◌+◌, ◌-◌, ◌≤◌, length, take, drop}
use Rattle.buffer.specs.Le.{Bytes}
use Rattle.buffer.specs.Splice.{replace_front}
use Rattle.banner.specs.declared.Features.{Features}
use Rattle.banner.specs.declared.Revision.{Revision}
use Rattle.banner.specs.Banner.{judge_own}
use Rattle.preamble.specs.declared.Header.{Header}
use Rattle.preamble.specs.Layout.{total}
use Rattle.preamble.specs.Reading.{HeaderFits}
use Rattle.body.specs.Body.{wire_length}
use Rattle.builder.specs.Build.{BuiltFrame}
use Rattle.stream.specs.declared.Event.{Event}
use Rattle.stream.specs.declared.Event.TheVariants.{First, Frame, Dropped}
use Rattle.stream.specs.Stream.{Entry, entry, zeroed, first_sum_end, frames, trace_of}
use Rattle.receiver.specs.Step.{started}
use Rattle.receiver.specs.Calls.{Call, Chained, taken_by, list_of}
use Rattle.ends.specs.Handed.{UpTo, is_early}

-- a build: what it was asked for, the bytes that it wrote, and the buffer as it left it
pub record Build : Type 0 where
  pub header : Header
  pub abort : Bool
  pub source : List ℕ
  pub written : ℕ
  pub buffer : List ℕ

-- `build_frame` promised it, and did not refuse; header and source are what their types hold
pub record Accepts (revision : Revision) (buf : List ℕ) (queued : ℕ) (b : Build) : Type 0 where
  pub promised : BuiltFrame revision b.header b.abort b.source buf queued (Ok b.written) b.buffer
  pub header : HeaderFits b.header
  pub source : Bytes b.source

-- the bytes that it wrote, behind the queued ones
abbrev pub bytes_of : ℕ → Build → List ℕ
bytes_of queued b = take b.written (drop queued b.buffer)

-- what comes back, and the store then: the segments at its front, or zeros where the frame was built aborted
abbrev pub event_of : Build → Event
event_of b = cond b.abort (Dropped b.header) (Frame b.header)

abbrev pub store_after : Build → List ℕ → List ℕ
store_after b s = cond b.abort (zeroed b.header s) (replace_front b.source s)

-- before it, segment 1 early, from byte P on
abbrev pub early_entry : Revision → ℕ → List ℕ → Build → List Entry
early_entry revision P s b =
    cond (is_early revision b.header) (entry (First b.header) (first_sum_end P b.header) (replace_front (take b.header.s1.len b.source) s) ∷ []) []

-- all entries of the build
abbrev pub entries_of : Revision → ℕ → List ℕ → Build → List Entry
entries_of revision P s b = early_entry revision P s b ++ (entry (event_of b) (P + wire_length revision b.header) (store_after b s) ∷ [])

-- the definition's entries for what stands behind byte P, where the first t bytes of the stream are taken
abbrev pub following : Revision → ℕ → List ℕ → List ℕ → ℕ → List Entry
following revision P behind s t = (frames (length (take (t - P) behind)) revision P (take (t - P) behind) s).entries

-- behind any front at whose end a frame begins, under the revision that the front's banner chose, with a store long enough and any bytes behind the frame:
-- every list of calls that took the frame's bytes
unfoldable pub RoundTrip : Type 0
RoundTrip =
    (own : Features) (front store : List ℕ) (revision : Revision) → UpTo revision (length front) (trace_of own front store).entries
    → (buf : List ℕ) (queued : ℕ) (b : Build) → Accepts revision buf queued b → total b.header ≤ length store
    → (behind : List ℕ) (cs : List Call) → Chained (front ++ bytes_of queued b ++ behind) (started own) store 0 cs
    → length (front ++ bytes_of queued b) ≤ taken_by 0 cs
    → list_of (judge_own own.supported own.required) cs
    ≡ (trace_of own front store).entries
    ++ (entries_of revision (length front) (trace_of own front store).store b
    ++ following revision (length (front ++ bytes_of queued b)) behind (store_after b (trace_of own front store).store) (taken_by 0 cs))
