-- Crc frames one behind the other.
use Prim.Native.Nat.{ℕ, ◌+◌, ◌≤◌}
use mathlib.Core.List.{List, [], ◌∷◌, ◌++◌}
use mathlib.Core.Path.{◌≡◌, refl, ◌∙◌}
use mathlib.Core.Bool.{Bool, true, false, cond}
use native.Mathlib.Omega.{arith}
use lib.ListN.{length, take, drop, replicate, length-drop, length-replicate}
use Rattle.buffer.specs.Splice.{replace_front}
use Rattle.buffer.proofs.Parts.{length-replace_front}
use Rattle.refusal.specs.Refusals.{Judged, fine, refused}
use Rattle.banner.specs.declared.Revision.{Revision}
use Rattle.preamble.specs.declared.Header.{Header}
use Rattle.preamble.specs.Layout.{total}
use Rattle.preamble.proofs.Laws.{accepted-preamble, store-fits}
use Rattle.body.specs.Body.{wire_length}
use Rattle.body.specs.End.{segment_bytes}
use Rattle.stream.specs.declared.Event.{Event}
use Rattle.stream.specs.declared.Event.TheVariants.{First, Frame, Dropped}
use Rattle.stream.specs.Events.{ends_frame}
use Rattle.stream.specs.Stream.{Entry, entry, Trace, reported_first, zeroed, first_sum_end, at_end, frames}
use Rattle.stream.proofs.Laws.{none}
use Rattle.ends.specs.Handed.{header_in, is_early, FramesUpTo}
use Rattle.body.proofs.Ends.{length-segments}
use Rattle.ends.proofs.Locality.{ends_as, stopped, behind_early, frame-trace-more, Seen, stops, ends, seen}
use Rattle.ends.proofs.FrameReader as reader
use Rattle.ends.proofs.FrameReader.{behind, AtFront, FrameReader}

-- ---- the end of a frame, whole or aborted

abbrev pub event_as : Bool → Header → Event
event_as abort h = cond abort (Dropped h) (Frame h)

abbrev pub store_as : Bool → Header → List ℕ → List ℕ → List ℕ
store_as abort h p s = cond abort (zeroed h s) (replace_front p s)

pub kept-length : (abort : Bool) (h : Header) (p s : List ℕ) → length p ≡ total h → total h ≤ length s → length (store_as abort h p s) ≡ length s
kept-length true h p s e l = (let z = length-replicate {A = ℕ} (total h) 0 in length-replace_front (replicate (total h) 0) s (omega arith))
kept-length false h p s e l = length-replace_front p s (omega arith)

-- segment 1's early report, where c says that there is one, and the frame's
abbrev pub early_as : Bool → Header → ℕ → List ℕ → List ℕ → List Entry
early_as c h P first s = cond c (entry (First h) (first_sum_end P h) (replace_front first s) ∷ []) []

abbrev pub entries_as : Bool → Bool → Header → ℕ → ℕ → List ℕ → List ℕ → List ℕ → List Entry
entries_as c abort h P Q first p s = early_as c h P first s ++ (entry (event_as abort h) Q (store_as abort h p s) ∷ [])

early-up : (c : Bool) (n P : ℕ) (X s : List ℕ) (t : Trace) → FramesUpTo n P (behind_early c P X s t).entries → FramesUpTo n P t.entries
early-up true n P X s t u = u
early-up false n P X s t u = u

module _ (h : Header) (P Q : ℕ) (first p s : List ℕ) where
  pub at-ends : (c abort : Bool) (next : List ℕ → Trace)
      → reported_first c h (first_sum_end P h) (replace_front first s) (at_end (ends_as abort) h Q s p next) ≡ behind (entries_as c abort h P Q first p s) (next (store_as abort h p s))
  at-ends true true next = refl
  at-ends true false next = refl
  at-ends false true next = refl
  at-ends false false next = refl

  up_as : (c abort : Bool) (n : ℕ) (fs : List Entry) → FramesUpTo n P (entries_as c abort h P Q first p s ++ fs) → FramesUpTo n Q fs
  up_as true true n fs u = u
  up_as true false n fs u = u
  up_as false true n fs u = u
  up_as false false n fs u = u

pub frame_as : (abort : Bool) (h : Header) → ends_frame (event_as abort h) ≡ true
frame_as true h = refl
frame_as false h = refl

-- ---- they are read one at a time

pub stopped-up : (j : Judged) (at n P : ℕ) (t : List ℕ) → FramesUpTo n P (stopped j at t).entries → P ≡ n
stopped-up fine at n P t u = u
stopped-up (refused m) at n P t u = absurd u

pub next : (r : Revision) (P : ℕ) (X s : List ℕ) → Seen r P X s → AtFront frames (λ c es. c) r P X s
next r P X s (stops c j at t _ e) = reader.stops (behind_early c P X s (stopped j at t)) (λ n u. stopped-up j at n P t (early-up c n P X s (stopped j at t) u)) e
next r P X s (ends abort j) =
    let h : Header = header_in X in
    let p : List ℕ = segment_bytes r h (drop 32 X) in
    let d₁ = length-drop 32 X in
    let d₂ = length-drop (wire_length r h) X in
    let l₁ = j.front in
    let l₂ = j.long in
    reader.one-frame (early_as (is_early r h) h P (take h.s1.len (drop 32 X)) s) (event_as abort h) r (P + wire_length r h) (drop (wire_length r h) X) (store_as abort h p s) (record {
      gives = λ f Y. frame-trace-more f P X Y s j ∙ at-ends h P (P + wire_length r h) (take h.s1.len (drop 32 X)) p s (is_early r h) abort _;
      frame = frame_as abort h;
      up = up_as h P (P + wire_length r h) (take h.s1.len (drop 32 X)) p s (is_early r h) abort;
      place = omega arith;
      less = omega arith;
      kept = kept-length abort h p s (length-segments r h (drop 32 X) [] j.long) (store-fits (accepted-preamble (take 32 X) (length s) j.accepted).store);
      state = λ fs. refl;
    })

abbrev pub crc_reader : FrameReader Revision
crc_reader = record { frames = frames; later = λ r es. r; none = none; start = λ r. refl; next = λ r P X s. next r P X s (seen r P X s) }
