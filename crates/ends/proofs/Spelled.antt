-- One frame, one spelling: the bytes of a frame that is read are those that its fields and segments are written as.
use Prim.Native.Nat.{ℕ, suc, ◌+◌}
use mathlib.Core.List.{List, [], ◌∷◌}
use mathlib.Core.Path.{◌≡◌, sym, ap, ap₂, ◌∙◌}
use mathlib.Core.Bool.{true, false}
use native.Mathlib.Omega.{arith}
use lib.ListN.{length, take, drop}
use lib.Seq.{take_at}
use Rattle.buffer.specs.Splice.{replace_front}
use Rattle.banner.specs.declared.Revision.{Revision}
use Rattle.preamble.specs.declared.Header.{Header}
use Rattle.preamble.specs.Layout.{total}
use Rattle.body.specs.Body.{wire_length, frame_bytes}
use Rattle.body.specs.End.{whole, segment_bytes}
use Rattle.body.proofs.Ends.{length-segments}
use Rattle.stream.specs.declared.Event.{Event}
use Rattle.stream.specs.declared.Event.TheVariants.{Frame}
use Rattle.stream.specs.Stream.{Entry, entry, frames}
use Rattle.ends.specs.Handed.{header_in, zero_nibble, is_frame, first_is, after_early_report}
use Rattle.ends.specs.Spelling.{ReadAs, OneSpelling}
use Rattle.ends.proofs.Locality.{Judges}
use Rattle.ends.proofs.Checks.{checks}
use Rattle.ends.proofs.Written.{spelled_so}
use Rattle.ends.proofs.Handover.{exactly}

-- ---- the first of some entries

abbrev event_at : Event → List Entry → Event
event_at d [] = d
event_at d (e ∷ es) = e.event

abbrev place_at : List Entry → ℕ
place_at [] = 0
place_at (e ∷ es) = e.at

abbrev store_at : List Entry → List ℕ
store_at [] = []
store_at (e ∷ es) = e.store

-- ---- what is read

record Read (r : Revision) (h : Header) (p X : List ℕ) : Type 0 where
  judged : (n : ℕ) × Judges whole r X n
  header : header_in X ≡ h
  long : length X ≡ wire_length r (header_in X)
  segments : segment_bytes r (header_in X) (drop 32 X) ≡ p

read_as : (r : Revision) (h : Header) (p X : List ℕ) → ReadAs r h p X → Read r h p X
read_as r h p X a =
    let P = a.at in
    let s = a.store in
    let k = header_in X in
    let q : List ℕ = segment_bytes r k (drop 32 X) in
    let f : first_is is_frame (after_early_report (frames (suc (length X)) r P X s).entries) ≡ true = ap (first_is is_frame) a.entries in
    let x = exactly (length X) r P X s in
    let j : Judges whole r X (length s) = (checks X (length s) r false).1 (x.handed.0 f) in
    let later = (x.frames f).0 in
    let e : entry (Frame k) (P + wire_length r k) (replace_front q s) ∷ later ≡ entry (Frame h) (P + length X) (replace_front p s) ∷ [] = sym (x.frames f).1 ∙ a.entries in
    let ev : Frame k ≡ Frame h = ap (event_at (Frame h)) e in
    let hd : k ≡ h = cc in
    let at : P + wire_length r k ≡ P + length X = ap place_at e in
    let st : replace_front q s ≡ replace_front p s = ap store_at e in
    let lq : length q ≡ total h = length-segments r k (drop 32 X) [] j.long ∙ ap total hd in
    record {
      judged = (length s, j);
      header = hd;
      long = omega arith;
      segments = sym (take_at q (drop (length q) s) (total h) lq) ∙ ap (take (total h)) st ∙ take_at p (drop (length p) s) (total h) a.segments;
    }

-- ---- its bytes

spelling : (r : Revision) (h : Header) (p X : List ℕ) → ReadAs r h p X → zero_nibble r h X ≡ true → X ≡ frame_bytes r h false p
spelling r h p X a z =
    let q = read_as r h p X a in
    spelled_so r X q.judged.0 a.bytes q.judged.1 q.long (rw q.header z)
    ∙ ap₂ (λ (k : Header) (t : List ℕ). frame_bytes r k false t) q.header q.segments

pub one_spelling : OneSpelling
one_spelling = record {
  spelling = spelling;
  same = λ r h p X Y a b y z. spelling r h p X a y ∙ sym (spelling r h p Y b z);
}
