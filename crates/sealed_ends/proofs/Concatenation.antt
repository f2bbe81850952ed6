-- Sealed frames one behind the other.
use mathlib.Core.Path.{◌≡◌, refl, ap, ◌∙◌}
use mathlib.Core.Bool.{Bool, true, false, cond}
use mathlib.Core.List.{List, [], ◌∷◌, ◌++◌}
use Prim.Native.Nat.{ℕ, ◌+◌, ◌-◌, ◌≤◌}
use native.Mathlib.Nat.{add-zero}
use native.Mathlib.Omega.{arith}
use lib.ListN.{length, drop, replicate, length-append, length-drop, length-replicate}
use Rattle.buffer.proofs.Parts.{length-replace_front}
use Rattle.preamble.specs.declared.Header.{Header}
use Rattle.refusal.proofs.Booleans.{at_cond}
use Rattle.stream.specs.declared.Event.{Event}
use Rattle.stream.specs.Stream.{Entry, entry, Trace}
use Rattle.aes.specs.Aes.{State}
use Rattle.secure.specs.Layout.{nonce_after, sealed_length, part_count, needed}
use Rattle.secure.specs.Reading.{zeroed, holding, at_end, frames}
use Rattle.secure.proofs.Runs.{after-add}
use Rattle.secure.proofs.Opening.{none}
use Rattle.secure.proofs.Bounds.{least}
use Rattle.secure.proofs.Parts.{first-length}
use Rattle.ends.specs.Handed.{FramesUpTo}
use Rattle.ends.proofs.Locality.{ends_as, stopped}
use Rattle.ends.proofs.FrameReader as reader
use Rattle.ends.proofs.FrameReader.{behind, AtFront, FrameReader}
use Rattle.ends.proofs.Concatenation.{event_as, frame_as, stopped-up}
use Rattle.sealed_ends.specs.Fronts.{parts_in}
use Rattle.sealed_ends.specs.Handed.{first_in, second_in, last_in, header_in, segments_in}
use Rattle.sealed_ends.proofs.Judging.{fits, segments-short, frame-trace-more}
use Rattle.sealed_ends.proofs.Locality.{Seen, stops, ends, seen}

-- ---- the end of a frame, whole or aborted

abbrev pub sealed_store_as : Bool → Header → List ℕ → List ℕ → List ℕ
sealed_store_as abort h p s = cond abort (zeroed h s) (holding h p s)

pub kept-length : (abort : Bool) (h : Header) (p s : List ℕ) → length p ≤ needed h → needed h ≤ length s → length (sealed_store_as abort h p s) ≡ length s
kept-length true h p s e l = (let z = length-replicate {A = ℕ} (needed h) 0 in length-replace_front (replicate (needed h) 0) s (omega arith))
kept-length false h p s e l =
    let zs : List ℕ = replicate (needed h - length p) 0 in
    length-replace_front (p ++ zs) s (omega (arith, length-append p zs, length-replicate {A = ℕ} (needed h - length p) 0))

at-ends : (abort : Bool) (h : Header) (Q : ℕ) (p s : List ℕ) (next : List ℕ → Trace)
    → at_end (ends_as abort) h Q p s next ≡ behind (entry (event_as abort h) Q (sealed_store_as abort h p s) ∷ []) (next (sealed_store_as abort h p s))
at-ends true h Q p s next = refl
at-ends false h Q p s next = refl

-- ---- they are read one at a time, each with the nonces behind those of the frames before it

abbrev pub NonceAndCount : Type 0
NonceAndCount = List ℕ × ℕ

abbrev pub later : NonceAndCount → List Entry → NonceAndCount
later c es = (nonce_after (parts_in es) c.0, c.1 + parts_in es)

later_as : (abort : Bool) (h : Header) (Q : ℕ) (s : List ℕ) (c : NonceAndCount) (fs : List Entry)
    → later c (entry (event_as abort h) Q s ∷ fs) ≡ later (nonce_after (part_count h) c.0, c.1 + part_count h) fs
later_as abort h Q s c fs = at_cond (λ (v : Event). later c (entry v Q s ∷ fs) ≡ later (nonce_after (part_count h) c.0, c.1 + part_count h) fs) abort same same
  where
    same : (nonce_after (part_count h + parts_in fs) c.0, c.1 + (part_count h + parts_in fs)) ≡ later (nonce_after (part_count h) c.0, c.1 + part_count h) fs
    same = rw (after-add (part_count h) (parts_in fs) c.0) (ap (λ (k : ℕ). (nonce_after (part_count h + parts_in fs) c.0, k)) (omega arith))

pub start : (c : NonceAndCount) → later c [] ≡ c
unfolding nonce_after
start c = rw (add-zero c.1)

module _ (w : List State) where
  pub next : (c : NonceAndCount) (P : ℕ) (X s : List ℕ) → Seen w c.0 c.1 P X s → AtFront (λ f c. frames f w c.0 c.1) later c P X s
  next c P X s (stops j at t e) = reader.stops (stopped j at t) (λ n u. stopped-up j at n P t u) e
  next c P X s (ends abort j) =
      let nonce : List ℕ = c.0 in
      let h : Header = header_in w nonce X in
      let p : List ℕ = segments_in w nonce h X in
      let b = j.judges.begins in
      let d = length-drop (sealed_length h) X in
      let l = j.long in
      let m = least h in
      reader.one-frame [] (event_as abort h) (nonce_after (part_count h) nonce, c.1 + part_count h) (P + sealed_length h) (drop (sealed_length h) X) (sealed_store_as abort h p s) (record {
        gives = λ f Y. frame-trace-more w nonce c.1 P X Y s f j ∙ at-ends abort h (P + sealed_length h) p s _;
        frame = frame_as abort h;
        up = λ n fs. at_cond (λ (v : Event). FramesUpTo n P (entry v (P + sealed_length h) (sealed_store_as abort h p s) ∷ fs) → FramesUpTo n (P + sealed_length h) fs) abort (λ u. u) (λ u. u);
        place = omega arith;
        less = omega arith;
        kept = kept-length abort h p s (segments-short h (first_in w nonce X) (second_in w nonce h X) (last_in w nonce h X) (first-length X (omega arith) b.first)) (fits w nonce X (length s) b.judged);
        state = later_as abort h (P + sealed_length h) (sealed_store_as abort h p s) c;
      })

  abbrev pub sealed_reader : FrameReader NonceAndCount
  sealed_reader = record {
    frames = λ f c. frames f w c.0 c.1;
    later = later;
    none = λ f c. none f w c.0 c.1;
    start = start;
    next = λ c P X s. next c P X s (seen w c.0 c.1 P X s);
  }
