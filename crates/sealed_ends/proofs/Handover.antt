-- A sealed frame is handed over exactly when its checks hold.
use mathlib.Core.Path.{◌≡◌, refl, sym, ap, subst, ◌∙◌}
use mathlib.Core.Logic.Iff
use mathlib.Core.Logic.{◌↔◌}
use mathlib.Core.Bool.{Bool, true, false}
use mathlib.Core.List.{List, ◌∷◌, ◌++◌}
use Prim.Native.Nat.{ℕ, suc, ◌+◌, ◌-◌, ◌≤◌}
use native.Mathlib.Nat.{le_refl}
use native.Mathlib.Omega.{arith}
use lib.ListN.{length, take, drop, length-append, take-append-drop}
use lib.Seq.{take_all, take-take, length-take-le}
use Rattle.refusal.proofs.Booleans.{wrong}
use Rattle.banner.specs.declared.Features.{Features}
use Rattle.banner.specs.declared.Revision.{Revision}
use Rattle.banner.specs.Banner.{judge_own}
use Rattle.preamble.specs.declared.Header.{Header}
use Rattle.preamble.specs.Judge.{header_of}
use Rattle.body.specs.End.{whole, dropped}
use Rattle.stream.specs.Stream.{Entry, entry, Trace}
use Rattle.aes.specs.Aes.{State, key_expansion}
use Rattle.secure.specs.Layout.{nonce_after, first_length, sealed_length, part_count}
use Rattle.secure.specs.Reading.{frames, sealed_trace}
use Rattle.ends.specs.Handed.{is_frame, is_drop, first_is}
use Rattle.connection.specs.Switched.{Switch, trace_with}
use Rattle.connection.specs.Step.{begun}
use Rattle.connection.specs.Calls.{Call, Chained, taken_by, list_of, switch_by, SwitchedDemand3}
use Rattle.connection.proofs.Chain.{switched-demand3}
use Rattle.sealed_ends.specs.Fronts.{Front, bytes_in, sealed_in, switch_in, spent_in, next_in, Begins}
use Rattle.sealed_ends.specs.Handed.{text_in, header_in, CheckedSealed, segments_in, ExactlySealed, SealedBehind, header_behind, Through, frame-taken, all-taken, refused, SealedHandedOver}
use Rattle.secure.proofs.Bounds.{least}
use Rattle.ends.proofs.Locality.{ends_as}
use Rattle.ends.proofs.FrameReader.{fuel}
use Rattle.ends.proofs.Concatenation.{event_as}
use Rattle.ends.proofs.Checks.{late_as}
use Rattle.ends.proofs.Handover.{stopped_none}
use Rattle.sealed_ends.proofs.Judging.{JudgesAt, frame-trace, header-own, segments-own, extends, restricts}
use Rattle.sealed_ends.proofs.Locality.{Seen, stops, ends, seen}
use Rattle.sealed_ends.proofs.Concatenation.{sealed_store_as, sealed_reader}
use Rattle.sealed_ends.proofs.Fronts.{follows, reported}
use Rattle.sealed_ends.proofs.Checks.{checks}

-- ---- the entries of the definition

module _ (f : ℕ) (w : List State) (nonce : List ℕ) (n P : ℕ) (X s : List ℕ) where
  abbrev es : List Entry
  es = (frames (suc f) w nonce n P X s).entries

  abbrev h : Header
  h = header_in w nonce X

  abbrev p : List ℕ
  p = segments_in w nonce h X

  at-end : (abort : Bool) → JudgesAt (ends_as abort) w nonce n X (length s)
      → es
      ≡ entry (event_as abort h) (P + sealed_length h) (sealed_store_as abort h p s)
      ∷ (frames f w (nonce_after (part_count h) nonce) (n + part_count h) (P + sealed_length h) (drop (sealed_length h) X) (sealed_store_as abort h p s)).entries
  at-end true j = ap (λ (t : Trace). t.entries) (frame-trace w nonce n P X s f j)
  at-end false j = ap (λ (t : Trace). t.entries) (frame-trace w nonce n P X s f j)

  frame-judges : Seen w nonce n P X s → first_is is_frame es ≡ true → JudgesAt whole w nonce n X (length s)
  frame-judges (stops j at t e) u = wrong (sym (ap (λ (t : Trace). first_is is_frame t.entries) (e f) ∙ stopped_none is_frame (λ n. refl) j at t) ∙ u)
  frame-judges (ends false j) u = j
  frame-judges (ends true j) u = wrong (sym (ap (first_is is_frame) (at-end true j)) ∙ u)

  drop-judges : Seen w nonce n P X s → first_is is_drop es ≡ true → JudgesAt dropped w nonce n X (length s)
  drop-judges (stops j at t e) u = wrong (sym (ap (λ (t : Trace). first_is is_drop t.entries) (e f) ∙ stopped_none is_drop (λ n. refl) j at t) ∙ u)
  drop-judges (ends false j) u = wrong (sym (ap (first_is is_drop) (at-end false j)) ∙ u)
  drop-judges (ends true j) u = j

  exactly : ExactlySealed w nonce n P X s (frames (suc f) w nonce n P X s).entries
  exactly =
      let c : (abort : Bool) → JudgesAt (ends_as abort) w nonce n X (length s) ↔ CheckedSealed (late_as abort) w nonce n X (length s) = checks w nonce n X (length s) in
      record {
        handed = (λ u. (c false).0 (frame-judges (seen w nonce n P X s) u), λ k. ap (first_is is_frame) (at-end false ((c false).1 k)));
        frames = λ u. (_, at-end false (frame-judges (seen w nonce n P X s) u));
        dropped = (λ u. (c true).0 (drop-judges (seen w nonce n P X s) u), λ k. ap (first_is is_drop) (at-end true ((c true).1 k)));
        drops = λ u. (_, at-end true (drop-judges (seen w nonce n P X s) u));
      }

anywhere : (key nonce : List ℕ) (n P : ℕ) (X s : List ℕ) → ExactlySealed (key_expansion key) nonce n P X s (sealed_trace key nonce n P X s).entries
unfolding sealed_trace
anywhere key nonce n P X s =
    let w : List State = key_expansion key in
    let e : frames (suc (length X)) w nonce n P X s ≡ frames (length X) w nonce n P X s = fuel (sealed_reader w) (suc (length X)) (length X) (nonce, n) P X s (omega arith) (le_refl (length X)) in
    subst (λ (t : Trace). ExactlySealed w nonce n P X s t.entries) e (exactly (length X) w nonce n P X s)

-- the same entries are exactly those of X with more bytes behind it, where all of its frame is there
exactly-more : (w : List State) (nonce : List ℕ) (n P : ℕ) (X Y s : List ℕ) (es : List Entry) → sealed_length (header_in w nonce X) ≤ length X
    → ExactlySealed w nonce n P X s es → ExactlySealed w nonce n P (X ++ Y) s es
exactly-more w nonce n P X Y s es l x =
    record {
      handed = Iff.trans x.handed (more false);
      frames = rw (header-own w nonce X Y l, segments-own w nonce X Y l) x.frames;
      dropped = Iff.trans x.dropped (more true);
      drops = rw (header-own w nonce X Y l) x.drops;
    }
  where
    more : (abort : Bool) → CheckedSealed (late_as abort) w nonce n X (length s) ↔ CheckedSealed (late_as abort) w nonce n (X ++ Y) (length s)
    more abort = (
      λ c. (checks w nonce n (X ++ Y) (length s) abort).0 (extends w nonce X Y l ((checks w nonce n X (length s) abort).1 c)),
      λ c. (checks w nonce n X (length s) abort).0 (restricts w nonce X Y l ((checks w nonce n (X ++ Y) (length s) abort).1 c)),
    )

header-front : (w : List State) (nonce : List ℕ) (m : ℕ) (X : List ℕ) → first_length ≤ m → header_in w nonce (take m X) ≡ header_in w nonce X
unfolding header_in
header-front w nonce m X l = ap (λ (a : List ℕ). header_of (text_in w nonce a)) (take-take first_length m X l)

-- ---- the reports of calls

module _ (own : Features) (store : List ℕ) (r : Revision) (F : Front) (X : List ℕ) (b : Begins own store r F) where
  abbrev w : List State
  w = key_expansion F.key

  abbrev nonce : List ℕ
  nonce = next_in own store F

  abbrev P : ℕ
  P = length (bytes_in F)

  abbrev sw : Switch
  sw = switch_in own store F

  -- the definition's entries of what stands behind the front
  entries-behind : (Z : List ℕ) (all : List Entry) → all ≡ (trace_with (switch_in own store F) own (bytes_in F ++ Z) store).entries → SealedBehind own store F Z all
  entries-behind Z all e = record {
    later = (frames (suc (length Z)) w nonce (spent_in own store F) P Z (sealed_in own store F).store).entries;
    entries = e ∙ ap (λ (t : Trace). t.entries) (follows own store r F b Z (suc (length Z)) (omega arith));
    exactly = exactly (length Z) w nonce (spent_in own store F) P Z (sealed_in own store F).store;
  }

  by_taken : (cs : List Call) → Chained (bytes_in F ++ X) (begun own) store 0 cs → switch_by 0 cs ≡ switch_in own store F → length (bytes_in F) ≤ taken_by 0 cs
      → SealedBehind own store F (take (taken_by 0 cs - length (bytes_in F)) X) (list_of (judge_own own.supported own.required) cs)
  by_taken cs ch q l = entries-behind (take (taken_by 0 cs - P) X) _ (reported own (bytes_in F) X store cs sw ch q l)

  -- the bytes taken hold the whole frame
  by_frame-taken : (m : ℕ) (all : List Entry) → m ≤ length X → sealed_length (header_behind own store F X) ≤ m → SealedBehind own store F (take m X) all → SealedBehind own store F X all
  by_frame-taken m all h l x =
      let lt : length (take m X) ≡ m = length-take-le m X h in
      let z = least (header_behind own store F X) in
      let hd : header_in w nonce (take m X) ≡ header_in w nonce X = header-front w nonce m X (omega arith) in
      let l₂ : sealed_length (header_in w nonce (take m X)) ≤ length (take m X) = rw hd (omega arith) in
      record {
        later = x.later;
        entries = x.entries;
        exactly = rw (take-append-drop m X) at (exactly-more w nonce (spent_in own store F) P (take m X) (drop m X) (sealed_in own store F).store x.later l₂ x.exactly);
      }

  through : (cs : List Call) → Chained (bytes_in F ++ X) (begun own) store 0 cs → switch_by 0 cs ≡ switch_in own store F → Through own store F X cs
      → SealedBehind own store F X (list_of (judge_own own.supported own.required) cs)
  unfolding SwitchedDemand3
  through cs ch q (frame-taken l) =
      let a = length-append (bytes_in F) X in
      let i = (switched-demand3 own (bytes_in F ++ X) store cs ch).within in
      by_frame-taken (taken_by 0 cs - P) _ (omega arith) (omega arith) (by_taken cs ch q (omega arith))
  through cs ch q (all-taken e) =
      let a = length-append (bytes_in F) X in
      rw (take_all (taken_by 0 cs - P) X (omega arith)) at (by_taken cs ch q (omega arith))
  through cs ch q (refused e) =
      entries-behind X _ (((switched-demand3 own (bytes_in F ++ X) store cs ch).whole e).0 ∙ ap (λ (x : Switch). (trace_with x own (bytes_in F ++ X) store).entries) q)

pub handed_over : SealedHandedOver
handed_over = record {
  anywhere = anywhere;
  behind = λ own store r F X b. record {
    defined = entries-behind own store r F X b X _ refl;
    taken = by_taken own store r F X b;
    reports = through own store r F X b;
  };
}
