-- Handed over exactly when the checks hold.
use Prim.Native.Nat.{ℕ, suc, ◌+◌, ◌-◌, ◌≤◌}
use mathlib.Core.List.{List, [], ◌∷◌, ◌++◌}
use mathlib.Core.Path.{◌≡◌, refl, sym, ap, ◌∙◌}
use mathlib.Core.Logic.Iff
use mathlib.Core.Logic.{◌↔◌}
use mathlib.Core.Bool.{Bool, true, false}
use native.Mathlib.Omega.{arith}
use lib.ListN.{length, take, drop, length-append, length-drop, take-append-drop}
use lib.Seq.{take_all, take-take, take-append-le, take-append-add, length-take-le}
use Rattle.refusal.specs.declared.Numbers.{Numbers}
use Rattle.refusal.specs.Refusals.{Judged, fine}
use Rattle.refusal.specs.Refusals as refusals
use Rattle.refusal.proofs.Booleans.{wrong}
use Rattle.banner.specs.declared.Features.{Features}
use Rattle.banner.specs.declared.Revision.{Revision}
use Rattle.banner.specs.Banner.{judge_own}
use Rattle.preamble.specs.declared.Header.{Header}
use Rattle.preamble.specs.Judge.{header_of}
use Rattle.body.specs.Body.{body_length, wire_length}
use Rattle.body.specs.End.{whole, dropped, segment_bytes}
use Rattle.stream.specs.declared.Event.{Event}
use Rattle.stream.specs.declared.Event.TheVariants.{Refused}
use Rattle.stream.specs.Stream.{Entry, entry, Trace, frames, trace_of}
use Rattle.receiver.specs.Step.{started}
use Rattle.receiver.specs.Calls.{Call, Chained, taken_by, list_of, Demand3}
use Rattle.receiver.proofs.Chain.{demand3}
use Rattle.ends.specs.Handed.{header_in, is_early, is_first, is_frame, is_drop, first_is, after_early_report, Checked, Exactly, ExactlyBehind, Through, frame-taken, all-taken, refused, UpTo, HandedOver}
use Rattle.body.proofs.Ends.{segments-own}
use Rattle.ends.proofs.Locality.{Judges, JudgesFirst, front-own, body_own, extends, restricts, extends-first, restricts-first, judges-first, ends_as, stopped, behind_early, frame-trace, first-trace, Seen, stops, ends, seen}
use Rattle.ends.proofs.Concatenation.{event_as, store_as}
use Rattle.ends.proofs.Banners.{follows_on}
use Rattle.ends.proofs.Written.{written_so}
use Rattle.ends.proofs.Checks.{late_as, checks, first-checked, checked-first}

-- ---- the entries of the definition

pub stopped_none : (is : Event → Bool) → ((n : Numbers) → is (Refused n) ≡ false) → (j : Judged) (at : ℕ) (t : List ℕ) → first_is is (stopped j at t).entries ≡ false
stopped_none is e fine at t = refl
stopped_none is e (refusals.refused n) at t = e n

module _ (f : ℕ) (r : Revision) (P : ℕ) (X s : List ℕ) where
  abbrev es : List Entry
  es = (frames (suc f) r P X s).entries

  abbrev h : Header
  h = header_in X

  abbrev p : List ℕ
  p = segment_bytes r h (drop 32 X)

  -- where t does not begin with an early report: one goes before it if c says so
  split : (c : Bool) (t : Trace) → first_is is_first t.entries ≡ false → frames (suc f) r P X s ≡ behind_early c P X s t → (first_is is_first es ≡ c) × (after_early_report es ≡ t.entries)
  split c t n e = (ap (λ (u : Trace). first_is is_first u.entries) e ∙ (go c).0, ap (λ (u : Trace). after_early_report u.entries) e ∙ (go c).1)
    where
      none : (l : List Entry) → first_is is_first l ≡ false → after_early_report l ≡ l
      none [] z = refl
      none (x ∷ xs) z = rw z

      go : (c : Bool) → (first_is is_first (behind_early c P X s t).entries ≡ c) × (after_early_report (behind_early c P X s t).entries ≡ t.entries)
      go true = (refl, refl)
      go false = (n, none t.entries n)

  -- where the list stops, and where the frame ends
  at_stop : (c : Bool) (j : Judged) (at : ℕ) (t : List ℕ) → frames (suc f) r P X s ≡ behind_early c P X s (stopped j at t) → (first_is is_first es ≡ c) × (after_early_report es ≡ (stopped j at t).entries)
  at_stop c j at t e = split c (stopped j at t) (stopped_none is_first (λ n. refl) j at t) e

  at-end : (abort : Bool) → Judges (ends_as abort) r X (length s)
      → (first_is is_first es ≡ is_early r h)
      × (after_early_report es ≡ entry (event_as abort h) (P + wire_length r h) (store_as abort h p s) ∷ (frames f r (P + wire_length r h) (drop (wire_length r h) X) (store_as abort h p s)).entries)
  at-end true j = split (is_early r h) _ refl (frame-trace f P X s j)
  at-end false j = split (is_early r h) _ refl (frame-trace f P X s j)

  first-judges : Seen r P X s → first_is is_first es ≡ true → JudgesFirst r X (length s)
  first-judges (stops c j at t i e) u = i (sym (at_stop c j at t (e f)).0 ∙ u)
  first-judges (ends abort j) u = judges-first X j (sym (at-end abort j).0 ∙ u)

  frame-judges : Seen r P X s → first_is is_frame (after_early_report es) ≡ true → Judges whole r X (length s)
  frame-judges (stops c j at t i e) u = wrong (sym (ap (first_is is_frame) (at_stop c j at t (e f)).1 ∙ stopped_none is_frame (λ n. refl) j at t) ∙ u)
  frame-judges (ends false j) u = j
  frame-judges (ends true j) u = wrong (sym (ap (first_is is_frame) (at-end true j).1) ∙ u)

  drop-judges : Seen r P X s → first_is is_drop (after_early_report es) ≡ true → Judges dropped r X (length s)
  drop-judges (stops c j at t i e) u = wrong (sym (ap (first_is is_drop) (at_stop c j at t (e f)).1 ∙ stopped_none is_drop (λ n. refl) j at t) ∙ u)
  drop-judges (ends false j) u = wrong (sym (ap (first_is is_drop) (at-end false j).1) ∙ u)
  drop-judges (ends true j) u = j

  pub exactly : Exactly r P X s es
  exactly =
      let first : first_is is_first es ≡ true → JudgesFirst r X (length s) = first-judges (seen r P X s) in
      let frame : first_is is_frame (after_early_report es) ≡ true → Judges whole r X (length s) = frame-judges (seen r P X s) in
      let drop : first_is is_drop (after_early_report es) ≡ true → Judges dropped r X (length s) = drop-judges (seen r P X s) in
      record {
        first = (λ u. first-checked X (length s) r (first u), λ c. ap (λ (u : Trace). first_is is_first u.entries) (first-trace f P X s (checked-first X (length s) r c)));
        firsts = λ u. (_, ap (λ (t : Trace). t.entries) (first-trace f P X s (first u)));
        handed = (λ u. (checks X (length s) r false).0 (frame u), λ c. ap (first_is is_frame) (at-end false ((checks X (length s) r false).1 c)).1);
        frames = λ u. (_, (at-end false (frame u)).1);
        spelled = λ b u z. written_so r X (length s) b (frame u) z;
        dropped = (λ u. (checks X (length s) r true).0 (drop u), λ c. ap (first_is is_drop) (at-end true ((checks X (length s) r true).1 c)).1);
        drops = λ u. (_, (at-end true (drop u)).1);
      }

-- the same entries are exactly those of X with more bytes behind it, where all of its frame is there
exactly-more : (r : Revision) (P : ℕ) (X Y s : List ℕ) (es : List Entry) → 32 ≤ length X → body_length r (header_in X) ≤ length (drop 32 X) → Exactly r P X s es → Exactly r P (X ++ Y) s es
exactly-more r P X Y s es l₁ l₂ x =
    let n = length s in
    let hd = front-own r X Y l₁ l₂ in
    let bd = body_own r X Y l₁ l₂ in
    let seg : take (header_in X).s1.len (drop 32 X ++ Y) ≡ take (header_in X).s1.len (drop 32 X) = take-append-le (header_in X).s1.len (drop 32 X) Y (omega arith) in
    record {
      first = Iff.trans x.first (
        λ c. first-checked (X ++ Y) n r (extends-first r X Y l₁ l₂ (checked-first X n r c)),
        λ c. first-checked X n r (restricts-first r X Y l₁ l₂ (checked-first (X ++ Y) n r c)),
      );
      firsts = rw (hd, bd, seg) x.firsts;
      handed = Iff.trans x.handed (more false);
      frames = rw (hd, bd, segments-own r (header_in X) (drop 32 X) Y l₂) x.frames;
      spelled = λ b u z. written_so r (X ++ Y) n b (extends r X Y l₁ l₂ ((checks X n r false).1 (x.handed.0 u))) z;
      dropped = Iff.trans x.dropped (more true);
      drops = rw hd x.drops;
    }
  where
    more : (abort : Bool) → Checked (late_as abort) r X (length s) ↔ Checked (late_as abort) r (X ++ Y) (length s)
    more abort = (
      λ c. (checks (X ++ Y) (length s) r abort).0 (extends r X Y l₁ l₂ ((checks X (length s) r abort).1 c)),
      λ c. (checks X (length s) r abort).0 (restricts r X Y l₁ l₂ ((checks (X ++ Y) (length s) r abort).1 c)),
    )

-- ---- the reports of calls

-- calls that took F have reported the list of the bytes taken
pub reported : (own : Features) (F B store : List ℕ) (cs : List Call) → Chained (F ++ B) (started own) store 0 cs → length F ≤ taken_by 0 cs
    → list_of (judge_own own.supported own.required) cs ≡ (trace_of own (F ++ take (taken_by 0 cs - length F) B) store).entries
unfolding Demand3
reported own F B store cs ch l =
    let t = taken_by 0 cs in
    let e : t ≡ length F + (t - length F) = omega arith in
    (demand3 own (F ++ B) store cs ch).reports
    ∙ ap (λ (x : List ℕ). (trace_of own x store).entries) (ap (λ (k : ℕ). take k (F ++ B)) e ∙ take-append-add F B (t - length F))

module _ (own : Features) (front X store : List ℕ) (r : Revision) (up : UpTo r (length front) (trace_of own front store).entries) where
  -- the definition's entries of what stands behind the front
  entries-behind : (Z : List ℕ) (all : List Entry) → all ≡ (trace_of own (front ++ Z) store).entries → ExactlyBehind own front Z store r all
  entries-behind Z all e = record {
    later = (frames (suc (length Z)) r (length front) Z (trace_of own front store).store).entries;
    entries = e ∙ ap (λ (t : Trace). t.entries) ((follows_on own front Z store r up).follows (suc (length Z)) (omega arith));
    exactly = exactly (length Z) r (length front) Z (trace_of own front store).store;
  }

  by_taken : (cs : List Call) → Chained (front ++ X) (started own) store 0 cs → length front ≤ taken_by 0 cs
      → ExactlyBehind own front (take (taken_by 0 cs - length front) X) store r (list_of (judge_own own.supported own.required) cs)
  by_taken cs ch l = entries-behind (take (taken_by 0 cs - length front) X) _ (reported own front X store cs ch l)

  -- the bytes taken hold the whole frame
  by_frame-taken : (m : ℕ) (all : List Entry) → m ≤ length X → wire_length r (header_in X) ≤ m → ExactlyBehind own front (take m X) store r all → ExactlyBehind own front X store r all
  by_frame-taken m all h l x =
      let lt : length (take m X) ≡ m = length-take-le m X h in
      let ld : length (drop 32 (take m X)) ≡ length (take m X) - 32 = length-drop 32 (take m X) in
      let hd : header_in (take m X) ≡ header_in X = ap header_of (take-take 32 m X (omega arith)) in
      let l₂ : body_length r (header_in (take m X)) ≤ length (drop 32 (take m X)) = rw hd (omega arith) in
      record {
        later = x.later;
        entries = x.entries;
        exactly = rw (take-append-drop m X) at (exactly-more r (length front) (take m X) (drop m X) (trace_of own front store).store x.later (omega arith) l₂ x.exactly);
      }

  through : (cs : List Call) → Chained (front ++ X) (started own) store 0 cs → Through own front X r cs
      → ExactlyBehind own front X store r (list_of (judge_own own.supported own.required) cs)
  unfolding Demand3
  through cs ch (frame-taken l) =
      let a = length-append front X in
      let i = (demand3 own (front ++ X) store cs ch).within in
      by_frame-taken (taken_by 0 cs - length front) _ (omega arith) (omega arith) (by_taken cs ch (omega arith))
  through cs ch (all-taken e) =
      let a = length-append front X in
      rw (take_all (taken_by 0 cs - length front) X (omega arith)) at (by_taken cs ch (omega arith))
  through cs ch (refused e) = entries-behind X _ ((demand3 own (front ++ X) store cs ch).whole e).0

pub handed_over : HandedOver
unfolding HandedOver
handed_over own front X store r up = record {
  defined = entries-behind own front X store r up X _ refl;
  taken = by_taken own front X store r up;
  reports = through own front X store r up;
}
