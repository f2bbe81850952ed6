-- A frame is judged by its own bytes, whatever follows it.
use Prim.Native.Nat.{ℕ, suc, ◌+◌, ◌-◌, ◌≤◌}
use mathlib.Core.List.{List, ◌++◌}
use mathlib.Core.Path.{◌≡◌, refl, sym, ap₂, ◌∙◌}
use mathlib.Core.Bool.{Bool, true, false, not, cond, ◌&&◌}
use native.Mathlib.Omega.{arith}
use lib.ListN.{length, take, drop, length-append, length-drop}
use lib.Seq.{take-append-le, drop-append-le}
use lib.Dec.{leb, ltb}
use borrow.Author.Tests.{lt-ltb, le-ltb, le-leb, leb-true}
use Rattle.buffer.proofs.Numbers.{number_append}
use Rattle.buffer.specs.Splice.{replace_front}
use Rattle.refusal.specs.declared.Refusal.TheVariants as refusal
use Rattle.refusal.specs.Refusals.{Judged, fine, refused, numbers_of}
use Rattle.banner.specs.declared.Revision.{Revision}
use Rattle.preamble.specs.declared.Header.{Header}
use Rattle.preamble.specs.Layout.{total}
use Rattle.preamble.specs.Judge.{judge_preamble}
use Rattle.body.specs.Body.{no_first_sum, first_sum_length, body_length, wire_length}
use Rattle.body.specs.End.{Ended, whole, dropped, refused_for, segment_bytes, ending}
use Rattle.stream.specs.Stream.{Trace, ended, unless_refused, zeroed, first_sum_end, first_wrong, first_reported, reported_first, at_end, frames}
use Rattle.refusal.proofs.Booleans.{by_test, by_less, wrong, each_true, both_true}
use Rattle.refusal.proofs.Judgements.{by_judgement_lem}
use Rattle.body.proofs.Ends.{segments-own, ending-append}
use Rattle.ends.specs.Handed.{header_in, is_early}

pub first-room : (r : Revision) (h : Header) (b : List ℕ) → body_length r h ≤ length b → no_first_sum r h ≡ false → h.s1.len + 4 ≤ length b
first-room r h b l u = (let k = rw u at l in omega arith)

first-own : (r : Revision) (h : Header) (b y : List ℕ) → body_length r h ≤ length b → first_wrong r h (b ++ y) ≡ first_wrong r h b
first-own r h b y l =
    by_test (no_first_sum r h) (λ c. rw c)
    (λ c.
    let l' = first-room r h b l c in
    let a = length-append b y in
    rw (le-leb (h.s1.len + 4) (length b) l', le-leb (h.s1.len + 4) (length (b ++ y)) (omega arith), number_append 4 h.s1.len b y l', take-append-le h.s1.len b y (omega arith)))

-- with the whole body there, segment 1's early report does not depend on its bytes
early-is : (r : Revision) (h : Header) (b : List ℕ) → body_length r h ≤ length b → first_reported r h b ≡ is_early r h
early-is r h b l = by_test (no_first_sum r h) (λ c. rw c) (λ c. rw (c, le-leb (h.s1.len + 4) (length b) (first-room r h b l c)))

-- without it, its checksum has to be there
reported-parts : (r : Revision) (h : Header) (b : List ℕ) → first_reported r h b ≡ true → (is_early r h ≡ true) × (h.s1.len + 4 ≤ length b)
reported-parts r h b e =
    let p = each_true (not (no_first_sum r h)) (leb (h.s1.len + 4) (length b) && ltb 1 h.count) e in
    let q = each_true (leb (h.s1.len + 4) (length b)) (ltb 1 h.count) p.1 in
    (both_true (not (no_first_sum r h)) (ltb 1 h.count) p.0 q.1, leb-true (h.s1.len + 4) (length b) q.0)

parts-reported : (r : Revision) (h : Header) (b : List ℕ) → is_early r h ≡ true → h.s1.len + 4 ≤ length b → first_reported r h b ≡ true
parts-reported r h b e l = rw (le-leb (h.s1.len + 4) (length b) l) e

-- ---- how the frame at the front of X is judged, where n is the store's length

pub record Judges (x : Ended) (r : Revision) (X : List ℕ) (n : ℕ) : Type 0 where
  pub front : 32 ≤ length X
  pub accepted : judge_preamble (take 32 X) n ≡ fine
  pub long : body_length r (header_in X) ≤ length (drop 32 X)
  pub first : first_wrong r (header_in X) (drop 32 X) ≡ false
  pub end : ending r (header_in X) (drop (total (header_in X) + first_sum_length r (header_in X)) (drop 32 X)) (segment_bytes r (header_in X) (drop 32 X)) ≡ x

-- how its segment 1 is judged, where it is reported early
pub record JudgesFirst (r : Revision) (X : List ℕ) (n : ℕ) : Type 0 where
  pub front : 32 ≤ length X
  pub accepted : judge_preamble (take 32 X) n ≡ fine
  pub first : first_wrong r (header_in X) (drop 32 X) ≡ false
  pub early : is_early r (header_in X) ≡ true
  pub long : (header_in X).s1.len + 4 ≤ length (drop 32 X)

-- with the whole frame there
pub judges-first : {x : Ended} {r : Revision} {n : ℕ} (X : List ℕ) → Judges x r X n → is_early r (header_in X) ≡ true → JudgesFirst r X n
judges-first {x} {r} {n} X j e = record {
  front = j.front;
  accepted = j.accepted;
  first = j.first;
  early = e;
  long = (reported-parts r (header_in X) (drop 32 X) (early-is r (header_in X) (drop 32 X) j.long ∙ e)).1;
}

-- the judgements of X with more bytes behind it, where all of its frame is there
module _ (r : Revision) (X Y : List ℕ) (l₁ : 32 ≤ length X) (l₂ : body_length r (header_in X) ≤ length (drop 32 X)) where
  abbrev k : ℕ
  k = total (header_in X) + first_sum_length r (header_in X)

  pub front-own : take 32 (X ++ Y) ≡ take 32 X
  front-own = take-append-le 32 X Y l₁

  pub body_own : drop 32 (X ++ Y) ≡ drop 32 X ++ Y
  body_own = drop-append-le 32 X Y l₁

  wrong-own : first_wrong r (header_in X) (drop 32 X ++ Y) ≡ first_wrong r (header_in X) (drop 32 X)
  wrong-own = first-own r (header_in X) (drop 32 X) Y l₂

  end-own : ending r (header_in X) (drop k (drop 32 X ++ Y)) (segment_bytes r (header_in X) (drop 32 X ++ Y)) ≡ ending r (header_in X) (drop k (drop 32 X)) (segment_bytes r (header_in X) (drop 32 X))
  end-own =
      let u = length-drop k (drop 32 X) in
      ap₂ (λ (e p : List ℕ). ending r (header_in X) e p) (drop-append-le k (drop 32 X) Y (omega arith)) (segments-own r (header_in X) (drop 32 X) Y l₂)
      ∙ ending-append r (header_in X) (drop k (drop 32 X)) Y (segment_bytes r (header_in X) (drop 32 X)) (omega arith)

  longer : length X ≤ length (X ++ Y)
  longer = (let a = length-append X Y in omega arith)

  longer-body : length (drop 32 X) ≤ length (drop 32 X ++ Y)
  longer-body = (let a = length-append (drop 32 X) Y in omega arith)

  pub extends : {x : Ended} {n : ℕ} → Judges x r X n → Judges x r (X ++ Y) n
  extends j = record {
    front = (let m = longer in omega arith);
    accepted = rw front-own j.accepted;
    long = rw (front-own, body_own) (let m = longer-body in omega arith);
    first = rw (front-own, body_own) (wrong-own ∙ j.first);
    end = rw (front-own, body_own) (end-own ∙ j.end);
  }

  pub restricts : {x : Ended} {n : ℕ} → Judges x r (X ++ Y) n → Judges x r X n
  restricts j = record {
    front = l₁;
    accepted = rw front-own at j.accepted;
    long = l₂;
    first = sym wrong-own ∙ (rw (front-own, body_own) at j.first);
    end = sym end-own ∙ (rw (front-own, body_own) at j.end);
  }

  pub extends-first : {n : ℕ} → JudgesFirst r X n → JudgesFirst r (X ++ Y) n
  extends-first j = record {
    front = (let m = longer in omega arith);
    accepted = rw front-own j.accepted;
    first = rw (front-own, body_own) (wrong-own ∙ j.first);
    early = rw front-own j.early;
    long = rw (front-own, body_own) (let m = longer-body in let l = j.long in omega arith);
  }

  pub restricts-first : {n : ℕ} → JudgesFirst r (X ++ Y) n → JudgesFirst r X n
  restricts-first j =
      let e : is_early r (header_in X) ≡ true = rw front-own at j.early in
      record {
        front = l₁;
        accepted = rw front-own at j.accepted;
        first = sym wrong-own ∙ (rw (front-own, body_own) at j.first);
        early = e;
        long = (reported-parts r (header_in X) (drop 32 X) (early-is r (header_in X) (drop 32 X) l₂ ∙ e)).1;
      }

-- ---- what the definition gives

-- behind segment 1's early report, where c says that there is one
abbrev pub behind_early : Bool → ℕ → List ℕ → List ℕ → Trace → Trace
behind_early c P X s t = reported_first c (header_in X) (first_sum_end P (header_in X)) (replace_front (take (header_in X).s1.len (drop 32 X)) s) t

-- a whole frame
pub frame-trace : {x : Ended} {r : Revision} (f P : ℕ) (X s : List ℕ) → Judges x r X (length s)
    → frames (suc f) r P X s
    ≡ behind_early (is_early r (header_in X)) P X s
    (at_end x (header_in X) (P + wire_length r (header_in X)) s (segment_bytes r (header_in X) (drop 32 X)) (λ t. frames f r (P + wire_length r (header_in X)) (drop (32 + body_length r (header_in X)) X) t))
unfolding frames
frame-trace {x} {r} f P X s j =
    rw (le-ltb (length X) 32 j.front, j.accepted, j.first, early-is r (header_in X) (drop 32 X) j.long, le-ltb (length (drop 32 X)) (body_length r (header_in X)) j.long, j.end)

-- the same with more bytes behind it
pub frame-trace-more : {x : Ended} {r : Revision} (f P : ℕ) (X Y s : List ℕ) → Judges x r X (length s)
    → frames (suc f) r P (X ++ Y) s
    ≡ behind_early (is_early r (header_in X)) P X s
    (at_end x (header_in X) (P + wire_length r (header_in X)) s (segment_bytes r (header_in X) (drop 32 X)) (λ t. frames f r (P + wire_length r (header_in X)) (drop (32 + body_length r (header_in X)) X ++ Y) t))
frame-trace-more {x} {r} f P X Y s j =
    let h = header_in X in
    let n : ℕ = 32 + body_length r h in
    let e₁ : take 32 (X ++ Y) ≡ take 32 X = take-append-le 32 X Y j.front in
    let e₂ : drop 32 (X ++ Y) ≡ drop 32 X ++ Y = drop-append-le 32 X Y j.front in
    let l : length (drop 32 X) ≡ length X - 32 = length-drop 32 X in
    let e₃ : drop n (X ++ Y) ≡ drop n X ++ Y = drop-append-le n X Y (let k = j.long in let k₂ = j.front in omega arith) in
    let e₄ : take h.s1.len (drop 32 X ++ Y) ≡ take h.s1.len (drop 32 X) = take-append-le h.s1.len (drop 32 X) Y (let k = j.long in omega arith) in
    rw (e₁, e₂, e₃, segments-own r h (drop 32 X) Y j.long, e₄) at (frame-trace f P (X ++ Y) s (extends r X Y j.front j.long j))

-- what follows an early report
abbrev pub rest_trace : ℕ → Revision → ℕ → List ℕ → List ℕ → Trace
rest_trace f r P X s =
    cond (ltb (length (drop 32 X)) (body_length r (header_in X))) (ended (replace_front (segment_bytes r (header_in X) (drop 32 X)) s))
    (at_end (ending r (header_in X) (drop (total (header_in X) + first_sum_length r (header_in X)) (drop 32 X)) (segment_bytes r (header_in X) (drop 32 X))) (header_in X)
    (P + wire_length r (header_in X)) s (segment_bytes r (header_in X) (drop 32 X)) (λ t. frames f r (P + wire_length r (header_in X)) (drop (32 + body_length r (header_in X)) X) t))

pub first-trace : {r : Revision} (f P : ℕ) (X s : List ℕ) → JudgesFirst r X (length s) → frames (suc f) r P X s ≡ behind_early true P X s (rest_trace f r P X s)
unfolding frames
first-trace {r} f P X s j =
    rw (le-ltb (length X) 32 j.front, j.accepted, j.first, parts-reported r (header_in X) (drop 32 X) j.early j.long)

-- a frame ends whole or, where it was aborted, dropped
abbrev pub ends_as : Bool → Ended
ends_as abort = cond abort dropped whole

-- nothing more, or a refusal
abbrev pub stopped : Judged → ℕ → List ℕ → Trace
stopped j at t = unless_refused j at t (ended t)

-- the list stops, or the frame ends; c: segment 1 was reported before
pub data Seen (r : Revision) (P : ℕ) (X s : List ℕ) : Type 0 where
  stops : (c : Bool) (j : Judged) (at : ℕ) (t : List ℕ) → (c ≡ true → JudgesFirst r X (length s)) → ((f : ℕ) → frames (suc f) r P X s ≡ behind_early c P X s (stopped j at t)) → Seen r P X s
  ends : (abort : Bool) → Judges (ends_as abort) r X (length s) → Seen r P X s

module _ (r : Revision) (P : ℕ) (X s : List ℕ) where
  abbrev h : Header
  h = header_in X

  abbrev b : List ℕ
  b = drop 32 X

  by_end : (x : Ended) → Judges x r X (length s) → Seen r P X s
  by_end whole j = ends false j
  by_end dropped j = ends true j
  by_end (refused_for m) j = stops (is_early r h) (refused m) (P + wire_length r h) (zeroed h s) (judges-first X j) (λ f. frame-trace f P X s j)

  pub seen : Seen r P X s
  unfolding frames
  seen =
      by_less (length X) 32 (λ l. stops false fine P s (λ q. wrong q) (λ f. rw (lt-ltb (length X) 32 l)))
      (λ l.
      let e₁ = le-ltb (length X) 32 l in
      by_judgement_lem (judge_preamble (take 32 X) (length s))
      (λ a. by_test (first_wrong r h b)
      (λ w. stops false (refused (numbers_of (refusal.SegmentChecksum 1))) (first_sum_end P h) (zeroed h s) (λ q. wrong q) (λ f. rw (e₁, a, w)))
      (λ w. by_less (length b) (body_length r h)
      (λ n. stops (first_reported r h b) fine P (replace_front (segment_bytes r h b) s)
      (λ q. let p = reported-parts r h b q in record { front = l; accepted = a; first = w; early = p.0; long = p.1 })
      (λ f. rw (e₁, a, w, lt-ltb (length b) (body_length r h) n)))
      (λ n. by_end (ending r h (drop (total h + first_sum_length r h) b) (segment_bytes r h b)) (record { front = l; accepted = a; long = n; first = w; end = refl }))))
      (λ n e. stops false (refused n) (P + 32) s (λ q. wrong q) (λ f. rw (e₁, e))))
