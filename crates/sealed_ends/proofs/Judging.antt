-- A sealed frame is judged by its own bytes, whatever follows it.
use mathlib.Core.Path.{◌≡◌, refl, ap, ◌∙◌}
use mathlib.Core.List.{List, [], ◌++◌, append-nil, append_assoc}
use Prim.Native.Nat.{ℕ, suc, ◌+◌, ◌≤◌}
use native.Mathlib.Omega.{arith}
use lib.ListN.{length, take, drop, length-drop, length-append}
use lib.Seq.{take-append-le, drop-append-le}
use Rattle.refusal.specs.Refusals.{fine}
use Rattle.preamble.specs.declared.Header.{Header}
use Rattle.preamble.specs.Judge.{header_of}
use Rattle.body.specs.End.{Ended}
use Rattle.aes.specs.Aes.{State}
use Rattle.secure.specs.Layout.{nonce_after, last_lengths, first_length, second_part_length, last_part_length, sealed_length, part_count, needed}
use Rattle.secure.specs.Reading.{judge_first, unpadded, at_end, frames}
use Rattle.secure.proofs.LastText.{unpadded-at, unpadded-short}
use Rattle.secure.proofs.Bounds.{least}
use Rattle.secure.proofs.Parts as parts
use Rattle.secure.proofs.Parts.{PartsJudged, first_fits, segment1, segment1-short}
use Rattle.sealed_ends.specs.Handed.{text_in, first_bytes, first_in, header_in, second_bytes, second_in, last_bytes, last_in, segment_at, segments_of, segments_in}

-- ---- its segments

-- as they are read, one behind the other
segments_are : (h : Header) (first rest last : List ℕ) → segment1 h first rest ++ unpadded (last_lengths h) last ≡ segments_of h first rest last
segments_are h first rest last =
    ap (λ (t : List ℕ). segment1 h first rest ++ t) (unpadded-at (last_lengths h) 0 last) ∙ four (segment1 h first rest) (segment_at h 0 last) (segment_at h 1 last) (segment_at h 2 last)
  where
    four : (x y z u : List ℕ) → x ++ (y ++ (z ++ (u ++ []))) ≡ x ++ y ++ z ++ u
    four x y z u = simp (append-nil, append_assoc)

pub segments-short : (h : Header) (first rest last : List ℕ) → length first ≡ 80 → length (segments_of h first rest last) ≤ needed h
unfolding needed
segments-short h first rest last e =
    let one : List ℕ = segment1 h first rest in
    let others : List ℕ = unpadded (last_lengths h) last in
    let i : length (one ++ others) ≡ length (segments_of h first rest last) = ap length (segments_are h first rest last) in
    let a : length (one ++ others) ≡ length one + length others = length-append one others in
    let s₁ : length one ≤ h.s1.len = segment1-short h.s1.len first rest e in
    let s₂ : length others ≤ h.s2.len + h.s3.len + h.s4.len = (let u = unpadded-short (last_lengths h) last in omega arith) in
    omega arith

-- ---- the frame at the front of X, with all its bytes there

pub record JudgesAt (x : Ended) (w : List State) (nonce : List ℕ) (n : ℕ) (X : List ℕ) (store : ℕ) : Type 0 where
  pub long : sealed_length (header_in w nonce X) ≤ length X
  pub judges : PartsJudged x w nonce n (header_in w nonce X) (first_bytes X) (second_bytes (header_in w nonce X) X) (last_bytes (header_in w nonce X) X)
      (first_in w nonce X) (second_in w nonce (header_in w nonce X) X) (last_in w nonce (header_in w nonce X) X) store

pub header_is : (w : List State) (nonce X : List ℕ) → header_of (first_in w nonce X) ≡ header_in w nonce X
unfolding header_in
header_is w nonce X = refl

pub fits : (w : List State) (nonce X : List ℕ) (store : ℕ) → judge_first (first_in w nonce X) store ≡ fine → needed (header_in w nonce X) ≤ store
unfolding header_in
fits w nonce X store j = first_fits (first_in w nonce X) store j

module _ (w : List State) (nonce : List ℕ) (n P : ℕ) (X s : List ℕ) where
  abbrev header : Header
  header = header_in w nonce X

  pub frame-trace : {x : Ended} (f : ℕ) → JudgesAt x w nonce n X (length s)
      → frames (suc f) w nonce n P X s
      ≡ at_end x header (P + sealed_length header) (segments_in w nonce header X) s
      (frames f w (nonce_after (part_count header) nonce) (n + part_count header) (P + sealed_length header) (drop (sealed_length header) X))
  frame-trace f j = parts.frame-trace f P X s j.long j.judges ∙ rw (segments_are header (first_in w nonce X) (second_in w nonce header X) (last_in w nonce header X))

-- ---- more bytes behind it

own-bytes : (i k : ℕ) (X Y : List ℕ) → i + k ≤ length X → take k (drop i (X ++ Y)) ≡ take k (drop i X)
own-bytes i k X Y l =
    let d = length-drop i X in
    ap (take k) (drop-append-le i X Y (omega arith)) ∙ take-append-le k (drop i X) Y (omega arith)

module _ (w : List State) (nonce : List ℕ) (X Y : List ℕ) (long : sealed_length (header_in w nonce X) ≤ length X) where
  abbrev h : Header
  h = header_in w nonce X

  first-own : first_bytes (X ++ Y) ≡ first_bytes X
  first-own = take-append-le first_length X Y (let l = least h in omega arith)

  pub header-own : header_in w nonce (X ++ Y) ≡ header_in w nonce X
  unfolding header_in
  header-own = ap (λ (a : List ℕ). header_of (text_in w nonce a)) first-own

  second-own : second_bytes h (X ++ Y) ≡ second_bytes h X
  unfolding sealed_length
  second-own = own-bytes first_length (second_part_length h) X Y (omega arith)

  last-own : last_bytes h (X ++ Y) ≡ last_bytes h X
  unfolding sealed_length
  last-own = own-bytes (first_length + second_part_length h) (last_part_length h) X Y long

  pub segments-own : segments_in w nonce h (X ++ Y) ≡ segments_in w nonce h X
  segments-own = rw (first-own, second-own, last-own)

  -- its judgements are those of X
  module _ {x : Ended} {n store : ℕ} where
    pub extends : JudgesAt x w nonce n X store → JudgesAt x w nonce n (X ++ Y) store
    extends j = record {
      long = rw header-own (let a = length-append X Y in omega arith);
      judges = rw (header-own, first-own, second-own, last-own) j.judges;
    }

    pub restricts : JudgesAt x w nonce n (X ++ Y) store → JudgesAt x w nonce n X store
    restricts j = record { long = long; judges = rw (header-own, first-own, second-own, last-own) at j.judges }

-- and so is the definition
pub frame-trace-more : (w : List State) (nonce : List ℕ) (n P : ℕ) (X Y s : List ℕ) {x : Ended} (f : ℕ) → JudgesAt x w nonce n X (length s)
    → frames (suc f) w nonce n P (X ++ Y) s
    ≡ at_end x (header_in w nonce X) (P + sealed_length (header_in w nonce X)) (segments_in w nonce (header_in w nonce X) X) s
    (frames f w (nonce_after (part_count (header_in w nonce X)) nonce) (n + part_count (header_in w nonce X)) (P + sealed_length (header_in w nonce X))
    (drop (sealed_length (header_in w nonce X)) X ++ Y))
frame-trace-more w nonce n P X Y s f j =
    let l = j.long in
    rw (header-own w nonce X Y l, segments-own w nonce X Y l, drop-append-le (sealed_length (header_in w nonce X)) X Y l) at (frame-trace w nonce n P (X ++ Y) s f (extends w nonce X Y l j))
