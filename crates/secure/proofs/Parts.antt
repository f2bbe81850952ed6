-- A frame read part by part, by what its parts open to.
use Rattle.std.proofs.Common.{◌≡◌, ℕ, suc, ◌+◌, ◌-◌, ◌≤◌, Bool, true, false, cond, List, [], ◌∷◌, ◌++◌, length, take, drop, replicate, refl, ap, ◌∙◌, ap₂, append-nil, add-zero, add-one, arith, length-append, length-drop, drop_of_length-le, length-take, length-take-le, drop-drop, le-ltb, leb-true}
use lib.ListN.{length-replicate}
use Rattle.buffer.specs.Splice.{replace_front}
use Rattle.refusal.specs.Refusals.{Judged, fine}
use Rattle.preamble.specs.declared.Header.{Header}
use Rattle.preamble.specs.Judge.{header_of, judge_store, judge_header}
use Rattle.preamble.proofs.Laws.{checked-preamble, checked-header, store-fits}
use Rattle.body.specs.Body.{rest_length}
use Rattle.body.specs.End.{Ended, whole}
use Rattle.stream.specs.Stream.{Trace, unless_refused}
use Rattle.aes.specs.Aes.{State}
use Rattle.gcm.specs.Gcm.{Opened, plain, opened_by}
use Rattle.gcm.proofs.Opened.{text-length}
use Rattle.secure.specs.Layout.{next_nonce, nonce_after, padding, inline_length, last_lengths, first_length, no_second_part, no_last_part, second_part, second_part_length, last_part, last_part_length, sealed_length, part_count, needed}
use Rattle.secure.specs.Reading.{Continuation, judge_nonce, judge_padding, judge_first, unpadded, last_ended, zeroed, by_opening, part_trace, at_end, last_trace, second_trace, frames}
use Rattle.secure.proofs.LastText.{unpadded-short}
use Rattle.secure.proofs.Runs.{after-add}
use Rattle.secure.proofs.Bounds.{few}
use Rattle.secure.proofs.Stores.{at-end-same}
use Rattle.secure.proofs.Headers.{one-segment}

-- a part whose nonce was not used and whose tag is good
pub record PartOpens (w : List State) (nonce : List ℕ) (n : ℕ) (bytes text : List ℕ) : Type 0 where
  pub fresh : judge_nonce n ≡ fine
  pub opens : opened_by w nonce bytes ≡ plain text

pub part-is : {w : List State} {nonce bytes text : List ℕ} {n : ℕ} → PartOpens w nonce n bytes text → (at : ℕ) (s : List ℕ) (next : List ℕ → Trace) → part_trace w nonce n bytes at s next ≡ next text
part-is p at s next = ap₂ (λ (j : Judged) (o : Opened). unless_refused j at s (by_opening o at s next)) p.fresh p.opens

-- the parts before the last one: h are the frame's fields; a and b their bytes, of which the second may be missing; t₁ and t₂ what they open to
pub record PartsBeforeLast (w : List State) (nonce : List ℕ) (n : ℕ) (h : Header) (a b t₁ t₂ : List ℕ) (store : ℕ) : Type 0 where
  pub first : PartOpens w nonce n a t₁
  pub header : header_of t₁ ≡ h
  pub judged : judge_first t₁ store ≡ fine
  pub second : no_second_part h ≡ false → PartOpens w (next_nonce nonce) (suc n) b t₂
  pub padded : no_second_part h ≡ false → judge_padding (drop (h.s1.len - inline_length) t₂) ≡ fine

-- and the last one, which may be missing too
pub record PartsJudged (x : Ended) (w : List State) (nonce : List ℕ) (n : ℕ) (h : Header) (a b c t₁ t₂ t₃ : List ℕ) (store : ℕ) : Type 0 where
  pub begins : PartsBeforeLast w nonce n h a b t₁ t₂ store
  pub last : no_last_part h ≡ false → PartOpens w (nonce_after (1 + cond (no_second_part h) 0 1) nonce) (n + (1 + cond (no_second_part h) 0 1)) c t₃
  pub end : cond (no_last_part h) whole (last_ended h t₃) ≡ x

-- ---- lengths

pub first-length : {w : List State} {nonce text : List ℕ} {n : ℕ} (X : List ℕ) → first_length ≤ length X → PartOpens w nonce n (take first_length X) text → length text ≡ 80
first-length {w} {nonce} {text} X l p = text-length w nonce (take first_length X) text p.opens ∙ ap (λ (k : ℕ). k - 16) (length-take-le first_length X l)

none-unpadded : (h : Header) (text : List ℕ) → rest_length h ≡ 0 → unpadded (last_lengths h) text ≡ []
none-unpadded h text e = drop_of_length-le (unpadded (last_lengths h) text) {i = 0} (let u = unpadded-short (last_lengths h) text in omega arith)

pub segment1-short : (n : ℕ) (first rest : List ℕ) → length first ≡ 80 → length (take n (drop 32 first) ++ take (n - inline_length) rest) ≤ n
segment1-short n first rest e =
    let a = length-append (take n (drop 32 first)) (take (n - inline_length) rest) in
    omega (arith, length-take n (drop 32 first), length-drop 32 first, length-take (n - inline_length) rest)

-- ---- the first part

pub first_step : {w : List State} {nonce t₁ : List ℕ} {n : ℕ} {h : Header} (f P : ℕ) (X s : List ℕ) → first_length ≤ length X → PartOpens w nonce n (take first_length X) t₁
    → header_of t₁ ≡ h → judge_first t₁ (length s) ≡ fine
    → frames (suc f) w nonce n P X s ≡ second_trace w h (next_nonce nonce) (suc n) (P + first_length) (drop first_length X) (take h.s1.len (drop 32 t₁)) s (frames f w)
unfolding frames
first_step f P X s l p e j = rw (le-ltb (length X) first_length l) (part-is p (P + first_length) s _ ∙ rw (j, e))

-- what is known of a first part that is accepted
module _ (text : List ℕ) (store : ℕ) (e : judge_first text store ≡ fine) where
  abbrev behind_fields : List Judged
  behind_fields = judge_store (needed (header_of text)) store ∷ judge_padding (drop (32 + (header_of text).s1.len) text) ∷ []

  pub first-header : judge_header (header_of text) ≡ fine
  unfolding judge_first
  first-header = checked-header (checked-preamble text behind_fields e).0

  pub first_fits : needed (header_of text) ≤ store
  unfolding judge_first
  first_fits = store-fits (checked-preamble text behind_fields e).1.0

-- ---- the rest of segment 1

-- what stands in the store then; c: there is no second part
abbrev pub filled : Header → List ℕ → List ℕ → Bool → List ℕ
filled h first t₂ c = cond c first (first ++ take (h.s1.len - inline_length) t₂ ++ replicate (padding (h.s1.len - inline_length) + 16) 0)

-- it is within what the frame needs
filled-short : (h : Header) (first t₂ : List ℕ) (c : Bool) → length (first ++ take (h.s1.len - inline_length) t₂) ≤ h.s1.len → length (filled h first t₂ c) ≤ needed h
unfolding needed
filled-short h first t₂ true l = omega (arith, length-append first (take (h.s1.len - inline_length) t₂))
filled-short h first t₂ false l =
    let m : ℕ = h.s1.len - inline_length in
    let p = few m in
    omega (arith, length-append (first ++ take m t₂) (replicate (padding m + 16) 0), length-replicate {A = ℕ} (padding m + 16) 0)

module _ (w : List State) (nonce : List ℕ) (n P : ℕ) (h : Header) (X first t₂ s : List ℕ) (next : Continuation) where
  abbrev m : ℕ
  m = h.s1.len - inline_length

  second-read : no_second_part h ≡ false → second_part h ≤ length (drop first_length X) → PartOpens w (next_nonce nonce) (suc n) (take (second_part h) (drop first_length X)) t₂ → judge_padding (drop m t₂) ≡ fine
      → second_trace w h (next_nonce nonce) (suc n) (P + first_length) (drop first_length X) first s next
      ≡ last_trace w h (next_nonce (next_nonce nonce)) (suc (suc n)) (P + first_length + second_part h) (drop (second_part h) (drop first_length X)) (first ++ take m t₂) (replace_front (filled h first t₂ false) s) next
  second-read e l p j = rw (e, le-ltb (length (drop first_length X)) (second_part h) l) (part-is p (P + first_length + second_part h) (zeroed h s) _ ∙ rw j)

  second_any : (c : Bool) → no_second_part h ≡ c → first_length + cond c 0 (second_part h) ≤ length X
      → (c ≡ false → PartOpens w (next_nonce nonce) (suc n) (take (cond c 0 (second_part h)) (drop first_length X)) t₂) → (c ≡ false → judge_padding (drop m t₂) ≡ fine)
      → second_trace w h (next_nonce nonce) (suc n) (P + first_length) (drop first_length X) first s next
      ≡ last_trace w h (nonce_after (1 + cond c 0 1) nonce) (n + (1 + cond c 0 1)) (P + (first_length + cond c 0 (second_part h))) (drop (first_length + cond c 0 (second_part h)) X)
      (first ++ take m t₂) (replace_front (filled h first t₂ c) s) next
  unfolding nonce_after
  second_any true e l p j =
      let z : m ≡ 0 = (let k = leb-true h.s1.len inline_length e in omega (arith, k)) in
      rw (e, z, append-nil first, add-one n)
  second_any false e l p j =
      let d = length-drop first_length X in
      let k : suc (suc n) ≡ n + 2 = omega arith in
      let i : P + first_length + second_part h ≡ P + (first_length + second_part h) = omega arith in
      second-read e (omega arith) (p refl) (j refl) ∙ rw (k, i, drop-drop (second_part h) first_length X)

-- ---- the last part

module _ (w : List State) (h : Header) (nonce : List ℕ) (n P : ℕ) (ys first t₃ s : List ℕ) (next : Continuation) where
  last-read : no_last_part h ≡ false → last_part h ≤ length ys → PartOpens w nonce n (take (last_part h) ys) t₃
      → last_trace w h nonce n P ys first s next
      ≡ at_end (last_ended h t₃) h (P + last_part h) (first ++ unpadded (last_lengths h) t₃) s (next (next_nonce nonce) (suc n) (P + last_part h) (drop (last_part h) ys))
  last-read e l p = rw (e, le-ltb (length ys) (last_part h) l) (part-is p (P + last_part h) (zeroed h s) _)

  -- c: there is none
  last_any : (c : Bool) → no_last_part h ≡ c → (c ≡ true → rest_length h ≡ 0) → cond c 0 (last_part h) ≤ length ys → (c ≡ false → PartOpens w nonce n (take (cond c 0 (last_part h)) ys) t₃)
      → last_trace w h nonce n P ys first s next
      ≡ at_end (cond c whole (last_ended h t₃)) h (P + cond c 0 (last_part h)) (first ++ unpadded (last_lengths h) t₃) s
      (next (nonce_after (cond c 0 1) nonce) (n + cond c 0 1) (P + cond c 0 (last_part h)) (drop (cond c 0 (last_part h)) ys))
  unfolding nonce_after
  last_any true e z l p =
      let q : first ++ unpadded (last_lengths h) t₃ ≡ first = ap (λ (x : List ℕ). first ++ x) (none-unpadded h t₃ (z refl)) ∙ append-nil first in
      rw (e, q, add-zero P, add-zero n)
  last_any false e z l p = last-read e l (p refl) ∙ rw (add-one n)

-- ---- the definition, for a frame whose bytes are all there

-- segment 1, and what the parts before the last one leave in the store
abbrev pub segment1 : Header → List ℕ → List ℕ → List ℕ
segment1 h t₁ t₂ = take h.s1.len (drop 32 t₁) ++ take (h.s1.len - inline_length) t₂

abbrev pub store_behind_second : Header → List ℕ → List ℕ → List ℕ → List ℕ
store_behind_second h t₁ t₂ s = replace_front (filled h (take h.s1.len (drop 32 t₁)) t₂ (no_second_part h)) s

pub up-to-last : {w : List State} {nonce t₁ t₂ : List ℕ} {n : ℕ} {h : Header} (f P : ℕ) (X s : List ℕ) → first_length + second_part_length h ≤ length X
    → PartsBeforeLast w nonce n h (take first_length X) (take (second_part_length h) (drop first_length X)) t₁ t₂ (length s)
    → frames (suc f) w nonce n P X s
    ≡ last_trace w h (nonce_after (1 + cond (no_second_part h) 0 1) nonce) (n + (1 + cond (no_second_part h) 0 1)) (P + (first_length + second_part_length h)) (drop (first_length + second_part_length h) X)
    (segment1 h t₁ t₂) (store_behind_second h t₁ t₂ s) (frames f w)
up-to-last {w} {nonce} {t₁} {t₂} {n} {h} f P X s l b =
    first_step f P X s (omega arith) b.first b.header b.judged
    ∙ second_any w nonce n P h X (take h.s1.len (drop 32 t₁)) t₂ s (frames f w) (no_second_part h) refl l b.second b.padded

pub frame-trace : {x : Ended} {w : List State} {nonce t₁ t₂ t₃ : List ℕ} {n : ℕ} {h : Header} (f P : ℕ) (X s : List ℕ) → sealed_length h ≤ length X
    → PartsJudged x w nonce n h (take first_length X) (take (second_part_length h) (drop first_length X)) (take (last_part_length h) (drop (first_length + second_part_length h) X)) t₁ t₂ t₃ (length s)
    → frames (suc f) w nonce n P X s
    ≡ at_end x h (P + sealed_length h) (segment1 h t₁ t₂ ++ unpadded (last_lengths h) t₃) s
    (frames f w (nonce_after (part_count h) nonce) (n + part_count h) (P + sealed_length h) (drop (sealed_length h) X))
unfolding sealed_length part_count
frame-trace {x} {w} {nonce} {t₁} {t₂} {t₃} {n} {h} f P X s long j =
    let b = j.begins in
    let k : ℕ = first_length + second_part_length h in
    let c : ℕ = 1 + cond (no_second_part h) 0 1 in
    let i : ℕ = last_part_length h in
    let o : List ℕ = nonce_after c nonce in
    let d = length-drop k X in
    let one : length (segment1 h t₁ t₂) ≤ h.s1.len = segment1-short h.s1.len t₁ t₂ (first-length X (omega arith) b.first) in
    let place : P + k + i ≡ P + (k + i) = omega arith in
    let count : n + c + cond (no_last_part h) 0 1 ≡ n + (c + cond (no_last_part h) 0 1) = omega arith in
    up-to-last f P X s (omega arith) b
    ∙ last_any w h o (n + c) (P + k) (drop k X) (segment1 h t₁ t₂) t₃ (store_behind_second h t₁ t₂ s) (frames f w) (no_last_part h) refl
    (λ e. one-segment h (rw b.header at (first-header t₁ (length s) b.judged)) e) (omega arith) j.last
    ∙ at-end-same h (segment1 h t₁ t₂ ++ unpadded (last_lengths h) t₃) (filled h (take h.s1.len (drop 32 t₁)) t₂ (no_second_part h)) s
    (filled-short h (take h.s1.len (drop 32 t₁)) t₂ (no_second_part h) one) (cond (no_last_part h) whole (last_ended h t₃)) (P + k + i) _
    ∙ rw (j.end, place, count, after-add c (cond (no_last_part h) 0 1) nonce, drop-drop i k X)
