-- The bytes of a frame that passes its checks are those that its fields and segments are written as.
use Prim.Native.Nat.{ℕ, ◌≤◌, ◌<◌}
use mathlib.Core.List.{List, ◌++◌}
use mathlib.Core.Path.{◌≡◌, refl, sym, ap, ap₂, subst, ◌∙◌}
use mathlib.Core.Bool.{true, false}
use native.Mathlib.Omega.{arith}
use native.Mathlib.Nat.{add-zero}
use lib.ListN.{length, take, drop, get_or, length-drop, take-append-drop, get_or-append}
use lib.Seq.{take-take, take_at, get_or-drop, length-take-le}
use lib.Dec.{leb, ltb}
use Rattle.buffer.specs.Le.{Bytes}
use Rattle.buffer.proofs.Numbers.{bytes_take, bytes_drop}
use Rattle.refusal.proofs.Booleans.{by_test}
use Rattle.banner.specs.declared.Revision.{Revision}
use Rattle.banner.specs.declared.Revision.TheVariants.{Msgr20, Msgr21}
use Rattle.preamble.specs.declared.Header.{Header}
use Rattle.preamble.specs.Layout.{preamble_bytes}
use Rattle.preamble.specs.Judge.{header_of}
use Rattle.preamble.proofs.Laws.{accepted-preamble}
use Rattle.preamble.proofs.Spelling.{flags-zero, preamble-again}
use Rattle.body.specs.Body.{no_epilogue, body_length, wire_length, late_byte, body, frame_bytes}
use Rattle.body.specs.End.{whole, segment_bytes}
use Rattle.body.proofs.Ends.{segments-own, has_length}
use Rattle.body.proofs.Spelling.{late_again, body-again}
use Rattle.ends.specs.Handed.{header_in, late_place, zero_nibble}
use Rattle.ends.proofs.Locality.{first-room, Judges, front-own, body_own, restricts}
use Rattle.ends.proofs.Checks.{first_holds}

-- ---- its bytes

late-again : (r : Revision) (h : Header) (X : List ℕ) → zero_nibble r h X ≡ true → no_epilogue r h ≡ false → late_again r (get_or (drop (late_place r h) (drop 32 X)) 0 0) ≡ true
late-again Msgr20 h X z c = refl
late-again Msgr21 h X z c =
    let e : get_or (drop (late_place Msgr21 h) (drop 32 X)) 0 0 ≡ get_or (drop 32 X) (late_place Msgr21 h) 0 =
    get_or-drop (late_place Msgr21 h) (drop 32 X) 0 0 ∙ ap (λ (k : ℕ). get_or (drop 32 X) k 0) (add-zero (late_place Msgr21 h)) in
    ap (λ (b : ℕ). ltb b 16) e ∙ (rw c at z)

module _ (r : Revision) (X : List ℕ) (n : ℕ) (bytes : Bytes X) (j : Judges whole r X n) (long : length X ≡ wire_length r (header_in X)) (z : zero_nibble r (header_in X) X ≡ true) where
  abbrev h : Header
  h = header_in X

  abbrev b : List ℕ
  b = drop 32 X

  abbrev p : List ℕ
  p = segment_bytes r h b

  front-spelled : preamble_bytes h ≡ take 32 X
  front-spelled =
      let c = (accepted-preamble (take 32 X) n j.accepted).checked in
      let f = flags-zero (get_or (take 32 X) 26 0) (get_or (take 32 X) 27 0) c.flags in
      preamble-again (take 32 X) (bytes_take 32 bytes) (length-take-le 32 X j.front) f.0 f.1 c.checksum

  body_spelled : b ≡ body r h (late_byte r false) (take h.s1.len p) (drop h.s1.len p)
  body_spelled =
      let d = length-drop 32 X in
      body-again r h b (bytes_drop 32 bytes) (omega arith)
      (λ u. first_holds r h b j.first (first-room r h b j.long u) u)
      j.end
      (late-again r h X z)

  pub spelled_so : X ≡ frame_bytes r h false p
  unfolding frame_bytes
  spelled_so = sym (take-append-drop 32 X) ∙ ap₂ (λ (x y : List ℕ). x ++ y) (sym front-spelled) body_spelled

-- ---- in front of other bytes

nibble_own : (r : Revision) (h : Header) (X Y : List ℕ) → 32 ≤ length X → body_length r h ≤ length (drop 32 X) → drop 32 (X ++ Y) ≡ drop 32 X ++ Y
    → zero_nibble r h (X ++ Y) ≡ true → zero_nibble r h X ≡ true
nibble_own Msgr20 h X Y l₁ l₂ e z = refl
nibble_own Msgr21 h X Y l₁ l₂ e z =
    by_test (leb h.count 1) (λ c. rw c)
    (λ c.
    let k = (has_length Msgr21 h c).0 in
    let i : late_place Msgr21 h < length (drop 32 X) = omega arith in
    let g : get_or (drop 32 (X ++ Y)) (late_place Msgr21 h) 0 ≡ get_or (drop 32 X) (late_place Msgr21 h) 0 =
    ap (λ (t : List ℕ). get_or t (late_place Msgr21 h) 0) e ∙ get_or-append (drop 32 X) Y 0 (late_place Msgr21 h) i in
    rw c (ap (λ (b : ℕ). ltb b 16) (sym g) ∙ (rw c at z)))

module _ (r : Revision) (X Y : List ℕ) (n : ℕ) (l₁ : 32 ≤ length X) (l₂ : body_length r (header_in X) ≤ length (drop 32 X)) (long : length X ≡ wire_length r (header_in X)) where
  abbrev Z : List ℕ
  Z = X ++ Y

  front-written : Bytes Z → Judges whole r Z n → zero_nibble r (header_in Z) Z ≡ true → X ≡ frame_bytes r (header_in Z) false (segment_bytes r (header_in Z) (drop 32 Z))
  front-written b j z =
      let hd : header_in Z ≡ header_in X = ap header_of (front-own r X Y l₁ l₂) in
      let z' : zero_nibble r (header_in X) Z ≡ true = ap (λ (h : Header). zero_nibble r h Z) (sym hd) ∙ z in
      let bx : Bytes X = subst Bytes (take_at X Y (length X) refl) (bytes_take (length X) b) in
      spelled_so r X n bx (restricts r X Y l₁ l₂ j) long (nibble_own r (header_in X) X Y l₁ l₂ (body_own r X Y l₁ l₂) z')
      ∙ ap₂ (λ (h : Header) (p : List ℕ). frame_bytes r h false p) (sym hd)
      (sym (ap₂ (λ (h : Header) (t : List ℕ). segment_bytes r h t) hd (body_own r X Y l₁ l₂) ∙ segments-own r (header_in X) (drop 32 X) Y l₂))

pub written_so : (r : Revision) (X : List ℕ) (n : ℕ) → Bytes X → Judges whole r X n → zero_nibble r (header_in X) X ≡ true
    → take (wire_length r (header_in X)) X ≡ frame_bytes r (header_in X) false (segment_bytes r (header_in X) (drop 32 X))
written_so r X n b j z =
    let w : ℕ = wire_length r (header_in X) in
    let d = length-drop 32 X in
    let f = j.front in
    let l = j.long in
    let lw : length (take w X) ≡ w = length-take-le w X (omega arith) in
    let hd : header_in (take w X) ≡ header_in X = ap header_of (take-take 32 w X (omega arith)) in
    let e = length-drop 32 (take w X) in
    let l₂ : body_length r (header_in (take w X)) ≤ length (drop 32 (take w X)) = rw hd (omega arith) in
    let long : length (take w X) ≡ wire_length r (header_in (take w X)) = lw ∙ sym (ap (wire_length r) hd) in
    subst
    (λ (Z : List ℕ). Bytes Z → Judges whole r Z n → zero_nibble r (header_in Z) Z ≡ true → take w X ≡ frame_bytes r (header_in Z) false (segment_bytes r (header_in Z) (drop 32 Z)))
    (take-append-drop w X)
    (front-written r (take w X) (drop w X) n (omega arith) l₂ long)
    b j z
