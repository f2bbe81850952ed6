-- A built frame is read back: its judgements come to a frame, or to a drop where it was built aborted.
use Prim.Native.Nat.{ℕ, suc, ◌+◌, ◌^◌, ◌≤◌, ◌<◌}
use mathlib.Core.List.{List, [], ◌∷◌, ◌++◌, append_assoc}
use mathlib.Core.Path.{◌≡◌, refl, sym, ap, ap₂, ◌∙◌}
use mathlib.Core.Bool.{Bool, true, false, not, cond, true≢false}
use native.Mathlib.Omega.{arith}
use lib.ListN.{length, take, drop, length-append, length-drop, take-append-drop, drop_of_length-le}
use lib.Seq.{take_at, drop_at, length-take-le}
use lib.Dec.{leb, eqb, ltb}
use borrow.Author.Tests.{leb-true, eq-eqb}
use Rattle.buffer.specs.Splice.{replace_front}
use Rattle.buffer.specs.Le.{le, le_of, number_at, Bytes, words}
use Rattle.buffer.proofs.Numbers.{le_of-le, bytes_take, bytes_drop, bytes-zeros}
use Rattle.refusal.specs.declared.Refusal.TheVariants as refusal
use Rattle.refusal.specs.Refusals.{Judged, fine, or_else, unless}
use Rattle.refusal.proofs.Booleans.{by_test, at_cond}
use Rattle.refusal.proofs.Judgements.{passed}
use Rattle.banner.specs.declared.Revision.{Revision}
use Rattle.banner.specs.declared.Revision.TheVariants.{Msgr20, Msgr21}
use Rattle.preamble.specs.declared.Header.{Header}
use Rattle.preamble.specs.Layout.{total, preamble_bytes}
use Rattle.preamble.specs.Judge.{header_of, judge_header}
use Rattle.preamble.specs.Reading.{HeaderFits}
use Rattle.preamble.proofs.Laws.{length-preamble}
use Rattle.preamble.proofs.Headers.{some-segment}
use Rattle.preamble.proofs.Back.{front-back}
use Rattle.body.specs.Body.{segment_sum, cut_into, segments, field, rest_length, late_byte, epilogue, first_sum, first_sum_length, body_length, wire_length, body, rest_sent, frame_bytes}
use Rattle.body.specs.End as end
use Rattle.body.specs.End.{whole, compare_from, unused_from, segment_bytes, ending}
use Rattle.body.proofs.Laws.{length-sent, length-first-sum, length-frame}
use Rattle.builder.specs.Build.{judge_abort}
use Rattle.builder.proofs.Accepted.{Accepted}
use Rattle.stream.specs.Stream.{first_wrong, frames}
use Rattle.ends.specs.Handed.{is_early}
use Rattle.ends.proofs.Locality.{Judges, ends_as, frame-trace-more}
use Rattle.ends.proofs.FrameReader.{behind}
use Rattle.ends.proofs.Concatenation.{store_as, entries_as, at-ends}
use Rattle.body.proofs.Checksums.{same-sums, same-unused}
use Rattle.body.proofs.Fields.{sum_lt, field_lt, stored20, stored21}
use Rattle.ends.proofs.Checks.{first_fine}

-- ---- segment 1, what stands behind it in msgr2.1, the rest, the epilogue

module _ (r : Revision) (h : Header) (first mid rest last : List ℕ) (e₁ : length first ≡ h.s1.len) (e₂ : length mid ≡ first_sum_length r h) (e₃ : length rest ≡ rest_length h) where
  a₁ : length (first ++ mid) ≡ h.s1.len + first_sum_length r h
  a₁ = length-append first mid ∙ ap₂ ◌+◌ e₁ e₂

  a₂ : length (first ++ mid ++ rest) ≡ total h + first_sum_length r h
  a₂ = length-append (first ++ mid) rest ∙ omega (arith, a₁, e₃)

  first_part : take h.s1.len (first ++ mid ++ rest ++ last) ≡ first
  first_part = simp append_assoc (take_at first (mid ++ (rest ++ last)) h.s1.len e₁)

  segment-parts : segment_bytes r h (first ++ mid ++ rest ++ last) ≡ first ++ rest
  segment-parts =
      ap₂ ◌++◌ first_part
      (rw (append_assoc (first ++ mid) rest last, drop_at (first ++ mid) (rest ++ last) (h.s1.len + first_sum_length r h) a₁) (take_at rest last (rest_length h) e₃))

  last-part : drop (total h + first_sum_length r h) (first ++ mid ++ rest ++ last) ≡ last
  last-part = drop_at (first ++ mid ++ rest) last (total h + first_sum_length r h) a₂

-- a number behind the first part
number-mid : (first rest last : List ℕ) (v n : ℕ) → length first ≡ n → v < 2 ^ 32 → number_at 4 n (first ++ le 4 v ++ rest ++ last) ≡ v
unfolding number_at
number-mid first rest last v n e lt = simp append_assoc (ap (λ (t : List ℕ). le_of (take 4 t)) (drop_at first (le 4 v ++ (rest ++ last)) n e) ∙ le_of-le 4 v lt)

-- an aborted frame of msgr2.1 has more than one segment
only-whole : (h : Header) (abort : Bool) → judge_header h ≡ fine → judge_abort Msgr21 h.count abort ≡ fine → leb h.count 1 ≡ true → abort ≡ false
only-whole h false e a c = refl
only-whole h true e a c =
    let k = leb-true h.count 1 c in
    let m = some-segment h e in
    let one : eqb h.count 1 ≡ true = eq-eqb h.count 1 (omega arith) in
    absurd (true≢false (sym (passed (not (eqb h.count 1)) refusal.AbortOneSegment a) ∙ ap not one))

module _ (h : Header) (first rest : List ℕ) (e₁ : length first ≡ h.s1.len) (bf : Bytes first) (br : Bytes rest) where
  abbrev f1 : ℕ
  f1 = field h.count 1 first

  abbrev f2 : ℕ
  f2 = field h.count 2 (take h.s2.len rest)

  abbrev f3 : ℕ
  f3 = field h.count 3 (take h.s3.len (drop h.s2.len rest))

  abbrev f4 : ℕ
  f4 = field h.count 4 (take h.s4.len (drop h.s3.len (drop h.s2.len rest)))

  -- they are 32-bit numbers
  lt2 : f2 < 2 ^ 32
  lt2 = field_lt h.count 2 (bytes_take h.s2.len br)

  lt3 : f3 < 2 ^ 32
  lt3 = field_lt h.count 3 (bytes_take h.s3.len (bytes_drop h.s2.len br))

  lt4 : f4 < 2 ^ 32
  lt4 = field_lt h.count 4 (bytes_take h.s4.len (bytes_drop h.s3.len (bytes_drop h.s2.len br)))

  read20 : (late : ℕ) → end.compared Msgr20 h (late ∷ words (f1 ∷ f2 ∷ f3 ∷ f4 ∷ [])) (first ++ rest) ≡ fine
  read20 late =
      ap₂ (λ (fs : List ℕ) (ss : List (List ℕ)). compare_from h.count 1 fs ss)
      (stored20 late f1 f2 f3 f4 (field_lt h.count 1 bf) lt2 lt3 lt4)
      (ap₂ (segments h) (take_at first rest h.s1.len e₁) (drop_at first rest h.s1.len e₁))
      ∙ same-sums h.count 1 (segments h first rest)

  read21 : (late : ℕ) → end.compared Msgr21 h (late ∷ words (f2 ∷ f3 ∷ f4 ∷ [])) (first ++ rest) ≡ fine
  read21 late =
      ap₂ (λ (fs : List ℕ) (ss : List (List ℕ)). compare_from h.count 2 fs ss)
      (stored21 late f2 f3 f4 lt2 lt3 lt4)
      (ap (cut_into (h.s2.len ∷ h.s3.len ∷ h.s4.len ∷ [])) (drop_at first rest h.s1.len e₁))
      ∙ same-sums h.count 2 (cut_into (h.s2.len ∷ h.s3.len ∷ h.s4.len ∷ []) rest)

  spelled20 : (late : ℕ) → ltb late 2 ≡ true → end.judge_spelling Msgr20 h (late ∷ words (f1 ∷ f2 ∷ f3 ∷ f4 ∷ [])) ≡ fine
  spelled20 late t =
      ap₂ or_else
      (ap (unused_from h.count 1) (stored20 late f1 f2 f3 f4 (field_lt h.count 1 bf) lt2 lt3 lt4) ∙ same-unused h.count 1 (segments h first rest))
      (ap (λ (b : Bool). unless b (refusal.NonCanonical 0)) t)

  spelled21 : (late : ℕ) → end.judge_spelling Msgr21 h (late ∷ words (f2 ∷ f3 ∷ f4 ∷ [])) ≡ fine
  spelled21 late =
      ap (λ (j : Judged). or_else j fine)
      (ap (unused_from h.count 2) (stored21 late f2 f3 f4 lt2 lt3 lt4) ∙ same-unused h.count 2 (cut_into (h.s2.len ∷ h.s3.len ∷ h.s4.len ∷ []) rest))

  ends20 : (abort : Bool) → ending Msgr20 h (epilogue Msgr20 h (late_byte Msgr20 abort) first rest) (first ++ rest) ≡ ends_as abort
  unfolding ending
  ends20 true = rw (spelled20 1 refl)
  ends20 false = rw (spelled20 0 refl) (ap end.ended_by (read20 0))

  -- with an epilogue, which an aborted frame always has
  ends21 : (abort : Bool) → leb h.count 1 ≡ false → ending Msgr21 h (epilogue Msgr21 h (late_byte Msgr21 abort) first rest) (first ++ rest) ≡ ends_as abort
  unfolding ending
  ends21 true c = rw (c, spelled21 1)
  ends21 false c = rw (c, spelled21 0x0E) (ap end.ended_by (read21 0x0E))

  ends : (r : Revision) (abort : Bool) → judge_header h ≡ fine → judge_abort r h.count abort ≡ fine
      → ending r h (epilogue r h (late_byte r abort) first rest) (first ++ rest) ≡ ends_as abort
  unfolding ending
  ends Msgr20 abort e a = ends20 abort
  ends Msgr21 abort e a = by_test (leb h.count 1) (λ c. let o = only-whole h abort e a c in rw (o, c)) (λ c. ends21 abort c)

-- ---- segment 1's own checksum

sum_back : (r : Revision) (h : Header) (first rest last : List ℕ) → length first ≡ h.s1.len → length rest ≡ rest_length h → Bytes first
    → first_wrong r h (first ++ first_sum r h first ++ rest ++ last) ≡ false
sum_back r h first rest last e₁ e₃ bf =
    first_fine r h (first ++ first_sum r h first ++ rest ++ last)
    (λ u.
    let c : first_sum r h first ≡ le 4 (segment_sum first) = ap (λ (b : Bool). cond b [] (le 4 (segment_sum first))) u in
    ap (λ (m : List ℕ). number_at 4 h.s1.len (first ++ m ++ rest ++ last)) c
    ∙ number-mid first rest last (segment_sum first) h.s1.len e₁ (sum_lt bf)
    ∙ ap segment_sum (sym (first_part r h first (first_sum r h first) rest last e₁ (length-first-sum r h first) e₃)))

-- ---- the whole frame

module _ {space queued : ℕ} (r : Revision) (h : Header) (abort : Bool) (source : List ℕ) (a : Accepted r h abort (length source) space queued) (fits : HeaderFits h) (bytes : Bytes source) where
  abbrev first : List ℕ
  first = take h.s1.len source

  abbrev rest : List ℕ
  rest = rest_sent abort (drop h.s1.len source)

  abbrev mid : List ℕ
  mid = first_sum r h first

  abbrev last : List ℕ
  last = epilogue r h (late_byte r abort) first rest

  abbrev X : List ℕ
  X = frame_bytes r h abort source

  abbrev B : List ℕ
  B = first ++ mid ++ rest ++ last

  length-first : length first ≡ h.s1.len
  length-first = (let e = a.whole in length-take-le h.s1.len source (omega arith))

  length_rest : length rest ≡ rest_length h
  length_rest = (let e = a.whole in length-sent abort (drop h.s1.len source) ∙ length-drop h.s1.len source ∙ omega arith)

  rest-bytes : Bytes rest
  rest-bytes = at_cond Bytes abort (bytes-zeros (length (drop h.s1.len source))) (bytes_drop h.s1.len bytes)

  frame_is : X ≡ preamble_bytes h ++ B
  unfolding frame_bytes body
  frame_is = refl

  take-front : take 32 X ≡ preamble_bytes h
  take-front = ap (take 32) frame_is ∙ take_at (preamble_bytes h) B 32 (length-preamble h)

  drop-front : drop 32 X ≡ B
  drop-front = ap (drop 32) frame_is ∙ drop_at (preamble_bytes h) B 32 (length-preamble h)

  length_x : length X ≡ 32 + body_length r h
  length_x = length-frame r h abort source a.whole

  segments-back : segment_bytes r h (drop 32 X) ≡ first ++ rest
  segments-back = ap (segment_bytes r h) drop-front ∙ segment-parts r h first mid rest last length-first (length-first-sum r h first) length_rest

  first_back : take h.s1.len (drop 32 X) ≡ first
  first_back = ap (take h.s1.len) drop-front ∙ first_part r h first mid rest last length-first (length-first-sum r h first) length_rest

  module _ (n : ℕ) (room : total h ≤ n) where
    header_is : header_of (take 32 X) ≡ h
    header_is = ap header_of take-front ∙ (front-back h n fits a.header room).header

    ends_so : ending r h (drop (total h + first_sum_length r h) (drop 32 X)) (segment_bytes r h (drop 32 X)) ≡ ends_as abort
    ends_so =
        ap₂ (ending r h)
        (ap (drop (total h + first_sum_length r h)) drop-front ∙ last-part r h first mid rest last length-first (length-first-sum r h first) length_rest)
        segments-back
        ∙ ends h first rest length-first (bytes_take h.s1.len bytes) rest-bytes r abort a.header a.late

    judges : Judges (ends_as abort) r X n
    judges =
        let d = length-drop 32 X in
        let e = length_x in
        record {
          front = omega arith;
          accepted = rw take-front (front-back h n fits a.header room).accepted;
          long = rw header_is (omega arith);
          first = rw (header_is, drop-front) (sum_back r h first rest last length-first length_rest (bytes_take h.s1.len bytes));
          end = rw header_is ends_so;
        }

-- what stands in the store then
sent-store : (h : Header) (abort : Bool) (source s : List ℕ) → store_as abort h (take h.s1.len source ++ rest_sent abort (drop h.s1.len source)) s ≡ store_as abort h source s
sent-store h true source s = refl
sent-store h false source s = ap (λ (p : List ℕ). replace_front p s) (take-append-drop h.s1.len source)

-- the definition reports it, and goes on behind it
pub built-trace : {space queued : ℕ} (f : ℕ) (r : Revision) (P : ℕ) (h : Header) (abort : Bool) (source Y s : List ℕ)
    → Accepted r h abort (length source) space queued → HeaderFits h → Bytes source → total h ≤ length s
    → frames (suc f) r P (frame_bytes r h abort source ++ Y) s
    ≡ behind (entries_as (is_early r h) abort h P (P + wire_length r h) (take h.s1.len source) source s) (frames f r (P + wire_length r h) Y (store_as abort h source s))
built-trace f r P h abort source Y s a fits bytes room =
    let X : List ℕ = frame_bytes r h abort source in
    let t = frame-trace-more f P X Y s (judges r h abort source a fits bytes (length s) room) in
    let e = length_x r h abort source a fits bytes in
    let z : drop (32 + body_length r h) X ≡ [] = drop_of_length-le X {i = 32 + body_length r h} (omega arith) in
    rw (header_is r h abort source a fits bytes (length s) room, segments-back r h abort source a fits bytes, first_back r h abort source a fits bytes, z) at t
    ∙ at-ends h P (P + wire_length r h) (take h.s1.len source) (take h.s1.len source ++ rest_sent abort (drop h.s1.len source)) s (is_early r h) abort _
    ∙ rw (sent-store h abort source s)
