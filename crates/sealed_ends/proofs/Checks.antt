-- The judgements of a sealed frame, one after the other, hold exactly when its checks do.
use mathlib.Core.Path.{◌≡◌, refl, sym, ap, ◌∙◌}
use mathlib.Core.Logic.{◌↔◌}
use mathlib.Core.Bool.{Bool, true, false, cond, ◌&&◌}
use mathlib.Core.List.{List, [], ◌∷◌}
use Prim.Native.Nat.{ℕ, zero, suc, ◌+◌, ◌-◌, ◌≤◌, ◌<◌}
use native.Mathlib.Nat.{add-zero}
use native.Mathlib.Numerals.{add-one}
use native.Mathlib.Omega.{arith}
use borrow.Author.Tests.{lt-ltb}
use lib.Dec.{lit<}
use lib.ListN.{length, take, drop, get_or, length-drop}
use lib.Seq.{get_or-drop, get_or-take, length-take-le}
use Rattle.buffer.proofs.Zeros.{zeros-each, each-zeros}
use Rattle.refusal.specs.declared.Refusal.TheVariants as refusal
use Rattle.refusal.specs.Refusals.{Judged, fine, refused, unless}
use Rattle.refusal.proofs.Booleans.{wrong, each_true, both_true}
use Rattle.refusal.proofs.Judgements.{passed}
use Rattle.banner.specs.declared.Revision.TheVariants.{Msgr21}
use Rattle.preamble.specs.declared.Header.{Header}
use Rattle.preamble.specs.Judge.{judge_store}
use Rattle.preamble.specs.Checked.{CheckedPreamble}
use Rattle.preamble.proofs.Laws.{checked-preamble, preamble-checked}
use Rattle.body.specs.declared.Late.{Late}
use Rattle.body.specs.declared.Late.TheVariants as late
use Rattle.body.specs.End.{Ended, whole, dropped, late_of}
use Rattle.aes.specs.Aes.{State}
use Rattle.gcm.specs.Gcm.{plain, opened_by}
use Rattle.gcm.proofs.Opened.{text-length}
use Rattle.secure.specs.Layout.{all_nonces, next_nonce, round_up, inline_length, last_lengths, first_length, no_second_part, no_last_part, second_part_length, last_part_length, sealed_length, part_count, needed}
use Rattle.buffer.specs.Zeros.{all_zero}
use Rattle.secure.specs.Reading.{judge_nonce, judge_padding, judge_first, padding_of, late_byte_in, by_late_status, last_ended}
use Rattle.secure.proofs.LastText.{late-at, padded-at}
use Rattle.secure.proofs.Trip.{no-padding}
use Rattle.sealed_receiver.specs.Step.{text_of}
use Rattle.sealed_ends.specs.Handed as handed
use Rattle.secure.proofs.Counts.{not_spent}
use Rattle.sealed_ends.specs.Handed.{text_in, first_bytes, first_in, header_in, second_bytes, second_in, last_bytes, last_nonce, last_in, length_at, place_at, late_by, ZerosAt, CheckedSealed}
use Rattle.secure.proofs.Bounds.{least, rest-size, last-size}
use Rattle.secure.proofs.Parts.{PartOpens, first-length}
use Rattle.ends.proofs.Locality.{ends_as}
use Rattle.ends.proofs.Checks.{late_as}
use Rattle.sealed_ends.proofs.Judging.{JudgesAt, header_is}

-- ---- zeros

-- of a text from one place on
module _ (i : ℕ) (l : List ℕ) where
  zeros-from : all_zero (drop i l) ≡ true → ZerosAt i (length l) l
  zeros-from e j h k =
      let n : i + (j - i) ≡ j = omega arith in
      ap (λ (m : ℕ). get_or l m 0) (sym n) ∙ sym (get_or-drop i l (j - i) 0) ∙ zeros-each (drop i l) e (j - i)

  from-zeros : ZerosAt i (length l) l → all_zero (drop i l) ≡ true
  from-zeros z = each-zeros (drop i l) (λ k h. get_or-drop i l k 0 ∙ z (i + k) (omega arith) (let d = length-drop i l in omega arith))

-- and of bytes n to r behind a place p
module _ (n r p : ℕ) (l : List ℕ) (fits : p + r ≤ length l) where
  piece-at : (k : ℕ) → n + k < r → get_or (drop n (take r (drop p l))) k 0 ≡ get_or l (p + (n + k)) 0
  piece-at k h = get_or-drop n (take r (drop p l)) k 0 ∙ get_or-take r (drop p l) (n + k) 0 h ∙ get_or-drop p l (n + k) 0

  piece-length : length (drop n (take r (drop p l))) ≡ r - n
  piece-length = length-drop n (take r (drop p l)) ∙ ap (λ (k : ℕ). k - n) (length-take-le r (drop p l) (let d = length-drop p l in omega arith))

  zeros-piece : all_zero (drop n (take r (drop p l))) ≡ true → ZerosAt (p + n) (p + r) l
  zeros-piece e j h k =
      let m : p + (n + (j - (p + n))) ≡ j = omega arith in
      ap (λ (i : ℕ). get_or l i 0) (sym m) ∙ sym (piece-at (j - (p + n)) (omega arith)) ∙ zeros-each (drop n (take r (drop p l))) e (j - (p + n))

  piece-zeros : ZerosAt (p + n) (p + r) l → all_zero (drop n (take r (drop p l))) ≡ true
  piece-zeros z =
      each-zeros (drop n (take r (drop p l)))
      (λ k h. let d = piece-length in piece-at k (omega arith) ∙ z (p + (n + k)) (omega arith) (omega arith))

padding-fine : (bytes : List ℕ) → judge_padding bytes ≡ fine → all_zero bytes ≡ true
padding-fine bytes e = passed (all_zero bytes) refusal.Padding e

-- ---- the last part

-- its segments' places, as they are read one behind the other
module _ (h : Header) (text : List ℕ) where
  late_is : late_byte_in (last_lengths h) text ≡ get_or text (place_at h 3) 0
  late_is = late-at (last_lengths h) 0 text

  abbrev pads : ℕ → List ℕ
  pads k = drop (length_at h k) (take (round_up (length_at h k)) (drop (place_at h k) text))

  abbrev behind_late : List ℕ
  behind_late = drop (place_at h 3 + 1) text

  paddings-zero : all_zero (padding_of (last_lengths h) text) ≡ (all_zero (pads 0) && (all_zero (pads 1) && (all_zero (pads 2) && all_zero behind_late)))
  paddings-zero = padded-at (last_lengths h) 0 text

  -- its text is as long as its segments and the epilogue
  module _ (size : length text ≡ place_at h 3 + 16) where
    within : (k : ℕ) → k < 3 → place_at h k + round_up (length_at h k) ≤ length text
    within zero l = omega arith
    within (suc zero) l = omega arith
    within (suc (suc zero)) l = omega arith
    within (suc (suc (suc k))) l = absurd (omega arith)

    -- each of them
    module _ (e : all_zero (padding_of (last_lengths h) text) ≡ true) where
      each : (all_zero (pads 0) ≡ true) × (all_zero (pads 1) ≡ true) × (all_zero (pads 2) ≡ true) × (all_zero behind_late ≡ true)
      each =
          let a = each_true (all_zero (pads 0)) (all_zero (pads 1) && (all_zero (pads 2) && all_zero behind_late)) (sym paddings-zero ∙ e) in
          let b = each_true (all_zero (pads 1)) (all_zero (pads 2) && all_zero behind_late) a.1 in
          let c = each_true (all_zero (pads 2)) (all_zero behind_late) b.1 in
          (a.0, b.0, c.0, c.1)

      segments-padded : (k : ℕ) → k < 3 → ZerosAt (place_at h k + length_at h k) (place_at h (suc k)) text
      segments-padded k l = zeros-piece (length_at h k) (round_up (length_at h k)) (place_at h k) text (within k l) (one k l)
        where
          one : (k : ℕ) → k < 3 → all_zero (pads k) ≡ true
          one zero l = each.0
          one (suc zero) l = each.1
          one (suc (suc zero)) l = each.2
          one (suc (suc (suc k))) l = absurd (omega arith)

      late-padded : ZerosAt (place_at h 3 + 1) (place_at h 3 + 16) text
      late-padded j x y = zeros-from (place_at h 3 + 1) text each.3 j x (omega arith)

    padded-back : ((k : ℕ) → k < 3 → ZerosAt (place_at h k + length_at h k) (place_at h (suc k)) text) → ZerosAt (place_at h 3 + 1) (place_at h 3 + 16) text
        → all_zero (padding_of (last_lengths h) text) ≡ true
    padded-back z u =
        let one : (k : ℕ) → k < 3 → all_zero (pads k) ≡ true = λ k l. piece-zeros (length_at h k) (round_up (length_at h k)) (place_at h k) text (within k l) (z k l) in
        let b : all_zero behind_late ≡ true = from-zeros (place_at h 3 + 1) text (λ j x y. u j x (omega arith)) in
        paddings-zero
        ∙ both_true (all_zero (pads 0)) (all_zero (pads 1) && (all_zero (pads 2) && all_zero behind_late)) (one 0 (lit< tt))
        (both_true (all_zero (pads 1)) (all_zero (pads 2) && all_zero behind_late) (one 1 (lit< tt)) (both_true (all_zero (pads 2)) (all_zero behind_late) (one 2 (lit< tt)) b))

-- ---- how a frame ends

-- c: there is no last part; l: what its late status says; j: its padding
abbrev end_by : Bool → Late → ℕ → Judged → Ended
end_by c l b j = cond c whole (by_late_status l b j)

end_whole : (c : Bool) (l : Late) (b : ℕ) (j : Judged) → end_by c l b j ≡ whole → (cond c late.Complete l ≡ late.Complete) × (c ≡ false → j ≡ fine)
end_whole true l b j e = (refl, λ f. wrong (sym f))
end_whole false late.Complete b fine e = (refl, λ f. refl)
end_whole false late.Complete b (refused n) e = (refl, λ f. cc)
end_whole false late.Aborted b fine e = (cc, λ f. refl)
end_whole false late.Aborted b (refused n) e = (cc, λ f. cc)
end_whole false late.Wrong b j e = (cc, λ f. cc)

whole-end : (c : Bool) (l : Late) (b : ℕ) (j : Judged) → cond c late.Complete l ≡ late.Complete → (c ≡ false → j ≡ fine) → end_by c l b j ≡ whole
whole-end true l b j e f = refl
whole-end false l b j e f = rw (e, f refl)

end-dropped : (c : Bool) (l : Late) (b : ℕ) (j : Judged) → end_by c l b j ≡ dropped → (cond c late.Complete l ≡ late.Aborted) × (c ≡ false → j ≡ fine)
end-dropped true l b j e = (cc, λ f. wrong (sym f))
end-dropped false late.Complete b fine e = (cc, λ f. refl)
end-dropped false late.Complete b (refused n) e = (cc, λ f. cc)
end-dropped false late.Aborted b fine e = (refl, λ f. refl)
end-dropped false late.Aborted b (refused n) e = (refl, λ f. cc)
end-dropped false late.Wrong b j e = (cc, λ f. cc)

dropped-end : (c : Bool) (l : Late) (b : ℕ) (j : Judged) → cond c late.Complete l ≡ late.Aborted → (c ≡ false → j ≡ fine) → end_by c l b j ≡ dropped
dropped-end true l b j e f = cc
dropped-end false l b j e f = rw (e, f refl)

-- ---- nonces

judged-unspent : (n : ℕ) → n < all_nonces → judge_nonce n ≡ fine
judged-unspent n l = ap (λ (b : Bool). unless b refusal.NoncesSpent) (lt-ltb n all_nonces l)

each-unspent : (n k : ℕ) (a b : Bool) → k < 1 + cond a 0 1 + cond b 0 1 → n < all_nonces → (a ≡ false → suc n < all_nonces) → (b ≡ false → n + (1 + cond a 0 1) < all_nonces) → n + k < all_nonces
each-unspent n k true true l f r e = omega arith
each-unspent n k false true l f r e = (let x = r refl in omega arith)
each-unspent n k true false l f r e = (let x = e refl in omega arith)
each-unspent n k false false l f r e = (let x = e refl in omega arith)

-- ---- the whole frame

module _ (w : List State) (nonce : List ℕ) (n : ℕ) (X : List ℕ) (store : ℕ) where
  abbrev h : Header
  h = header_in w nonce X

  abbrev first : List ℕ
  first = first_in w nonce X

  abbrev rest : List ℕ
  rest = second_in w nonce h X

  abbrev last : List ℕ
  last = last_in w nonce h X

  -- lengths of texts
  part_length : (o text : List ℕ) (i k : ℕ) → i + k ≤ length X → opened_by w o (take k (drop i X)) ≡ plain text → length text ≡ k - 16
  part_length o text i k l e = text-length w o (take k (drop i X)) text e ∙ ap (λ (j : ℕ). j - 16) (length-take-le k (drop i X) (let d = length-drop i X in omega arith))

  rest-length : sealed_length h ≤ length X → no_second_part h ≡ false → opened_by w (next_nonce nonce) (second_bytes h X) ≡ plain rest → length rest ≡ round_up (h.s1.len - inline_length)
  unfolding sealed_length
  rest-length l e o = (let z = rest-size h e in part_length (next_nonce nonce) rest first_length (second_part_length h) (omega arith) o ∙ omega arith)

  last-length : sealed_length h ≤ length X → no_last_part h ≡ false → opened_by w (last_nonce h nonce) (last_bytes h X) ≡ plain last → length last ≡ place_at h 3 + 16
  unfolding sealed_length
  last-length l e o = (let z = last-size h e in part_length (last_nonce h nonce) last (first_length + second_part_length h) (last_part_length h) (omega arith) o ∙ omega arith)

  opened-text : (o bytes : List ℕ) → handed.Opens w o bytes → opened_by w o bytes ≡ plain (text_in w o bytes)
  opened-text o bytes e = e.1 ∙ ap plain (sym (ap text_of e.1))

  -- the first part
  abbrev room : Judged
  room = judge_store (needed h) store

  abbrev padded : Judged
  padded = judge_padding (drop (32 + h.s1.len) first)

  first-checks : length first ≡ 80 → judge_first first store ≡ fine → CheckedPreamble first × (room ≡ fine) × ZerosAt (32 + h.s1.len) (32 + inline_length) first
  unfolding header_in judge_first
  first-checks l e =
      let c = checked-preamble first (room ∷ padded ∷ []) e in
      (c.0, c.1.0, λ j a b. zeros-from (32 + h.s1.len) first (padding-fine (drop (32 + h.s1.len) first) c.1.1.0) j a (omega arith))

  checks-first : length first ≡ 80 → CheckedPreamble first → room ≡ fine → ZerosAt (32 + h.s1.len) (32 + inline_length) first → judge_first first store ≡ fine
  unfolding header_in judge_first
  checks-first l c r z =
      preamble-checked first (room ∷ padded ∷ []) c (r, (no-padding (drop (32 + h.s1.len) first) (from-zeros (32 + h.s1.len) first (λ j a b. z j a (omega arith))), tt))

  -- what is judged of the padding and the late status
  abbrev pads₃ : List ℕ
  pads₃ = padding_of (last_lengths h) last

  abbrev late₃ : ℕ
  late₃ = late_byte_in (last_lengths h) last

  abbrev ending : Ended
  ending = end_by (no_last_part h) (late_of Msgr21 late₃) late₃ (judge_padding pads₃)

  end_is : cond (no_last_part h) whole (last_ended h last) ≡ ending
  unfolding last_ended
  end_is = refl

  late-said : cond (no_last_part h) late.Complete (late_of Msgr21 late₃) ≡ late_by h last
  late-said = ap (λ (b : ℕ). cond (no_last_part h) late.Complete (late_of Msgr21 b)) (late_is h last)

  judged-checked : (x : Ended) (kind : Late) → JudgesAt x w nonce n X store → cond (no_last_part h) late.Complete (late_of Msgr21 late₃) ≡ kind
      → (no_last_part h ≡ false → judge_padding pads₃ ≡ fine) → CheckedSealed kind w nonce n X store
  unfolding part_count
  judged-checked x kind j said pad =
      let g = j.judges in
      let b = g.begins in
      let m = least h in
      let p = first-checks (first-length X (omega (arith, j.long)) b.first) b.judged in
      record {
        arrived = j.long;
        nonces = λ k l. each-unspent n k (no_second_part h) (no_last_part h) l (not_spent n b.first.fresh) (λ e. not_spent (suc n) (b.second e).fresh) (λ e. not_spent (n + (1 + cond (no_second_part h) 0 1)) (g.last e).fresh);
        first = (first, b.first.opens);
        second = λ e. (rest, (b.second e).opens);
        last = λ e. (last, (g.last e).opens);
        preamble = p.0;
        room = p.1;
        padding = record {
          inline = p.2;
          second = λ e i u v.
              let l = rest-length j.long e (b.second e).opens in
              zeros-from (h.s1.len - inline_length) rest (padding-fine (drop (h.s1.len - inline_length) rest) (b.padded e)) i u (omega arith);
          segments = λ e. segments-padded h last (last-length j.long e (g.last e).opens) (padding-fine pads₃ (pad e));
          epilogue = λ e. late-padded h last (last-length j.long e (g.last e).opens) (padding-fine pads₃ (pad e));
        };
        late = sym late-said ∙ said;
      }

  checked-judged : (x : Ended) (kind : Late) → CheckedSealed kind w nonce n X store
      → ((no_last_part h ≡ false → judge_padding pads₃ ≡ fine) → cond (no_last_part h) late.Complete (late_of Msgr21 late₃) ≡ kind → ending ≡ x)
      → JudgesAt x w nonce n X store
  unfolding part_count
  checked-judged x kind c ends =
      let m = least h in
      let f : PartOpens w nonce n (first_bytes X) first = record { fresh = judged-unspent n (rw (add-zero n) at (c.nonces 0 (omega arith))); opens = opened-text nonce (first_bytes X) c.first } in
      record {
        long = c.arrived;
        judges = record {
          begins = record {
            first = f;
            header = header_is w nonce X;
            judged = checks-first (first-length X (omega (arith, c.arrived)) f) c.preamble c.room c.padding.inline;
            second = λ e. record { fresh = judged-unspent (suc n) (rw (add-one n) at (c.nonces 1 (rw e (omega arith)))); opens = opened-text (next_nonce nonce) (second_bytes h X) (c.second e) };
            padded = λ e. no-padding (drop (h.s1.len - inline_length) rest)
                (from-zeros (h.s1.len - inline_length) rest (λ i a b. let z = rest-length c.arrived e (opened-text (next_nonce nonce) (second_bytes h X) (c.second e)) in c.padding.second e i a (omega arith)));
          };
          last = λ e. record { fresh = judged-unspent (n + (1 + cond (no_second_part h) 0 1)) (c.nonces (1 + cond (no_second_part h) 0 1) (rw e (omega arith))); opens = opened-text (last_nonce h nonce) (last_bytes h X) (c.last e) };
          end = end_is ∙ ends pads-fine (late-said ∙ c.late);
        };
      }
    where
      pads-fine : no_last_part h ≡ false → judge_padding pads₃ ≡ fine
      pads-fine e =
          no-padding pads₃
          (padded-back h last (last-length c.arrived e (opened-text (last_nonce h nonce) (last_bytes h X) (c.last e))) (c.padding.segments e) (c.padding.epilogue e))

  pub checks : (abort : Bool) → JudgesAt (ends_as abort) w nonce n X store ↔ CheckedSealed (late_as abort) w nonce n X store
  checks false = (
    λ j. let e = end_whole (no_last_part h) (late_of Msgr21 late₃) late₃ (judge_padding pads₃) (sym end_is ∙ j.judges.end) in judged-checked whole late.Complete j e.0 e.1,
    λ c. checked-judged whole late.Complete c (λ f e. whole-end (no_last_part h) (late_of Msgr21 late₃) late₃ (judge_padding pads₃) e f),
  )
  checks true = (
    λ j. let e = end-dropped (no_last_part h) (late_of Msgr21 late₃) late₃ (judge_padding pads₃) (sym end_is ∙ j.judges.end) in judged-checked dropped late.Aborted j e.0 e.1,
    λ c. checked-judged dropped late.Aborted c (λ f e. dropped-end (no_last_part h) (late_of Msgr21 late₃) late₃ (judge_padding pads₃) e f),
  )
