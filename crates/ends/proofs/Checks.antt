-- The judgements of a frame, one after the other, hold exactly when its checks do.
use Prim.Native.Nat.{ℕ, zero, suc, ◌+◌, ◌*◌, ◌≤◌, ◌<◌}
use mathlib.Core.List.{List, [], ◌∷◌}
use mathlib.Core.Path.{◌≡◌, refl, sym, ap, ap₂, ◌∙◌}
use mathlib.Core.Logic.{◌↔◌}
use mathlib.Core.Bool.{Bool, true, false, not, cond, ◌&&◌, and-false}
use native.Mathlib.Omega.{arith}
use native.Mathlib.Nat.{add-zero}
use lib.ListN.{length, take, drop, get_or, length-drop}
use lib.Seq.{take_at, get_or-drop, length-take-le}
use lib.Dec.{lit<, leb, ltb, eqb}
use borrow.Author.Tests.{lt-ltb, ltb-true, le-leb, leb-true, lt-leb, eq-eqb, eqb-true, not-true, not-false}
use Rattle.buffer.specs.Le.{number_at}
use Rattle.refusal.specs.declared.Refusal.TheVariants as refusal
use Rattle.refusal.specs.Refusals.{Judged, fine, refused, or_else, unless}
use Rattle.refusal.proofs.Judgements.{both-fine, passed}
use Rattle.banner.specs.declared.Revision.{Revision}
use Rattle.banner.specs.declared.Revision.TheVariants.{Msgr20, Msgr21}
use Rattle.preamble.specs.declared.Header.{Header}
use Rattle.preamble.proofs.Laws.{accepted-preamble, preamble-accepted}
use Rattle.body.specs.declared.Late.{Late}
use Rattle.body.specs.declared.Late.TheVariants as late
use Rattle.body.specs.Body.{segment_sum, cut_into, no_first_sum, no_epilogue, body_length, wire_length}
use Rattle.body.specs.End as end
use Rattle.body.specs.End.{Ended, whole, dropped, by_late, end_unless_refused, late_of, segment_bytes, stored, unused_from, judge_spelling, ending}
use Rattle.stream.specs.Stream.{first_wrong}
use Rattle.refusal.proofs.Booleans.{by_test, both_left, each_true}
use Rattle.buffer.proofs.Numbers.{number-drop}
use Rattle.ends.specs.Handed.{header_in, segment_of, late_place, sum_place, late_in, is_compared, unused_field, flags_fine, Spelled, Checked, CheckedFirst}
use Rattle.ends.proofs.Locality.{first-room, ends_as, Judges, JudgesFirst}
use Rattle.body.proofs.Checksums.{every-sum, all-sums, every-unused, all-unused}
use Rattle.body.proofs.Fields.{at20, at21}

abbrev pub late_as : Bool → Late
late_as abort = cond abort late.Aborted late.Complete

-- ---- the late byte

-- c: there is no epilogue; g: its spelling; l: what its late byte says; j: its checksums
abbrev end_by : Bool → Judged → Late → ℕ → Judged → Ended
end_by c g l b j = cond c whole (end_unless_refused g (by_late l b j))

end_whole : (c : Bool) (g : Judged) (l : Late) (b : ℕ) (j : Judged) → end_by c g l b j ≡ whole
    → (cond c late.Complete l ≡ late.Complete) × ((c ≡ false → g ≡ fine) × (c ≡ false → j ≡ fine))
end_whole true g l b j e = (refl, (λ f. cc, λ f. cc))
end_whole false (refused n) l b j e = (cc, (λ f. cc, λ f. cc))
end_whole false fine late.Complete b fine e = (refl, (λ f. refl, λ f. refl))
end_whole false fine late.Complete b (refused n) e = (refl, (λ f. refl, λ f. cc))
end_whole false fine late.Aborted b j e = (cc, (λ f. refl, λ f. cc))
end_whole false fine late.Wrong b j e = (cc, (λ f. refl, λ f. cc))

whole-end : (c : Bool) (g : Judged) (l : Late) (b : ℕ) (j : Judged) → cond c late.Complete l ≡ late.Complete → (c ≡ false → g ≡ fine) → (c ≡ false → j ≡ fine) → end_by c g l b j ≡ whole
whole-end true g l b j e s f = refl
whole-end false g l b j e s f = rw (s refl, e, f refl)

end-dropped : (c : Bool) (g : Judged) (l : Late) (b : ℕ) (j : Judged) → end_by c g l b j ≡ dropped → (cond c late.Complete l ≡ late.Aborted) × (c ≡ false → g ≡ fine)
end-dropped true g l b j e = (cc, λ f. cc)
end-dropped false (refused n) l b j e = (cc, λ f. cc)
end-dropped false fine late.Complete b fine e = (cc, λ f. refl)
end-dropped false fine late.Complete b (refused n) e = (cc, λ f. refl)
end-dropped false fine late.Aborted b j e = (refl, λ f. refl)
end-dropped false fine late.Wrong b j e = (cc, λ f. refl)

dropped-end : (c : Bool) (g : Judged) (l : Late) (b : ℕ) (j : Judged) → cond c late.Complete l ≡ late.Aborted → (c ≡ false → g ≡ fine) → end_by c g l b j ≡ dropped
dropped-end true g l b j e s = cc
dropped-end false g l b j e s = rw (s refl, e)

-- ---- segment 1's own checksum

pub first_holds : (r : Revision) (h : Header) (b : List ℕ) → first_wrong r h b ≡ false → h.s1.len + 4 ≤ length b → no_first_sum r h ≡ false
    → number_at 4 h.s1.len b ≡ segment_sum (take h.s1.len b)
first_holds r h b e l u =
    eqb-true (number_at 4 h.s1.len b) (segment_sum (take h.s1.len b))
    (not-false (eqb (number_at 4 h.s1.len b) (segment_sum (take h.s1.len b))) (rw (u, le-leb (h.s1.len + 4) (length b) l) at e))

pub first_fine : (r : Revision) (h : Header) (b : List ℕ) → (no_first_sum r h ≡ false → number_at 4 h.s1.len b ≡ segment_sum (take h.s1.len b)) → first_wrong r h b ≡ false
first_fine r h b f =
    by_test (no_first_sum r h) (λ e. rw e)
    (λ e. rw (e, eq-eqb (number_at 4 h.s1.len b) (segment_sum (take h.s1.len b)) (f e)) (and-false (leb (h.s1.len + 4) (length b))))

-- ---- the whole frame

module _ (X : List ℕ) (n : ℕ) where
  abbrev h : Header
  h = header_in X

  abbrev b : List ℕ
  b = drop 32 X

  abbrev epilogue : Revision → List ℕ
  epilogue r = drop (late_place r h) b

  late_byte_lem : (r : Revision) → get_or (epilogue r) 0 0 ≡ get_or b (late_place r h) 0
  late_byte_lem r = get_or-drop (late_place r h) b 0 0 ∙ ap (λ (k : ℕ). get_or b k 0) (add-zero (late_place r h))

  late-said : (r : Revision) → cond (no_epilogue r h) late.Complete (late_of r (get_or (epilogue r) 0 0)) ≡ late_in r h X
  late-said r = ap (λ (k : ℕ). cond (no_epilogue r h) late.Complete (late_of r k)) (late_byte_lem r)

  first-segment : (r : Revision) → body_length r h ≤ length b → take h.s1.len (segment_bytes r h b) ≡ take h.s1.len b
  first-segment r l = take_at (take h.s1.len b) _ h.s1.len (length-take-le h.s1.len b (omega arith))

  -- its checksum, which msgr2.1 has behind it
  first-sum : first_wrong Msgr21 h b ≡ false → body_length Msgr21 h ≤ length b → not (eqb h.s1.len 0) ≡ true → number_at 4 h.s1.len b ≡ segment_sum (segment_of Msgr21 h 0 X)
  first-sum w m u =
      let v = not-true (eqb h.s1.len 0) u in
      first_holds Msgr21 h b w (first-room Msgr21 h b m v) v ∙ ap segment_sum (sym (first-segment Msgr21 m))

  -- both ways of saying how long it is
  length-body : (r : Revision) → wire_length r h ≤ length X → body_length r h ≤ length b
  length-body r l = (let d = length-drop 32 X in omega arith)

  length-wire : (r : Revision) → 32 ≤ length X → body_length r h ≤ length b → wire_length r h ≤ length X
  length-wire r f l = (let d = length-drop 32 X in omega arith)

  -- a checksum field, in its epilogue and behind the preamble
  field20 : (k : ℕ) → k < 4 → get_or (stored Msgr20 (epilogue Msgr20)) k 0 ≡ number_at 4 (sum_place Msgr20 h k) b
  field20 k l = at20 (epilogue Msgr20) k l ∙ number-drop 4 (1 + k * 4) (late_place Msgr20 h) b

  field21 : (k : ℕ) → k < 3 → get_or (stored Msgr21 (epilogue Msgr21)) k 0 ≡ number_at 4 (sum_place Msgr21 h (suc k)) b
  field21 k l = at21 (epilogue Msgr21) k l ∙ number-drop 4 (1 + k * 4) (late_place Msgr21 h) b

  -- the spelling
  spelled : (r : Revision) → (no_epilogue r h ≡ false → judge_spelling r h (epilogue r) ≡ fine) → Spelled r X
  spelled Msgr20 f =
      let e : List ℕ = epilogue Msgr20 in
      let p = both-fine (unused_from h.count 1 (stored Msgr20 e)) (end.judge_late_flags Msgr20 (get_or e 0 0)) (f refl) in
      record {
        unused = λ k l u. sym (field20 k l) ∙ every-unused h.count 1 (stored Msgr20 e) p.0 k l (let t = leb-true h.count k u in omega arith);
        flags = ap (flags_fine Msgr20) (sym (late_byte_lem Msgr20)) ∙ passed (ltb (get_or e 0 0) 2) (refusal.NonCanonical 0) p.1;
      }
  spelled Msgr21 f = record { unused = go; flags = refl }
    where
      go : (k : ℕ) → k < 4 → unused_field Msgr21 h k ≡ true → number_at 4 (sum_place Msgr21 h k) b ≡ 0
      go zero l u = cc
      go (suc k) l u =
          let q = each_true (not (leb h.count 1)) (leb h.count (suc k)) u in
          let p = both-fine (unused_from h.count 2 (stored Msgr21 (epilogue Msgr21))) fine (f (not-true (leb h.count 1) q.0)) in
          let l' : k < 3 = omega arith in
          let t = leb-true h.count (suc k) q.1 in
          sym (field21 k l') ∙ every-unused h.count 2 (stored Msgr21 (epilogue Msgr21)) p.0 k l' (omega arith)

  spelling-back : (r : Revision) → Spelled r X → no_epilogue r h ≡ false → judge_spelling r h (epilogue r) ≡ fine
  spelling-back Msgr20 s c =
      ap₂ or_else
      (all-unused h.count 1 (stored Msgr20 (epilogue Msgr20)) (λ k l u. field20 k l ∙ s.unused k l (le-leb h.count k (omega arith))))
      (ap (λ (t : Bool). unless t (refusal.NonCanonical 0)) (ap (flags_fine Msgr20) (late_byte_lem Msgr20) ∙ s.flags))
  spelling-back Msgr21 s c =
      ap (λ (j : Judged). or_else j fine)
      (all-unused h.count 2 (stored Msgr21 (epilogue Msgr21))
      (λ k l u. field21 k l ∙ s.unused (suc k) (let l' : k < 3 = l in omega arith) (ap₂ ◌&&◌ (ap not c) (le-leb h.count (suc k) (omega arith)))))

  -- the checksums, where the frame is complete
  abbrev segments : Revision → List (List ℕ)
  segments r = cut_into (h.s1.len ∷ h.s2.len ∷ h.s3.len ∷ h.s4.len ∷ []) (segment_bytes r h b)

  sums : (r : Revision) → (no_epilogue r h ≡ false → end.compared r h (epilogue r) (segment_bytes r h b) ≡ fine) → first_wrong r h b ≡ false → body_length r h ≤ length b
      → (k : ℕ) → k < 4 → is_compared late.Complete r h k ≡ true → number_at 4 (sum_place r h k) b ≡ segment_sum (segment_of r h k X)
  sums Msgr20 f w m k l u =
      sym (field20 k l) ∙ every-sum h.count 1 (stored Msgr20 (epilogue Msgr20)) (segments Msgr20) (f refl) k l (let t = ltb-true k h.count u in omega arith)
  sums Msgr21 f w m zero l u = first-sum w m u
  sums Msgr21 f w m (suc k) l u =
      let t = ltb-true (suc k) h.count u in
      let l' : k < 3 = omega arith in
      sym (field21 k l') ∙ every-sum h.count 2 (stored Msgr21 (epilogue Msgr21)) (drop 1 (segments Msgr21)) (f (lt-leb h.count 1 (omega arith))) k l' (omega arith)

  compared-back : (r : Revision) → Checked late.Complete r X n → end.compared r h (epilogue r) (segment_bytes r h b) ≡ fine
  compared-back Msgr20 c =
      all-sums h.count 1 (stored Msgr20 (epilogue Msgr20)) (segments Msgr20) (λ k l u. field20 k l ∙ c.sums k l (lt-ltb k h.count (omega arith)))
  compared-back Msgr21 c =
      all-sums h.count 2 (stored Msgr21 (epilogue Msgr21)) (drop 1 (segments Msgr21))
      (λ k l u. let l' : k < 3 = l in field21 k l ∙ c.sums (suc k) (omega arith) (lt-ltb (suc k) h.count (omega arith)))

  -- segment 1's, which is compared in aborted frames too
  sums-dropped : (r : Revision) → first_wrong r h b ≡ false → body_length r h ≤ length b
      → (k : ℕ) → k < 4 → is_compared late.Aborted r h k ≡ true → number_at 4 (sum_place r h k) b ≡ segment_sum (segment_of r h k X)
  sums-dropped Msgr20 w m k l u = cc
  sums-dropped Msgr21 w m zero l u = first-sum w m u
  sums-dropped Msgr21 w m (suc k) l u = cc

  first_back : (kind : Late) (r : Revision) → Checked kind r X n → is_compared kind Msgr21 h 0 ≡ not (eqb h.s1.len 0) → first_wrong r h b ≡ false
  first_back kind Msgr20 c e = refl
  first_back kind Msgr21 c e = first_fine Msgr21 h b (λ u. c.sums 0 (lit< tt) (e ∙ ap not u) ∙ ap segment_sum (first-segment Msgr21 (length-body Msgr21 c.arrived)))

  checked : (kind : Late) (x : Ended) (r : Revision) → Judges x r X n → Spelled r X → late_in r h X ≡ kind
      → ((k : ℕ) → k < 4 → is_compared kind r h k ≡ true → number_at 4 (sum_place r h k) b ≡ segment_sum (segment_of r h k X)) → Checked kind r X n
  checked kind x r j spelling said sums =
      let a = accepted-preamble (take 32 X) n j.accepted in
      record { preamble = a.checked; store = a.store; arrived = length-wire r j.front j.long; spelling = spelling; late = said; sums = sums }

  judges : (kind : Late) (x : Ended) (r : Revision) → Checked kind r X n → is_compared kind Msgr21 h 0 ≡ not (eqb h.s1.len 0) → ending r h (epilogue r) (segment_bytes r h b) ≡ x → Judges x r X n
  judges kind x r c f e = record {
    front = (let l = c.arrived in omega arith);
    accepted = preamble-accepted (take 32 X) n c.preamble c.store;
    long = length-body r c.arrived;
    first = first_back kind r c f;
    end = e;
  }

  pub checks : (r : Revision) (abort : Bool) → Judges (ends_as abort) r X n ↔ Checked (late_as abort) r X n
  unfolding ending
  checks r false = (
    λ j. let e = end_whole (no_epilogue r h) (judge_spelling r h (epilogue r)) (late_of r (get_or (epilogue r) 0 0)) _ _ j.end in
        checked late.Complete whole r j (spelled r e.1.0) (sym (late-said r) ∙ e.0) (sums r e.1.1 j.first j.long),
    λ c. judges late.Complete whole r c refl
        (whole-end (no_epilogue r h) (judge_spelling r h (epilogue r)) (late_of r (get_or (epilogue r) 0 0)) _ _ (late-said r ∙ c.late) (spelling-back r c.spelling) (λ f. compared-back r c)),
  )
  checks r true = (
    λ j. let e = end-dropped (no_epilogue r h) (judge_spelling r h (epilogue r)) (late_of r (get_or (epilogue r) 0 0)) _ _ j.end in
        checked late.Aborted dropped r j (spelled r e.1) (sym (late-said r) ∙ e.0) (sums-dropped r j.first j.long),
    λ c. judges late.Aborted dropped r c refl
        (dropped-end (no_epilogue r h) (judge_spelling r h (epilogue r)) (late_of r (get_or (epilogue r) 0 0)) _ _ (late-said r ∙ c.late) (spelling-back r c.spelling)),
  )

  -- segment 1, reported early
  pub first-checked : (r : Revision) → JudgesFirst r X n → CheckedFirst r X n
  first-checked r j = record {
    preamble = (accepted-preamble (take 32 X) n j.accepted).checked;
    store = (accepted-preamble (take 32 X) n j.accepted).store;
    early = j.early;
    arrived = (let d = length-drop 32 X in let l = j.long in let f = j.front in omega arith);
    sum = first_holds r h b j.first j.long (not-true (no_first_sum r h) (both_left (not (no_first_sum r h)) (ltb 1 h.count) j.early));
  }

  pub checked-first : (r : Revision) → CheckedFirst r X n → JudgesFirst r X n
  checked-first r c = record {
    front = (let l = c.arrived in omega arith);
    accepted = preamble-accepted (take 32 X) n c.preamble c.store;
    first = first_fine r h b (λ _. c.sum);
    early = c.early;
    long = (let d = length-drop 32 X in let l = c.arrived in omega arith);
  }
