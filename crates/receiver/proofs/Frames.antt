-- A scan over a frame's bytes gives what the definition tells of it.
use Prim.Native.Nat.{ℕ, ◌+◌, ◌-◌, ◌≤◌, ◌<◌, zero-le}
use mathlib.Core.List.{List, [], ◌++◌, append-nil}
use mathlib.Core.Path.{◌≡◌, refl, sym, ap, ap₂, ◌∙◌}
use mathlib.Core.Bool.{Bool, true, false, not, cond}
use native.Mathlib.Omega.{arith}
use native.Mathlib.Nat.{add-zero, zero-add}
use lib.ListN.{length, take, drop, replicate, length-append, length-drop, length-replicate, drop_of_length-le}
use lib.Seq.{sets, take_at, take_all, take-nil, take-add, drop-drop, length-take-le}
use lib.Dec.{lit<, lit≤, ltb, eqb}
use borrow.Author.Tests.{lt-ltb, le-ltb, ltb-true, le-leb, lt-leb, eqb-false, not-true}
use Rattle.buffer.specs.Le.{number_at}
use Rattle.buffer.specs.Splice.{replace_front}
use Rattle.refusal.specs.Refusals.{row}
use Rattle.refusal.proofs.Booleans.{by_test, at_test, by_less, at_cond}
use Rattle.banner.specs.declared.Revision.{Revision}
use Rattle.banner.specs.declared.Revision.TheVariants.{Msgr20, Msgr21}
use Rattle.preamble.specs.declared.Header.{Header}
use Rattle.preamble.specs.Layout.{total}
use Rattle.body.specs.Body.{segment_sum, rest_length, no_first_sum, no_epilogue, first_sum_length, epilogue_length, body_length, wire_length}
use Rattle.body.specs.End.{Ended, whole, dropped, refused_for, segment_bytes, ending}
use Rattle.stream.specs.declared.Event.TheVariants as event
use Rattle.stream.specs.Stream.{Trace, ended, after, zeroed, first_wrong, first_reported, reported_first, at_end, body_trace}
use Rattle.receiver.specs.declared.Stage.TheVariants as stage
use Rattle.receiver.specs.declared.Known.{Known}
use Rattle.receiver.specs.declared.State.{State}
use Rattle.std.specs.Prelude.{None}
use Rattle.receiver.specs.State.{blank, has_first_sum}
use Rattle.receiver.specs.Step.{Stepped, absorbed, at, next_frame, refused_state, silent, refuse, end_frame, begin_epilogue, begin_rest, begin_body, report_first, behind_first_sum, with_first, finish}
use Rattle.receiver.proofs.Scan.{scan}
use Rattle.buffer.proofs.Sets.{sets-front, sets_behind, take-sets}
use Rattle.buffer.proofs.Numbers.{number-take, number-drop}
use Rattle.buffer.proofs.Parts.{over-longer}
use Rattle.body.proofs.Ends.{no_length, has_length, ending-take, ending-none}
use Rattle.receiver.proofs.Gathers.{trace_by}
use Rattle.receiver.proofs.Stages.{finishing, run, staged, refused-ends}

-- ---- an epilogue is read by its own bytes

ending-block : (revision : Revision) (h : Header) (e p : List ℕ) → no_epilogue revision h ≡ false → epilogue_length revision h ≤ length e
    → ending revision h (sets blank 0 (take (epilogue_length revision h) e)) p ≡ ending revision h e p
ending-block revision h e p q l =
    let n = epilogue_length revision h in
    let k : length (take n e) ≡ n = length-take-le n e l in
    sym (ending-take revision h (sets blank 0 (take n e)) p q)
    ∙ ap (λ (x : List ℕ). ending revision h x p) (take-sets blank (take n e) n k (has_length revision h q).1)
    ∙ ending-take revision h e p q

-- ---- what follows a frame

abbrev pub After : Revision → ℕ → List ℕ → (List ℕ → Trace) → Type 0
After revision Q ys next = (z : Known) (s : List ℕ) → z.revision ≡ revision → trace_by (scan (next_frame z) s Q ys) ≡ next s

-- ---- how a frame ends

end-run : (x : Ended) (y : Known) (s : List ℕ) (Q : ℕ) (ys : List ℕ) (next : List ℕ → Trace) → After y.revision Q ys next → run (end_frame x y s) Q ys ≡ at_end x y.header Q s [] next
end-run whole y s Q ys next a = ap (after (event.Frame y.header) Q s) (a y s refl)
end-run dropped y s Q ys next a = ap (after (event.Dropped y.header) Q (zeroed y.header s)) (a y (zeroed y.header s) refl)
end-run (refused_for n) y s Q ys next a = ap (after (event.Refused n) Q (zeroed y.header s)) (refused-ends (refused_state y n) (zeroed y.header s) Q ys refl)

-- segment 1 is reported early: with more segments an epilogue follows, so nothing else is reported
pub first_some : (r : Revision) (h : Header) → no_first_sum r h ≡ false → 0 < h.s1.len
first_some Msgr20 h e = absurd (let z : ◌≡◌ {A = ℕ} 0 1 = cc in omega arith)
first_some Msgr21 h e = (let z = eqb-false h.s1.len 0 e in omega arith)

first-epilogue : (r : Revision) (h : Header) → no_first_sum r h ≡ false → ltb 1 h.count ≡ true → no_epilogue r h ≡ false
first-epilogue Msgr20 h e c = refl
first-epilogue Msgr21 h e c = lt-leb h.count 1 (ltb-true 1 h.count c)

pub rest-silent : (v : Known) (got : ℕ) (s : List ℕ) → has_first_sum v ≡ true → ltb 1 v.header.count ≡ true → (begin_rest v got s).report ≡ None
rest-silent v got s e c =
    let has = first-epilogue v.revision v.header (not-true (no_first_sum v.revision v.header) e) c in
    at_cond (λ (x : Stepped). x.report ≡ None) (ltb got (total v.header)) refl (rw has)

-- and the store stays
rest-store : (v : Known) (got : ℕ) (s : List ℕ) → (begin_rest v got s).store ≡ s
rest-store v got s =
    at_cond (λ (x : Stepped). x.store ≡ s) (ltb got (total v.header)) refl (at_cond (λ (x : Stepped). x.store ≡ s) (no_epilogue v.revision v.header) refl refl)

-- ---- behind segment 1 and its checksum

-- the end of a body, by the store that its bytes are placed in
end_same : (x : Ended) (h : Header) (at : ℕ) (s p : List ℕ) (next : List ℕ → Trace) → length p ≡ total h → at_end x h at (replace_front p s) [] next ≡ at_end x h at s p next
end_same whole h at s p next e = refl
end_same dropped h at s p next e = rw (over-longer p (replicate (total h) 0) s (omega (arith, e, length-replicate {A = ℕ} (total h) 0)))
end_same (refused_for n) h at s p next e = rw (over-longer p (replicate (total h) 0) s (omega (arith, e, length-replicate {A = ℕ} (total h) 0)))

-- a body behind segment 1's checksum
abbrev rest_trace : Revision → Header → ℕ → List ℕ → List ℕ → (List ℕ → Trace) → Trace
rest_trace revision h P b s next =
    cond (ltb (length b) (body_length revision h)) (ended (replace_front (segment_bytes revision h b) s))
    (at_end (ending revision h (drop (total h + first_sum_length revision h) b) (segment_bytes revision h b)) h (P + wire_length revision h) s (segment_bytes revision h b) next)

module _ (y : Known) (P : ℕ) (b s : List ℕ) (next : List ℕ → Trace) (hs : total y.header ≤ length s)
    (a : After y.revision (P + wire_length y.revision y.header) (drop (body_length y.revision y.header) b) next) where
  -- where the epilogue begins, and the segments' bytes
  abbrev ahead : ℕ
  ahead = total y.header + first_sum_length y.revision y.header

  abbrev payload : List ℕ
  payload = segment_bytes y.revision y.header b

  tail-run : (Q : ℕ) → Q ≡ P + 32 + ahead → ahead ≤ length b → length payload ≡ total y.header
      → run (begin_epilogue y (replace_front payload s)) Q (drop ahead b) ≡ rest_trace y.revision y.header P b s next
  unfolding finish
  tail-run Q hQ hb lp =
      let r = y.revision in
      let h = y.header in
      let n = epilogue_length y.revision y.header in
      let s' = replace_front payload s in
      let e = drop ahead b in
      let x = ending y.revision y.header (drop ahead b) payload in
      let le : length (drop ahead b) ≡ length b - ahead = length-drop ahead b in
      let t : After y.revision (P + wire_length y.revision y.header) (drop (epilogue_length y.revision y.header) (drop ahead b)) next = rw (drop-drop n ahead b) a in
      by_test (no_epilogue r h)
      (λ q.
      let z : epilogue_length y.revision y.header ≡ 0 = no_length r h q in
      let d : drop (epilogue_length y.revision y.header) (drop ahead b) ≡ drop ahead b = rw z in
      let w : Q ≡ P + wire_length y.revision y.header = omega arith in
      rw (q, le-ltb (length b) (body_length r h) (omega arith), ending-none r h e payload q, w) (end-run whole y s' (P + wire_length r h) e next (rw d at t)))
      (λ q.
      let w : Q + epilogue_length y.revision y.header ≡ P + wire_length y.revision y.header = omega arith in
      rw q
      (staged (at stage.Epilogue 0 y) s' Q n e (has_length r h q).0 (zero-add n) (λ l. rw (lt-ltb (length b) (body_length r h) (omega arith)))
      (λ l.
      rw (le-ltb (length b) (body_length r h) (omega arith), ending-block r h e (take (total h) s') q l, take_at payload (drop (length payload) s) (total h) lp, w)
      (end-run x y s' (P + wire_length r h) (drop n e) next t ∙ end_same x h (P + wire_length r h) s payload next lp))))

  -- the segments behind the first got bytes of them, which are q, where k bytes of the body came
  rest-run : (Q got k : ℕ) (q : List ℕ) → length q ≡ got → k ≡ got + first_sum_length y.revision y.header → Q ≡ P + 32 + k → k ≤ length b → got ≤ total y.header
      → payload ≡ q ++ take (total y.header - got) (drop k b)
      → run (begin_rest y got (replace_front q s)) Q (drop k b) ≡ rest_trace y.revision y.header P b s next
  unfolding finish
  rest-run Q got k q hq hk hQ hb hT hc =
      let T = total y.header in
      let m : ℕ = total y.header - got in
      let d = drop k b in
      let ld : length (drop k b) ≡ length b - k = length-drop k b in
      let e : k + (total y.header - got) ≡ ahead = omega arith in
      let full : m ≤ length d → run (begin_epilogue y (sets (replace_front q s) got (take m d))) (Q + m) (drop m d) ≡ rest_trace y.revision y.header P b s next =
      λ t.
      let lt : length (take (total y.header - got) (drop k b)) ≡ total y.header - got = length-take-le m d t in
      let lp : length payload ≡ total y.header = ap length hc ∙ length-append q (take m d) ∙ ap₂ ◌+◌ hq lt ∙ omega arith in
      let placed : sets (replace_front q s) got (take (total y.header - got) (drop k b)) ≡ replace_front payload s = sets_behind s q (take m d) got hq (omega arith) ∙ rw hc in
      let behind : drop (total y.header - got) (drop k b) ≡ drop ahead b = drop-drop m k b ∙ rw e in
      rw (placed, behind) (tail-run (Q + m) (omega arith) (omega arith) lp)
      in
      by_less got T
      (λ l.
      rw (lt-ltb got T l)
      (staged (at stage.Rest got y) (replace_front q s) Q m d (omega arith) (omega arith)
      (λ t. rw (lt-ltb (length b) (body_length y.revision y.header) (omega arith), hc, take_all m d (omega arith)) (ap ended (sets_behind s q d got hq (omega arith)))) full))
      (λ l.
      let z : total y.header - got ≡ 0 = omega arith in
      rw (le-ltb got T l) (rw (z, add-zero Q) at (full (omega arith))))

-- ---- behind an accepted preamble

module _ (y : Known) (P : ℕ) (b s : List ℕ) (next : List ℕ → Trace) (hs : total y.header ≤ length s)
    (a : After y.revision (P + wire_length y.revision y.header) (drop (body_length y.revision y.header) b) next) where
  abbrev h : Header
  h = y.header

  abbrev n₁ : ℕ
  n₁ = y.header.s1.len

  -- no checksum of its own behind segment 1
  plain : first_sum_length y.revision h ≡ 0 → run (begin_rest y 0 s) (P + 32) b ≡ rest_trace y.revision h P b s next
  plain z =
      let e : n₁ + first_sum_length y.revision h ≡ n₁ = omega arith in
      let t : n₁ + rest_length h ≡ total h - 0 = omega arith in
      let c : segment_bytes y.revision h b ≡ take (total h - 0) b = rw (e, ← (take-add n₁ (rest_length h) b), t) in
      rest-run y P b s next hs a (P + 32) 0 0 [] refl (omega arith) (omega arith) zero-le zero-le c

  -- segment 1 has its checksum behind it
  module _ (nf : no_first_sum y.revision h ≡ false) where
    abbrev f : List ℕ
    f = take n₁ b

    abbrev s₁ : List ℕ
    s₁ = replace_front f s

    abbrev G : State
    G = at stage.FirstSum 0 y

    fsl : first_sum_length y.revision h ≡ 4
    fsl = rw nf

    -- it is not there yet
    early : length b < n₁ + 4 → ended s₁ ≡ body_trace y.revision h P b s next
    early l =
        let w : first_wrong y.revision h b ≡ false = rw (nf, lt-leb (n₁ + 4) (length b) l) in
        let u : first_reported y.revision h b ≡ false = rw (nf, lt-leb (n₁ + 4) (length b) l) in
        let d : drop (n₁ + first_sum_length y.revision h) b ≡ [] = drop_of_length-le b {i = n₁ + first_sum_length y.revision h} (omega (arith, fsl)) in
        let c : segment_bytes y.revision h b ≡ f = rw (d, take-nil (rest_length h), append-nil f) in
        rw (w, u, lt-ltb (length b) (body_length y.revision h) (omega (arith, fsl)), c)

    module _ (l : n₁ + 4 ≤ length b) where
      lf : length f ≡ n₁
      lf = length-take-le n₁ b (omega arith)

      stored-sum : number_at 4 0 (sets blank 0 (take 4 (drop n₁ b))) ≡ number_at 4 n₁ b
      stored-sum =
          let k : length (take 4 (drop n₁ b)) ≡ 4 = length-take-le 4 (drop n₁ b) (omega (arith, length-drop n₁ b)) in
          sym (number-take 4 0 4 (sets blank 0 (take 4 (drop n₁ b))) (lit≤ tt))
          ∙ ap (number_at 4 0) (take-sets blank (take 4 (drop n₁ b)) 4 k (lit≤ tt))
          ∙ number-take 4 0 4 (drop n₁ b) (lit≤ tt)
          ∙ number-drop 4 0 n₁ b
          ∙ ap (λ (i : ℕ). number_at 4 i b) (add-zero n₁)

      abbrev w : Known
      w = with_first y

      abbrev Q : ℕ
      Q = P + 36 + n₁

      -- the other segments, behind segment 1
      others : run (begin_rest w n₁ s₁) Q (drop (n₁ + 4) b) ≡ rest_trace y.revision h P b s next
      others =
          let k : n₁ + 4 ≡ n₁ + first_sum_length y.revision h = omega (arith, fsl) in
          let m : total h - n₁ ≡ rest_length h = omega arith in
          rest-run w P b s next hs a Q n₁ (n₁ + 4) f lf k (omega arith) l (omega arith) (rw (m, k))

      -- reported early where more segments follow
      first-reported : run (behind_first_sum y s₁) Q (drop (n₁ + 4) b) ≡ reported_first (ltb 1 h.count) h Q s₁ (rest_trace y.revision h P b s next)
      first-reported =
          let x = begin_rest w n₁ s₁ in
          at_test (λ (c : Bool). run (report_first c h x) Q (drop (n₁ + 4) b) ≡ reported_first c h Q s₁ (rest_trace y.revision h P b s next)) (ltb 1 h.count)
          (λ c. ap (after (event.First h) Q x.store) (rw (rest-silent w n₁ s₁ (rw nf) c) at others) ∙ rw (rest-store w n₁ s₁)) (λ c. others)

      sum-judged : run (cond (eqb (number_at 4 n₁ b) (segment_sum f)) (behind_first_sum y s₁) (refuse y (row 11 1 0 0) (zeroed h s₁))) Q (drop (n₁ + 4) b)
          ≡ body_trace y.revision h P b s next
      sum-judged =
          let t = eqb (number_at 4 n₁ b) (segment_sum f) in
          let wrong : first_wrong y.revision h b ≡ not t = rw (nf, le-leb (n₁ + 4) (length b) l) in
          let reported : first_reported y.revision h b ≡ ltb 1 h.count = rw (nf, le-leb (n₁ + 4) (length b) l) in
          let z : length f ≤ length (replicate {A = ℕ} (total h) 0) = omega (arith, lf, length-replicate {A = ℕ} (total h) 0) in
          by_test t (λ e. rw (wrong, reported, e) first-reported)
          (λ e.
          rw (wrong, e, over-longer f (replicate (total h) 0) s z)
          (ap (after (event.Refused (row 11 1 0 0)) Q (zeroed h s)) (refused-ends (refused_state y (row 11 1 0 0)) (zeroed h s) Q (drop (n₁ + 4) b) refl)))

      sum-ended : run (finishing (absorbed G (take 4 (drop n₁ b))) s₁) (P + 32 + n₁ + 4) (drop 4 (drop n₁ b)) ≡ body_trace y.revision h P b s next
      unfolding finish
      sum-ended =
          let p : P + 32 + n₁ + 4 ≡ P + 36 + n₁ = omega arith in
          rw (stored-sum, take_at f (drop (length f) s) n₁ lf, p, drop-drop 4 n₁ b) sum-judged

    first_run : run (silent (at stage.First 0 y) s) (P + 32) b ≡ body_trace y.revision h P b s next
    unfolding finish
    first_run =
        let d = length-drop n₁ b in
        staged (at stage.First 0 y) s (P + 32) n₁ b (first_some y.revision h nf) (zero-add n₁)
        (λ l. ap ended (sets-front s b (omega arith) ∙ rw (take_all n₁ b (omega arith))) ∙ early (omega arith))
        (λ l.
        rw (sets-front s f (omega (arith, length-take-le n₁ b l)))
        (staged G s₁ (P + 32 + n₁) 4 (drop n₁ b) (lit< tt) refl (λ t. early (omega arith)) (λ t. sum-ended (omega arith))))

  pub body_run : run (begin_body y s) (P + 32) b ≡ body_trace y.revision h P b s next
  body_run = by_test (no_first_sum y.revision h)
      (λ e.
      let w : first_wrong y.revision h b ≡ false = rw e in
      let u : first_reported y.revision h b ≡ false = rw e in
      let begins : begin_body y s ≡ begin_rest y 0 s = rw e in
      rw (w, u, begins) (plain (rw e)))
      (λ e. let begins : begin_body y s ≡ silent (at stage.First 0 y) s = rw e in rw begins (first_run e))
