-- Bytes add up: what was unfinished and what is taken is what is reported and what is unfinished then.
use Prim.Native.Nat.{ℕ, ◌+◌, ◌-◌, ◌≤◌}
use mathlib.Core.List.{List, [], ◌∷◌}
use mathlib.Core.Path.{◌≡◌, refl, sym, ap, ◌∙◌}
use mathlib.Core.Bool.{Bool, true, false, true≢false}
use native.Mathlib.Omega.{arith}
use native.Mathlib.Nat.{add-zero, zero-add, add_assoc}
use lib.ListN.{length, take}
use lib.Dec.{leb, ltb, eqb}
use borrow.Author.Tests.{ltb-false, leb-true, not-true, not-false}
use Rattle.buffer.specs.Le.{number_at}
use Rattle.refusal.specs.declared.Numbers.{Numbers}
use Rattle.refusal.specs.Refusals.{Judged, fine, refused, is_fine}
use Rattle.refusal.proofs.Booleans.{at_test, by_cond}
use Rattle.refusal.proofs.Judgements.{fine-is}
use Rattle.banner.specs.Banner.{judge_magic, judge_length, judge_features, features_of}
use Rattle.banner.proofs.Lengths.{long-enough}
use Rattle.preamble.specs.Layout.{total}
use Rattle.preamble.specs.Judge.{header_of, judge_preamble}
use Rattle.body.specs.Body.{segment_sum, no_first_sum, first_sum_length, no_epilogue, wire_length}
use Rattle.body.specs.End.{Ended, whole, dropped, refused_for, ending}
use Rattle.stream.specs.Events.{role_of, passing}
use Rattle.stream.proofs.Events.{by_event}
use Rattle.receiver.specs.declared.Stage.{Stage}
use Rattle.receiver.specs.declared.Stage.TheVariants as stage
use Rattle.receiver.specs.declared.Known.{Known}
use Rattle.receiver.specs.declared.State.{State}
use Rattle.receiver.specs.Report.{Report}
use Rattle.std.specs.Prelude.{Some, None}
use Rattle.receiver.specs.declared.Received.{Received}
use Rattle.receiver.specs.State.{size_of, is_refused, has_first_sum, agrees}
use Rattle.receiver.specs.Step.{with_peer, with_header, with_first, absorbed, stored, size, Stepped, unless_refused, end_banner, end_frame, begin_epilogue, begin_rest, begin_body, report_first, behind_first_sum, reached, chunk, finish, on_byte, onward, feed, Answered, Running}
use Rattle.receiver.specs.Every.{AnyCall, Handed, all_taken, role_length, length_of, all_reported, came_before, unfinished, unfinished_after, unfinished_by, Refuses}
use Rattle.body.proofs.Ends.{no_length}
use Rattle.receiver.proofs.Entries.{at-report}
use Rattle.receiver.proofs.Frames.{rest-silent}
use Rattle.receiver.proofs.Live.{Rules, RefusedFor, After, live, inside_of, chunk-after, feed-after, after-agrees}
use Rattle.receiver.proofs.Every.{feeding, by_answer, refuses}

-- n bytes of the stream since the last report, by the report and the state that it leaves
abbrev Counts : Report → ℕ → State → Type 0
Counts None n st = n ≡ unfinished st
Counts (Some e) n st = passing e (n ≡ role_length (role_of e) st.known + unfinished st) (λ m. Unit {0})

abbrev CountsStep : ℕ → Stepped → Type 0
CountsStep n x = Counts x.report n x.state

judged-counts : (j : Judged) (v : Known) (s : List ℕ) (n : ℕ) (x : Stepped) → (j ≡ fine → CountsStep n x) → CountsStep n (unless_refused j v s x)
judged-counts fine v s n x f = f refl
judged-counts (refused m) v s n x f = tt

banner-counts : (v : Known) (s : List ℕ) (n : ℕ) → n ≡ 10 + v.payload → CountsStep n (end_banner v s)
banner-counts v s n e =
    judged-counts (judge_features v.own.supported v.own.required v.peer.supported v.peer.required) v s n _ (λ _. e ∙ sym (add-zero (10 + v.payload)))

frame-counts : (x : Ended) (v : Known) (s : List ℕ) (n : ℕ) → n ≡ wire_length v.revision v.header → CountsStep n (end_frame x v s)
frame-counts whole v s n e = e ∙ sym (add-zero (wire_length v.revision v.header))
frame-counts dropped v s n e = e ∙ sym (add-zero (wire_length v.revision v.header))
frame-counts (refused_for m) v s n e = tt

module _ (v : Known) (s : List ℕ) (n : ℕ) where
  abbrev sum : ℕ
  sum = first_sum_length v.revision v.header

  epilogue-counts : n ≡ 32 + total v.header + sum → CountsStep n (begin_epilogue v s)
  epilogue-counts e =
      by_cond (CountsStep n) (no_epilogue v.revision v.header) (λ q. let z = no_length v.revision v.header q in frame-counts whole v s n (omega arith)) (λ q. omega arith)

  rest-counts : (got : ℕ) → got ≤ total v.header → n ≡ 32 + sum + got → CountsStep n (begin_rest v got s)
  rest-counts got l e =
      by_cond (CountsStep n) (ltb got (total v.header)) (λ q. e) (λ q. epilogue-counts (let z = ltb-false got (total v.header) q in omega arith))

  body-counts : n ≡ 32 → CountsStep n (begin_body v s)
  body-counts e =
      by_cond (CountsStep n) (has_first_sum v) (λ q. e)
      (λ q. let z : first_sum_length v.revision v.header ≡ 0 = rw (not-false (no_first_sum v.revision v.header) q) in rest-counts 0 (omega arith) (omega arith))

-- an early report adds no bytes
first-counts : (v : Known) (s : List ℕ) (n : ℕ) → has_first_sum v ≡ true → CountsStep n (begin_rest (with_first v) v.header.s1.len s) → CountsStep n (behind_first_sum v s)
first-counts v s n e c =
    let x = begin_rest (with_first v) v.header.s1.len s in
    at_test (λ (b : Bool). CountsStep n (report_first b v.header (begin_rest (with_first v) v.header.s1.len s))) (ltb 1 v.header.count)
    (λ q. let m : n ≡ unfinished x.state = rw (rest-silent (with_first v) v.header.s1.len s e q) at c in m ∙ sym (zero-add _)) (λ q. c)

fine-length : (n : ℕ) → is_fine (judge_length n) ≡ true → 16 ≤ n
fine-length n e = long-enough n (fine-is (judge_length n) e)

finish-counts : (k : Stage) (b : List ℕ) (v : Known) (s : List ℕ) → Rules k v → is_refused k ≡ false → CountsStep (came_before k v + size_of k v) (finish k b v s)
unfolding finish
finish-counts stage.Magic b v s r o = judged-counts (judge_magic (take 8 b)) v s 8 _ (λ _. refl)
finish-counts stage.Length b v s r o = judged-counts (judge_length (number_at 2 0 b)) v s 10 _ (λ _. refl)
finish-counts stage.Payload b v s r o =
    let l = fine-length v.payload r.payload in
    by_cond (CountsStep 26) (leb v.payload 16) (λ e. let m = leb-true v.payload 16 e in banner-counts (with_peer v (features_of (take 16 b))) s 26 (omega arith)) (λ e. refl)
finish-counts stage.Skip b v s r o =
    let l = fine-length v.payload r.payload in
    banner-counts v s (26 + (v.payload - 16)) (omega arith)
finish-counts stage.Preamble b v s r o =
    judged-counts (judge_preamble b (length s)) v s 32 _ (λ _. body-counts (with_header v (header_of b)) s 32 refl)
finish-counts stage.First b v s r o = sym (add-zero (32 + v.header.s1.len))
finish-counts stage.FirstSum b v s r o =
    let n : ℕ = 32 + v.header.s1.len + 4 in
    let z : first_sum_length v.revision v.header ≡ 4 = rw (not-true (no_first_sum v.revision v.header) r.first) in
    by_cond (CountsStep n) (eqb (number_at 4 0 b) (segment_sum (take v.header.s1.len s)))
    (λ _. first-counts v s n r.first (rest-counts (with_first v) s n v.header.s1.len (omega arith) (omega arith))) (λ _. tt)
finish-counts stage.Rest b v s r o = epilogue-counts v s _ (omega arith)
finish-counts stage.Epilogue b v s r o =
    frame-counts (ending v.revision v.header b (take (total v.header) s)) v s _ (omega arith)
finish-counts stage.Refused b v s r o = absurd (let z : ◌≡◌ {A = ℕ} 0 1 = cc in omega arith)

chunk-counts : (st : State) (s xs : List ℕ) → Running st s → st.position.got + length xs ≤ size st → CountsStep (unfinished st + length xs) (chunk st s xs)
chunk-counts st s xs r h =
    let p = st.position in
    at_test (λ (t : Bool). CountsStep (unfinished st + length xs) (reached (absorbed st xs) (stored st s xs) t)) (ltb (p.got + length xs) (size st))
    (λ e. add_assoc (came_before p.stage st.known) p.got (length xs))
    (λ e.
    let f = ltb-false (p.got + length xs) (size st) e in
    let q : unfinished st + length xs ≡ came_before p.stage st.known + size st = omega arith in
    rw q (finish-counts p.stage _ st.known (stored st s xs) (live r).rule r.live))

pub feed-counts : (st : State) (s piece : List ℕ) → Running st s
    → Counts (feed st s piece).received.report (unfinished st + (feed st s piece).received.taken) (feed st s piece).received.state
unfolding feed on_byte
feed-counts st s [] r = add-zero (unfinished st)
feed-counts st s (b ∷ bs) r =
    let x = chunk st s (b ∷ []) in
    let f = feed x.state x.store bs in
    let a = chunk-after st s (b ∷ []) r in
    let c = chunk-counts st s (b ∷ []) r (let i = inside_of r in omega arith) in
    at-report (λ (w : Report). let o = onward w 1 x f in Counts o.received.report (unfinished st + o.received.taken) o.received.state) x.report
    (λ e.
    let d : unfinished st + 1 ≡ unfinished x.state = rw e at c in
    let q : unfinished st + (1 + f.received.taken) ≡ unfinished x.state + f.received.taken = omega arith in
    rw q (feed-counts x.state x.store bs (rw e at a)))
    (λ v e. rw e at c)

-- ---- over a list of calls

-- what stands before a call: n bytes are unfinished, or the stream is refused
pub record Stands (n : ℕ) (st : State) : Type 0 where
  pub agree : agrees st ≡ true
  pub counts : is_refused st.position.stage ≡ false → n ≡ unfinished st

-- and after it
record Next (n : ℕ) (r : Received) : Type 0 where
  adds : n + r.taken ≡ length_of r.report r.state.known + unfinished_after r.report n r
  stands : Stands (unfinished_after r.report n r) r.state

refused-next : (n : ℕ) (m : Numbers) (st : State) (s : List ℕ) (r : Received) (s' : List ℕ) → RefusedFor m st → Refuses st m s r s' → Next n r
refused-next n m st s r s' g a =
    let k : r.state.position.stage ≡ stage.Refused = rw a.state g.stage in
    record {
      adds = rw a.report (sym (zero-add (n + r.taken)));
      stands = record { agree = rw a.state g.agree; counts = λ e. absurd (true≢false (sym (ap is_refused k) ∙ e)) };
    }

fed-next : (n : ℕ) (r : Report) (taken : ℕ) (st : State) (s : List ℕ) → After r st s → Counts r (n + taken) st → Next n (record { state = st; taken = taken; report = r })
fed-next n None taken st s a c = record { adds = c ∙ sym (zero-add (unfinished st)); stands = record { agree = a.agree; counts = λ _. refl } }
fed-next n (Some e) taken st s a c =
    by_event (λ w. After (Some w) st s → Counts (Some w) (n + taken) st → Next n (record { state = st; taken = taken; report = Some w }))
    (λ w p b d. record { adds = rw p (rw p at d); stands = record { agree = after-agrees (Some w) st s b; counts = λ _. rw p } })
    (λ m b d. record { adds = sym (zero-add (n + taken)); stands = record { agree = b.agree; counts = λ i. absurd (true≢false (sym (ap is_refused b.stage) ∙ i)) } })
    e
    a
    c

call_next : (n : ℕ) (st : State) (s piece : List ℕ) (r : Received) (s' : List ℕ) → Stands n st → Answered st s piece r s' → Next n r
call_next n st s piece r s' w a =
    by_answer st s piece w.agree (λ st' m g q. refused-next n m st' s r s' g (refuses st' m a q))
    (λ l.
    let f = feed st s piece in
    rw (a.received, feeding st s piece l) (fed-next n f.received.report f.received.taken f.received.state f.store (feed-after st s piece l) (rw (w.counts l.live) (feed-counts st s piece l))))

pub add-up : (n : ℕ) (st : State) (cs : List AnyCall) → Stands n st → Handed st cs → n + all_taken cs ≡ all_reported cs + unfinished_by n cs
add-up n st [] w h = omega arith
add-up n st (c ∷ cs) w h =
    let x = call_next n st c.lent c.piece c.received c.store w h.0 in
    let ih = add-up (unfinished_after c.received.report n c.received) c.received.state cs x.stands h.1 in
    let a = x.adds in
    omega arith
