-- What the step keeps: a receiver that is not refused has its fields in order, and a refusal leaves it refused.
use Prim.Native.Nat.{ℕ, suc, ◌+◌, ◌≤◌, ◌<◌, zero-le}
use mathlib.Core.List.{List, [], ◌∷◌}
use mathlib.Core.Path.{◌≡◌, refl, sym, ap, ◌∙◌}
use mathlib.Core.Bool.{Bool, true, false, not, cond, ◌&&◌, ◌||◌}
use native.Mathlib.Omega.{arith}
use native.Mathlib.Nat.{le_refl}
use lib.ListN.{length, take, drop, get_or}
use lib.Seq.{length-sets}
use lib.Dec.{lit<, leb, ltb, eqb}
use borrow.Author.Tests.{eqb-true, lt-ltb, ltb-true, leb-true, leb-false, le-leb, not-true}
use Rattle.buffer.specs.Le.{number_at}
use Rattle.refusal.specs.declared.Numbers.{Numbers}
use Rattle.refusal.specs.Refusals.{Judged, fine, refused, row, is_fine, no_refusal}
use Rattle.banner.specs.declared.Features.{Features}
use Rattle.banner.specs.declared.Revision.{Revision}
use Rattle.banner.specs.declared.Revision.TheVariants.{Msgr20, Msgr21}
use Rattle.banner.specs.Bits.{missing}
use Rattle.banner.specs.Banner.{magic, same_from, judge_own, judge_magic, judge_length, judge_features, revision_of, features_of, same_revision}
use Rattle.preamble.specs.declared.Header.{Header}
use Rattle.preamble.specs.Layout.{total}
use Rattle.preamble.specs.Judge.{header_of, judge_header, judge_preamble}
use Rattle.preamble.proofs.Laws.{accepted-preamble, checked-header, store-fits}
use Rattle.preamble.proofs.Allowed.{allowed-preamble}
use Rattle.body.specs.declared.Late.{Late}
use Rattle.body.specs.declared.Late.TheVariants as late
use Rattle.body.specs.Body.{segment_sum, segments, epilogue_from, in_epilogue, no_first_sum, no_epilogue}
use Rattle.body.specs.End as ended
use Rattle.body.specs.End.{Ended, whole, dropped, refused_for, compare_from, unused_from, judge_spelling, by_late, late_of, ending}
use Rattle.stream.specs.Stream.{zeroed}
use Rattle.receiver.specs.declared.Stage.{Stage}
use Rattle.receiver.specs.declared.Stage.TheVariants as stage
use Rattle.receiver.specs.declared.Place.{Place}
use Rattle.receiver.specs.declared.Place.TheVariants as place
use Rattle.receiver.specs.declared.Known.{Known}
use Rattle.receiver.specs.declared.State.{State}
use Rattle.receiver.specs.Report.{Report}
use Rattle.buffer.specs.Zeros.{all_zero}
use Rattle.receiver.specs.State.{stage_of, size_of, place_of, is_refused, needed, blank, has_first_sum, given, own_rule, payload_rule, peer_rule, revision_rule, header_rule, first_sum_rule, first_rule, refusal_rule, rules, least_of, count_rule, in_block, block_rule, agrees_at, agrees}
use Rattle.receiver.specs.Step.{at, only_own, with_payload, with_peer, with_revision, with_header, with_first, next_frame, refused_state, block_with, store_with, absorbed, stored, size, Stepped, refuse, unless_refused, end_banner, end_frame, begin_epilogue, begin_rest, begin_body, report_first, behind_first_sum, reached, chunk, finish, on_byte, feed, needed_by, Running}
use Rattle.refusal.proofs.Booleans.{by_test, at_test, by_cond, at_cond, wrong, both_left, both_right, each_true, both_true}
use Rattle.receiver.proofs.Ranks.{stage_at}
use Rattle.buffer.proofs.Sets.{drop-sets}
use Rattle.buffer.proofs.Zeros.{zeros-later}
use Rattle.refusal.proofs.Allowed.{Allowed, allowed-fine, allowed_cond, allowed_or}
use Rattle.body.proofs.Allowed.{AllowedEnd, end_whole, end-dropped, end-turned, end_by_lem, end_or}
use Rattle.body.proofs.Ends.{has_length}
use Rattle.receiver.proofs.Frames.{first_some, rest-silent}
use Rattle.receiver.proofs.Machine as machine
use Rattle.receiver.proofs.Scan.{byte_step, machine_feed}

-- ---- refusals that a receiver gives

-- a refusal of bytes that came, and not of our own features
abbrev pub of_bytes : Numbers → Bool
of_bytes n = given n && not (eqb n.number 16)

abbrev Given : Judged → Type 0
Given = Allowed of_bytes

given-features : (a b c d : ℕ) → Given (judge_features a b c d)
unfolding judge_features
given-features a b c d =
    allowed_or of_bytes (allowed_cond of_bytes (eqb (missing 64 d a) 0) _ refl) (allowed_or of_bytes (allowed_cond of_bytes (eqb (missing 64 b c) 0) _ refl) (allowed-fine of_bytes))

given-preamble : (bs : List ℕ) (n : ℕ) → Given (judge_preamble bs n)
unfolding judge_preamble
given-preamble bs n = allowed-preamble of_bytes refl (λ _. refl) (λ _. refl) (λ _. refl) (λ _. refl) (λ _. refl) bs (total (header_of bs)) n [] (allowed-fine of_bytes)

given_compare : (count k : ℕ) (fs : List ℕ) (ss : List (List ℕ)) → Given (compare_from count k fs ss)
given_compare count k [] ss = allowed-fine of_bytes
given_compare count k (f ∷ fs) ss =
    allowed_or of_bytes (allowed_cond of_bytes (ltb count k || eqb f (segment_sum (get_or ss 0 []))) (row 11 k 0 0) refl) (given_compare count (suc k) fs (drop 1 ss))

given-unused : (count k : ℕ) (fs : List ℕ) → Given (unused_from count k fs)
given-unused count k [] = allowed-fine of_bytes
given-unused count k (f ∷ fs) = allowed_or of_bytes (allowed_cond of_bytes (leb k count || eqb f 0) (row 24 k 0 0) refl) (given-unused count (suc k) fs)

given-flags : (revision : Revision) (b : ℕ) → Given (ended.judge_late_flags revision b)
given-flags Msgr20 b = allowed_cond of_bytes (ltb b 2) (row 24 0 0 0) refl
given-flags Msgr21 b = allowed-fine of_bytes

abbrev GivenEnd : Ended → Type 0
GivenEnd = AllowedEnd of_bytes

end_of : (x : Late) (b : ℕ) {j : Judged} → Given j → GivenEnd (by_late x b j)
end_of late.Wrong b k = end-turned of_bytes (row 12 b 0 0) refl
end_of late.Aborted b k = end-dropped of_bytes
end_of late.Complete b {j} k = end_by_lem of_bytes j k

given-ending : (revision : Revision) (h : Header) (e p : List ℕ) → GivenEnd (ending revision h e p)
unfolding ending
given-ending revision h e p =
    let b = get_or e 0 0 in
    let sums = ended.stored revision e in
    at_cond GivenEnd (no_epilogue revision h) (end_whole of_bytes)
    (end_or of_bytes (judge_spelling revision h e) (allowed_or of_bytes (given-unused h.count (epilogue_from revision) sums) (given-flags revision b))
    (end_of (late_of revision b) b (given_compare h.count (epilogue_from revision) sums (in_epilogue revision (segments h (take h.s1.len p) (drop h.s1.len p))))))

-- ---- the rules, one by one

pub record Rules (k : Stage) (v : Known) : Type 0 where
  pub own : own_rule k v ≡ true
  pub payload : payload_rule k v ≡ true
  pub peer : peer_rule k v ≡ true
  pub revision : revision_rule k v ≡ true
  pub header : header_rule k v ≡ true
  pub first : first_sum_rule k v ≡ true
  pub mark : first_rule k v ≡ true
  pub refusal : refusal_rule k v ≡ true

pub rules_of : (k : Stage) (v : Known) → rules k v ≡ true → Rules k v
rules_of k v e = search (both_left, both_right)

rules-all : (k : Stage) (v : Known) → Rules k v → rules k v ≡ true
rules-all k v r = rw (r.own, r.payload, r.peer, r.revision, r.header, r.first, r.mark, r.refusal)

-- ---- what holds of a live state, whatever the store

pub record Live (k : Stage) (got : ℕ) (block : List ℕ) (v : Known) : Type 0 where
  pub rule : Rules k v
  pub least : least_of k v ≤ got
  pub inside : got < size_of k v
  pub zeros : block_rule k got block ≡ true

agree-live : (k : Stage) (got : ℕ) (b : List ℕ) (v : Known) → is_refused k ≡ false → Live k got b v → agrees_at k got b v ≡ true
unfolding agrees_at
agree-live k got b v o l =
    rw (rules-all k v l.rule, o, le-leb (least_of k v) got l.least, lt-ltb got (size_of k v) l.inside, l.zeros)

pub live_of : (k : Stage) (got : ℕ) (b : List ℕ) (v : Known) → is_refused k ≡ false → agrees_at k got b v ≡ true → Live k got b v
unfolding agrees_at
live_of k got b v o e =
    let a = each_true (rules k v && count_rule k v got) (block_rule k got b) e in
    let c = each_true (rules k v) (count_rule k v got) a.0 in
    let n = each_true (leb (least_of k v) got) (ltb got (size_of k v)) (rw o at c.1) in
    record { rule = rules_of k v c.0; least = leb-true (least_of k v) got n.0; inside = ltb-true got (size_of k v) n.1; zeros = a.1 }

pub live : {st : State} {s : List ℕ} → Running st s → Live st.position.stage st.position.got st.position.block st.known
live {st} r = live_of st.position.stage st.position.got st.position.block st.known r.live r.agree

pub inside_of : {st : State} {s : List ℕ} → Running st s → st.position.got < size st
inside_of r = (live r).inside

-- ---- what a step leaves

pub record RefusedFor (n : Numbers) (st : State) : Type 0 where
  pub stage : st.position.stage ≡ stage.Refused
  pub why : st.known.refusal ≡ n
  pub agree : agrees st ≡ true
  pub gives : given n ≡ true

abbrev pub After : Report → State → List ℕ → Type 0
After = machine.After Running RefusedFor

abbrev AfterStep : Stepped → Type 0
AfterStep x = After x.report x.state x.store

-- our own features are fine while nothing is refused
abbrev OwnFine : Known → Type 0
OwnFine v = is_fine (judge_own v.own.supported v.own.required) ≡ true

-- the state of a refusal
pub refused-at : (own : Features) (n : Numbers) → given n ≡ true → cond (eqb n.number 16) true (is_fine (judge_own own.supported own.required)) ≡ true → RefusedFor n (at stage.Refused 0 (only_own own n))
unfolding agrees_at
refused-at own n g o = record { stage = refl; why = refl; agree = rw (o, g); gives = g }

pub refused-after : (v : Known) (n : Numbers) (s : List ℕ) → OwnFine v → given n ≡ true → AfterStep (refuse v n s)
refused-after v n s o g = refused-at v.own n g (at_cond (λ (b : Bool). b ≡ true) (eqb n.number 16) refl o)

judged-after : (j : Judged) (v : Known) (s : List ℕ) (x : Stepped) → OwnFine v → Given j → (j ≡ fine → AfterStep x) → AfterStep (unless_refused j v s x)
judged-after fine v s x o k f = f refl
judged-after (refused n) v s x o k f = refused-after v n s o (both_left (given n) (not (eqb n.number 16)) (k.gives n refl))

module _ (k : Stage) (got : ℕ) (v : Known) (s : List ℕ) (o : is_refused k ≡ false) where
  running-at : Rules k v → least_of k v ≤ got → got < size_of k v → needed k v ≤ length s → all_zero (drop (in_block (place_of k) got) blank) ≡ true → Running (at k got v) s
  running-at r l i f z =
      record { agree = agree-live k got blank v o (record { rule = r; least = l; inside = i; zeros = z }); live = o; fits = f }

-- behind the banner, between two frames
abbrev Linked : Known → Type 0
Linked v = Rules stage.Preamble v

between : (v : Known) (s : List ℕ) → Linked v → Running (at stage.Preamble 0 v) s
between v s r = running-at stage.Preamble 0 v s refl r zero-le (lit< tt) zero-le refl

same-revision : (r : Revision) → same_revision r r ≡ true
same-revision Msgr20 = refl
same-revision Msgr21 = refl

fine_true : {j : Judged} → j ≡ fine → is_fine j ≡ true
fine_true e = ap is_fine e

banner-after : (v : Known) (s : List ℕ) → Rules stage.Skip v → AfterStep (end_banner v s)
banner-after v s r =
    let chosen = revision_of v.own.supported v.peer.supported in
    judged-after (judge_features v.own.supported v.own.required v.peer.supported v.peer.required) v s _ r.own
    (given-features v.own.supported v.own.required v.peer.supported v.peer.required)
    (λ e. between (with_revision v chosen) s (search (both_true _ _ (fine_true e) (same-revision chosen))))

-- in a body, whatever its stage
pub record Framed (v : Known) : Type 0 where
  pub own : OwnFine v
  pub payload : is_fine (judge_length v.payload) ≡ true
  pub revision : revision_rule stage.Preamble v ≡ true
  pub header : is_fine (judge_header v.header) ≡ true
  pub refusal : refusal_rule stage.Preamble v ≡ true

next-after : (v : Known) (s : List ℕ) → Framed v → Running (next_frame v) s
next-after v s f = between _ s (search)

frame-after : (x : Ended) (v : Known) (s : List ℕ) → Framed v → GivenEnd x → AfterStep (end_frame x v s)
frame-after whole v s f k = next-after v s f
frame-after dropped v s f k = next-after v (zeroed v.header s) f
frame-after (refused_for n) v s f k = refused-after v n (zeroed v.header s) f.own (both_left (given n) (not (eqb n.number 16)) (k.gives n refl))

module _ (v : Known) (s : List ℕ) (f : Framed v) (m : first_rule stage.Rest v ≡ true) (fits : total v.header ≤ length s) where
  epilogue-after : AfterStep (begin_epilogue v s)
  epilogue-after =
      by_cond AfterStep (no_epilogue v.revision v.header) (λ e. frame-after whole v s f (end_whole of_bytes))
      (λ e. running-at stage.Epilogue 0 v s refl (search) zero-le (has_length v.revision v.header e).0 fits refl)

  rest-after : (got : ℕ) → least_of stage.Rest v ≤ got → AfterStep (begin_rest v got s)
  rest-after got l =
      by_cond AfterStep (ltb got (total v.header))
      (λ e. running-at stage.Rest got v s refl (search) l (ltb-true got (total v.header) e) fits refl) (λ e. epilogue-after)

-- behind an accepted preamble nothing of the frame is reported yet
body-after : (v : Known) (s : List ℕ) → Framed v → v.first ≡ false → total v.header ≤ length s → AfterStep (begin_body v s)
body-after v s f u fits =
    by_cond AfterStep (has_first_sum v)
    (λ e.
    let m : first_rule stage.First v ≡ true = rw u in
    running-at stage.First 0 v s refl (search) zero-le (first_some v.revision v.header (not-true (no_first_sum v.revision v.header) e)) fits refl)
    (λ e. rest-after v s f (rw (u, e)) fits 0 (rw e zero-le))

-- segment 1 is reported early
first-after : (v : Known) (s : List ℕ) → Framed v → has_first_sum v ≡ true → total v.header ≤ length s → AfterStep (behind_first_sum v s)
first-after v s f e fits =
    let n = v.header.s1.len in
    let x : AfterStep (begin_rest (with_first v) v.header.s1.len s) = rest-after (with_first v) s (search) e fits n (at_cond (λ (k : ℕ). k ≤ n) (has_first_sum v) (le_refl n) zero-le) in
    at_test (λ (c : Bool). AfterStep (report_first c v.header (begin_rest (with_first v) v.header.s1.len s))) (ltb 1 v.header.count)
    (λ c. rw (rest-silent (with_first v) n s e c) at x) (λ c. x)

finish-after : (k : Stage) (b : List ℕ) (v : Known) (s : List ℕ) → Rules k v → is_refused k ≡ false → needed k v ≤ length s → AfterStep (finish k b v s)
unfolding finish
finish-after stage.Magic b v s r o f =
    judged-after (judge_magic (take 8 b)) v s _ r.own (allowed_cond of_bytes (same_from 0 magic (take 8 b)) (row 1 0 0 0) refl)
    (λ _. running-at stage.Length 0 v s refl (search) zero-le (lit< tt) zero-le refl)
finish-after stage.Length b v s r o f =
    let n = number_at 2 0 b in
    judged-after (judge_length n) v s _ r.own (allowed_cond of_bytes (leb 16 n && leb n 1024) (row 2 n 0 0) refl)
    (λ e. running-at stage.Payload 0 (with_payload v n) s refl (search (fine_true e)) zero-le (lit< tt) zero-le refl)
finish-after stage.Payload b v s r o f =
    let w = with_peer v (features_of (take 16 b)) in
    let skip : Rules stage.Skip (with_peer v (features_of (take 16 b))) = search in
    by_cond AfterStep (leb v.payload 16) (λ e. banner-after w s skip)
    (λ e. running-at stage.Skip 0 w s refl skip zero-le (let z = leb-false v.payload 16 e in omega arith) zero-le refl)
finish-after stage.Skip b v s r o f = banner-after v s r
finish-after stage.Preamble b v s r o f =
    judged-after (judge_preamble b (length s)) v s _ r.own (given-preamble b (length s))
    (λ e.
    let a = accepted-preamble b (length s) e in
    body-after (with_header v (header_of b)) s (search (fine_true (checked-header a.checked))) refl (store-fits a.store))
finish-after stage.First b v s r o f = running-at stage.FirstSum 0 v s refl (search) zero-le (lit< tt) f refl
finish-after stage.FirstSum b v s r o f =
    by_cond AfterStep (eqb (number_at 4 0 b) (segment_sum (take v.header.s1.len s))) (λ _. first-after v s (search) r.first f)
    (λ _. refused-after v (row 11 1 0 0) (zeroed v.header s) r.own refl)
finish-after stage.Rest b v s r o f = epilogue-after v s (search) r.mark f
finish-after stage.Epilogue b v s r o f =
    let p = take (total v.header) s in
    frame-after (ending v.revision v.header b p) v s (search) (given-ending v.revision v.header b p)
finish-after stage.Refused b v s r o f = wrong (sym o)

-- ---- bytes of a stage leave the rest as it was

block-kept : (p : Place) (got : ℕ) (b xs : List ℕ) → all_zero (drop (in_block p got) b) ≡ true
    → all_zero (drop (in_block p (got + length xs)) (block_with p got b xs)) ≡ true
block-kept place.Block got b xs e = ap all_zero (drop-sets b got xs) ∙ zeros-later b got (length xs) e
block-kept place.Store got b xs e = e
block-kept place.Nowhere got b xs e = e

length-with : (p : Place) (got : ℕ) (s xs : List ℕ) → length (store_with p got s xs) ≡ length s
length-with place.Block got s xs = refl
length-with place.Store got s xs = length-sets s got xs
length-with place.Nowhere got s xs = refl

pub length-stored : (st : State) (s xs : List ℕ) → length (stored st s xs) ≡ length s
length-stored st s xs = length-with (place_of st.position.stage) st.position.got s xs

pub chunk-after : (st : State) (s xs : List ℕ) → Running st s → AfterStep (chunk st s xs)
chunk-after st s xs r =
    let p = st.position in
    let l = live r in
    let fits : needed_by st ≤ length (stored st s xs) = rw (length-stored st s xs) r.fits in
    at_test (λ (t : Bool). AfterStep (reached (absorbed st xs) (stored st s xs) t)) (ltb (p.got + length xs) (size st))
    (λ e.
    record {
      agree = agree-live p.stage (p.got + length xs) _ st.known r.live (record {
        rule = l.rule;
        least = omega (arith, l.least);
        inside = ltb-true (p.got + length xs) (size st) e;
        zeros = block-kept (place_of p.stage) p.got p.block xs l.zeros;
      });
      live = r.live;
      fits = fits;
    })
    (λ e. finish-after p.stage _ st.known (stored st s xs) l.rule r.live fits)

pub byte_after : (st : State) (s : List ℕ) (b : ℕ) → Running st s → AfterStep (on_byte st s b)
unfolding on_byte
byte_after st s b = chunk-after st s (b ∷ [])

pub feed-after : (st : State) (s piece : List ℕ) → Running st s → After (feed st s piece).received.report (feed st s piece).received.state (feed st s piece).store
feed-after st s piece r = rw (← (machine_feed st s piece)) at (machine.feed-after Running RefusedFor byte_step byte_after st s piece r)

-- ---- and so a state that a call hands back agrees with itself

pub after-agrees : (r : Report) (st : State) (s : List ℕ) → After r st s → agrees st ≡ true
after-agrees r st s = machine.by_after Running RefusedFor r st s (λ a. a.agree) (λ n a. a.agree)

-- ---- refused states

rules-agreed : (st : State) → agrees st ≡ true → Rules st.position.stage st.known
unfolding agrees_at
rules-agreed st e =
    let p = st.position in
    let k = p.stage in
    let v = st.known in
    rules_of k v (both_left (rules k v) (count_rule k v p.got) (both_left (rules k v && count_rule k v p.got) (block_rule k p.got p.block) e))

pub refused_for_lem : (st : State) → agrees st ≡ true → is_refused st.position.stage ≡ true → RefusedFor st.known.refusal st
unfolding stage_of
refused_for_lem st e r = record { stage = stage_at st.position.stage 9 (eqb-true _ 9 r); why = refl; agree = e; gives = rw r at (rules-agreed st e).refusal }

pub agree-own : (st : State) → agrees st ≡ true → is_refused st.position.stage ≡ false → (n : Numbers) → given n ≡ true → RefusedFor n (refused_state st.known n)
agree-own st e r n g = refused-after st.known n [] (rw r at (rules-agreed st e).own) g

-- ---- the start

pub start-running : (own : Features) (s : List ℕ) → judge_own own.supported own.required ≡ fine → Running (at stage.Magic 0 (only_own own no_refusal)) s
start-running own s e = running-at stage.Magic 0 (only_own own no_refusal) s refl (search (fine_true e)) zero-le (lit< tt) zero-le refl

pub start-refused : (own : Features) (n : Numbers) → judge_own own.supported own.required ≡ refused n → RefusedFor n (at stage.Refused 0 (only_own own n))
start-refused own n e =
    by_test (ltb own.supported 2 && ltb own.required 2 && eqb (missing 64 own.required own.supported) 0)
    (λ t. absurd (let z : ◌≡◌ {A = ℕ} 0 1 = cc in omega arith))
    (λ t. (let k : row 16 0 0 0 ≡ n = cc in rw k at (refused-at own (row 16 0 0 0) refl refl)))
