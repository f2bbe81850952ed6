-- A list of calls is one run of pieces, or two with a switch between them: the tries to switch that were refused leave everything as it is.
use Prim.Native.Nat.{ℕ, ◌+◌}
use mathlib.Core.List.{List, [], ◌∷◌}
use mathlib.Core.Path.{◌≡◌, refl, sym, ap, subst, ◌∙◌}
use mathlib.Core.Bool.{Bool, true, false, not}
use native.Mathlib.Omega.{arith}
use lib.Dec.{eqb}
use borrow.Author.Tests.{eqb-true, not-true}
use Rattle.refusal.specs.declared.Numbers.{Numbers}
use Rattle.refusal.specs.declared.Refusal.TheVariants as refusal
use Rattle.refusal.specs.Refusals.{Judged, fine, refused, numbers_of, judged_by, unless}
use Rattle.refusal.proofs.Booleans.{by_test, both_left, each_true, both_true}
use Rattle.refusal.proofs.Judgements.{by_judgement_lem, all-fine, or_else_last, passed}
use Rattle.stream.specs.Stream.{Entry}
use Rattle.receiver.specs.State.{rank}
use Rattle.receiver.specs.State as crc-states
use Rattle.banner.specs.Banner.{is_msgr21}
use Rattle.receiver.specs.Calls.{piece_at, entered}
use Rattle.receiver.proofs.Machine.{Stands, runs, refuses, next-stands}
use Rattle.receiver.proofs.Lists as lists
use Rattle.sealed_receiver.specs.State as sealed-states
use Rattle.sealed_receiver.proofs.Live.{switched-running}
use Rattle.connection.specs.declared.State.{State}
use Rattle.connection.specs.declared.Mode.TheVariants as mode
use Rattle.connection.specs.Switched.{none, behind}
use Rattle.connection.specs.Step.{is_secure, ready_rule, agrees_in_use, agrees, may_be_switched, judge_switch, switched_state, SwitchedWith}
use Rattle.connection.specs.Calls.{Piece, Try, Call, taking, switching, Chained, taken_by, state_by, store_by, reported_by, counted, made_or, switch_by, TriesRefused, made_or_refused, OneMade, Each, Repeats}
use Rattle.connection.proofs.Machines.{crc_side, secure_side, before}

-- ---- so it agrees with itself, and a try that is refused is refused with 27

crc-agreed : (st : State) → st.mode ≡ mode.Crc → ready_rule st ≡ true → crc-states.agrees st.crc ≡ true → agrees st ≡ true
unfolding agrees
crc-agreed st m q a = both_true (ready_rule st) (agrees_in_use st) q (rw m a)

secure_agreed : (st : State) → st.mode ≡ mode.Secure → st.ready ≡ false → sealed-states.agrees st.sealed ≡ true → agrees st ≡ true
unfolding agrees
secure_agreed st m q a = both_true (ready_rule st) (agrees_in_use st) (rw q) (rw m a)

pub crc-agrees : {st : State} {s : List ℕ} → Stands crc_side st s → agrees st ≡ true
crc-agrees {st} (runs r) = crc-agreed st r.mode r.rule r.live.agree
crc-agrees {st} (refuses n g) = crc-agreed st g.mode g.rule g.has_refused.agree

pub secure_agrees : {st : State} {s : List ℕ} → Stands secure_side st s → agrees st ≡ true
secure_agrees {st} (runs r) = secure_agreed st r.mode r.rule r.live.agree
secure_agrees {st} (refuses n g) = secure_agreed st g.mode g.rule g.has_refused.agree

pub judged_27 : (st : State) → agrees st ≡ true → judge_switch st ≡ unless (may_be_switched st) refusal.SwitchRefused
unfolding judge_switch
judged_27 st a = rw a (or_else_last (unless (may_be_switched st) refusal.SwitchRefused))

pub unless-number : (b : Bool) (n : Numbers) → unless b refusal.SwitchRefused ≡ refused n → n ≡ numbers_of refusal.SwitchRefused
unless-number true n e = absurd (let z : ◌≡◌ {A = ℕ} 0 1 = cc in omega arith)
unless-number false n e = sym (let i : numbers_of refusal.SwitchRefused ≡ n = cc in i)

-- a switch that is made was ready
pub fine-ready : (st : State) → judge_switch st ≡ fine → st.ready ≡ true
unfolding judge_switch
fine-ready st j =
    let a = all-fine (unless (agrees st) refusal.StateContradicts ∷ unless (may_be_switched st) refusal.SwitchRefused ∷ []) j in
    both_left st.ready (is_msgr21 st.crc.known.revision) (passed (may_be_switched st) refusal.SwitchRefused a.1.0)

-- what is ready reads crc frames, and stands before a preamble
pub record Ready (st : State) : Type 0 where
  pub crc : is_secure st.mode ≡ false
  pub stage : rank st.crc.position.stage ≡ 4
  pub got : st.crc.position.got ≡ 0

pub ready_so : (st : State) → ready_rule st ≡ true → st.ready ≡ true → Ready st
ready_so st e q =
    let a = each_true (not (is_secure st.mode)) (before st.crc) (rw q at e) in
    let b = each_true (eqb (rank st.crc.position.stage) 4) (eqb st.crc.position.got 0) a.1 in
    record { crc = not-true (is_secure st.mode) a.0; stage = eqb-true (rank st.crc.position.stage) 4 b.0; got = eqb-true st.crc.position.got 0 b.1 }

pub unready : (st : State) → ready_rule st ≡ true → (Ready st → ⊥) → st.ready ≡ false
unready st e never = by_test st.ready (λ q. absurd (never (ready_so st e q))) (λ q. q)

secure_ready : {st : State} {s : List ℕ} → Stands secure_side st s → st.ready ≡ false
secure_ready (runs r) = r.rule
secure_ready (refuses n g) = g.rule

-- ---- the pieces of a list

abbrev pub Fed : List ℕ → State → List ℕ → ℕ → List Piece → Type 0
Fed = lists.Chained crc_side

abbrev pub taken_of : ℕ → List Piece → ℕ
taken_of = lists.taken_by crc_side

abbrev pub state_of : State → List Piece → State
state_of = lists.state_by crc_side

abbrev pub store_of : List ℕ → List Piece → List ℕ
store_of = lists.store_by crc_side

abbrev pub reported_of : ℕ → List Piece → List Entry
reported_of = lists.reported_by crc_side

abbrev pub EachOf : List Entry → List ℕ → ℕ → List Piece → Type 0
EachOf = lists.Each crc_side

abbrev pub RepeatsOf : Numbers → List Piece → Type 0
RepeatsOf = lists.Repeats crc_side

-- reports before those of later calls
abbrev pub reported_then : ℕ → List Piece → List Entry → List Entry
reported_then t [] es = es
reported_then t (c ∷ ps) es = entered c.received.report (t + c.received.taken) c.store (reported_then (t + c.received.taken) ps es)

abbrev pub counted_by : ℕ → List Piece → ℕ
counted_by k [] = k
counted_by k (c ∷ ps) = counted_by (counted k c.received.report) ps

-- a list without a switch is one of pieces
pub record Erased (stream : List ℕ) (st : State) (s : List ℕ) (t : ℕ) (cs : List Call) (ps : List Piece) : Type 0 where
  pub fed : Fed stream st s t ps
  pub taken : taken_by t cs ≡ taken_of t ps
  pub state : state_by st cs ≡ state_of st ps
  pub store : store_by s cs ≡ store_of s ps
  pub reported : reported_by t cs ≡ reported_of t ps
  pub each : (es : List Entry) → EachOf es stream t ps → Each es stream t cs
  pub repeats : (n : Numbers) → RepeatsOf n ps → Repeats n cs

pub record Unmade (stream : List ℕ) (st : State) (s : List ℕ) (t k : ℕ) (cs : List Call) (ps : List Piece) : Type 0 where
  pub erased : Erased stream st s t cs ps
  pub none : switch_by k cs ≡ none
  pub one : OneMade cs

pub record Made (stream : List ℕ) (st : State) (s : List ℕ) (t k : ℕ) (cs : List Call) (ps qs : List Piece) (c : Try) : Type 0 where
  pub fed : Fed stream st s t ps
  pub judged : judge_switch (state_of st ps) ≡ fine
  pub switched : c.switched.state ≡ switched_state fine (state_of st ps) c.key c.receiving
  pub later : Fed stream c.switched.state (store_of s ps) (taken_of t ps) qs
  pub taken : taken_by t cs ≡ taken_of (taken_of t ps) qs
  pub state : state_by st cs ≡ state_of c.switched.state qs
  pub store : store_by s cs ≡ store_of (store_of s ps) qs
  pub reported : reported_by t cs ≡ reported_then t ps (reported_of (taken_of t ps) qs)
  pub each : (es : List Entry) → EachOf es stream t ps → EachOf es stream (taken_of t ps) qs → Each es stream t cs
  pub made : switch_by k cs ≡ behind (counted_by k ps) c.key c.receiving
  pub one : OneMade cs

pub data SplitAtSwitch (stream : List ℕ) (st : State) (s : List ℕ) (t k : ℕ) (cs : List Call) : Type 0 where
  unmade : (ps : List Piece) → Unmade stream st s t k cs ps → SplitAtSwitch stream st s t k cs
  made : (ps qs : List Piece) (c : Try) → Made stream st s t k cs ps qs c → SplitAtSwitch stream st s t k cs

pub by_split : {A : Type 0} {stream : List ℕ} {st : State} {s : List ℕ} {t k : ℕ} {cs : List Call} → SplitAtSwitch stream st s t k cs
    → ((ps : List Piece) → Unmade stream st s t k cs ps → A) → ((ps qs : List Piece) (c : Try) → Made stream st s t k cs ps qs c → A) → A
by_split (unmade ps x) u m = u ps x
by_split (made ps qs c x) u m = m ps qs c x

module _ (stream : List ℕ) where
  erased-none : (st : State) (s : List ℕ) (t : ℕ) → Erased stream st s t [] []
  erased-none st s t = record { fed = tt; taken = refl; state = refl; store = refl; reported = refl; each = λ es e. tt; repeats = λ n r. tt }

  erased-piece : (st : State) (s : List ℕ) (t : ℕ) (c : Piece) (cs : List Call) (ps : List Piece)
      → Chained stream st s t (taking c ∷ cs) → Erased stream c.received.state c.store (t + c.received.taken) cs ps
      → Erased stream st s t (taking c ∷ cs) (c ∷ ps)
  erased-piece st s t c cs ps ch x = record {
    fed = (ch.0, x.fed);
    taken = x.taken;
    state = x.state;
    store = x.store;
    reported = ap (entered c.received.report (t + c.received.taken) c.store) x.reported;
    each = λ es e. (e.0, e.1, x.each es e.2);
    repeats = λ n r. (r.0, r.1, x.repeats n r.2);
  }

  erased_try : (st : State) (s : List ℕ) (t : ℕ) (c : Try) (cs : List Call) (ps : List Piece) → c.switched.state ≡ st → Erased stream st s t cs ps
      → Erased stream st s t (switching c ∷ cs) ps
  erased_try st s t c cs ps q x = record {
    fed = x.fed;
    taken = x.taken;
    state = ap (λ (y : State). state_by y cs) q ∙ x.state;
    store = x.store;
    reported = x.reported;
    each = x.each;
    repeats = x.repeats;
  }

  pub left_alone : (st : State) (c : Try) (n : Numbers) → SwitchedWith st c.key c.receiving c.sending c.switched → judge_switch st ≡ refused n
      → c.switched.state ≡ st
  left_alone st c n w e = w.state ∙ ap (λ (j : Judged). switched_state j st c.key c.receiving) e

  -- behind a switch every try is refused
  later-calls : (st : State) (s : List ℕ) (t : ℕ) (cs : List Call) → Stands secure_side st s → Chained stream st s t cs → (ps : List Piece) × (Erased stream st s t cs ps × TriesRefused cs)
  later-calls st s t [] h ch = ([], (erased-none st s t, tt))
  later-calls st s t (taking c ∷ cs) h ch =
      let ih = later-calls c.received.state c.store (t + c.received.taken) cs (next-stands secure_side st s (piece_at stream t c.size) c h ch.0) ch.1 in
      (c ∷ ih.0, (erased-piece st s t c cs ih.0 ch ih.1.0, ih.1.1))
  later-calls st s t (switching c ∷ cs) h ch =
      let j : judge_switch st ≡ refused (numbers_of refusal.SwitchRefused) = judged_27 st (secure_agrees h) ∙ rw (secure_ready h) in
      let q = left_alone st c (numbers_of refusal.SwitchRefused) ch.0 j in
      let ih = later-calls st s t cs h (subst (λ (y : State). Chained stream y s t cs) q ch.1) in
      (ih.0, (erased_try st s t c cs ih.0 q ih.1.0, (ch.0.judgement ∙ j, ih.1.1)))

  with-piece : (st : State) (s : List ℕ) (t k : ℕ) (c : Piece) (cs : List Call) → Chained stream st s t (taking c ∷ cs)
      → SplitAtSwitch stream c.received.state c.store (t + c.received.taken) (counted k c.received.report) cs → SplitAtSwitch stream st s t k (taking c ∷ cs)
  with-piece st s t k c cs ch (unmade ps x) = unmade (c ∷ ps) (record { erased = erased-piece st s t c cs ps ch x.erased; none = x.none; one = x.one })
  with-piece st s t k c cs ch (made ps qs d x) = made (c ∷ ps) qs d (record {
    fed = (ch.0, x.fed);
    judged = x.judged;
    switched = x.switched;
    later = x.later;
    taken = x.taken;
    state = x.state;
    store = x.store;
    reported = ap (entered c.received.report (t + c.received.taken) c.store) x.reported;
    each = λ es e f. (e.0, e.1, x.each es e.2 f);
    made = x.made;
    one = x.one;
  })

  with_try : (st : State) (s : List ℕ) (t k : ℕ) (c : Try) (cs : List Call) (n : Numbers) → judged_by c.switched.judgement ≡ refused n → n ≡ numbers_of refusal.SwitchRefused
      → c.switched.state ≡ st → SplitAtSwitch stream st s t k cs → SplitAtSwitch stream st s t k (switching c ∷ cs)
  with_try st s t k c cs n v e q (unmade ps x) = unmade ps (record {
    erased = erased_try st s t c cs ps q x.erased;
    none = ap (λ (j : Judged). made_or j (behind k c.key c.receiving) (switch_by k cs)) v ∙ x.none;
    one = subst (λ (j : Judged). made_or_refused j (TriesRefused cs) (OneMade cs)) (sym v) (e, x.one);
  })
  with_try st s t k c cs n v e q (made ps qs d x) = made ps qs d (record {
    fed = x.fed;
    judged = x.judged;
    switched = x.switched;
    later = x.later;
    taken = x.taken;
    state = ap (λ (y : State). state_by y cs) q ∙ x.state;
    store = x.store;
    reported = x.reported;
    each = x.each;
    made = ap (λ (j : Judged). made_or j (behind k c.key c.receiving) (switch_by k cs)) v ∙ x.made;
    one = subst (λ (j : Judged). made_or_refused j (TriesRefused cs) (OneMade cs)) (sym v) (e, x.one);
  })

  -- the switch is made here
  pub behind-switch : (st : State) (s : List ℕ) (t : ℕ) (c : Try) (cs : List Call) → judge_switch st ≡ fine → Chained stream st s t (switching c ∷ cs)
      → (c.switched.state ≡ switched_state fine st c.key c.receiving) × ((ps : List Piece) × (Erased stream c.switched.state s t cs ps × TriesRefused cs))
  behind-switch st s t c cs j ch =
      let q : c.switched.state ≡ switched_state fine st c.key c.receiving = ch.0.state ∙ ap (λ (i : Judged). switched_state i st c.key c.receiving) j in
      let h : Stands secure_side c.switched.state s = rw q (runs (record { mode = refl; rule = refl; live = switched-running c.key c.receiving s })) in
      (q, later-calls c.switched.state s t cs h ch.1)

  made-here : (st : State) (s : List ℕ) (t k : ℕ) (c : Try) (cs : List Call) → judge_switch st ≡ fine → Chained stream st s t (switching c ∷ cs) → SplitAtSwitch stream st s t k (switching c ∷ cs)
  made-here st s t k c cs j ch =
      let v : judged_by c.switched.judgement ≡ fine = ch.0.judgement ∙ j in
      let b = behind-switch st s t c cs j ch in
      let l = b.1 in
      made [] l.0 c (record {
        fed = tt;
        judged = j;
        switched = b.0;
        later = l.1.0.fed;
        taken = l.1.0.taken;
        state = l.1.0.state;
        store = l.1.0.store;
        reported = l.1.0.reported;
        each = λ es e f. l.1.0.each es f;
        made = ap (λ (i : Judged). made_or i (behind k c.key c.receiving) (switch_by k cs)) v;
        one = subst (λ (i : Judged). made_or_refused i (TriesRefused cs) (OneMade cs)) (sym v) l.1.1;
      })

  pub parted : (st : State) (s : List ℕ) (t k : ℕ) (cs : List Call) → Stands crc_side st s → Chained stream st s t cs → SplitAtSwitch stream st s t k cs
  parted st s t k [] h ch = unmade [] (record { erased = erased-none st s t; none = refl; one = tt })
  parted st s t k (taking c ∷ cs) h ch =
      with-piece st s t k c cs ch
      (parted c.received.state c.store (t + c.received.taken) (counted k c.received.report) cs (next-stands crc_side st s (piece_at stream t c.size) c h ch.0) ch.1)
  parted st s t k (switching c ∷ cs) h ch =
      by_judgement_lem (judge_switch st) (λ j. made-here st s t k c cs j ch)
      (λ n j.
      let q = left_alone st c n ch.0 j in
      with_try st s t k c cs n (ch.0.judgement ∙ j) (unless-number (may_be_switched st) n (sym (judged_27 st (crc-agrees h)) ∙ j)) q
      (parted st s t k cs h (subst (λ (y : State). Chained stream y s t cs) q ch.1)))
