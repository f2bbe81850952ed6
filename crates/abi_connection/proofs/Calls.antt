-- What a start, a call and a switch promise, on each of their ways.
use mathlib.Core.Path.{◌≡◌, refl, sym, ap, subst, ◌∙◌}
use mathlib.Core.List.{List}
use mathlib.Core.Bool.{Bool, true, false, cond, ◌&&◌, ◌||◌}
use Prim.Native.Nat.{ℕ, zero, suc, ◌≤◌, zero-le}
use native.Mathlib.Omega.{arith}
use borrow.Author.Tests.{le-leb, leb-true}
use lib.Dec.{leb, eqb}
use lib.ListN.{get_or}
use Rattle.refusal.specs.Refusals.{Judged, fine, refused, is_fine, contradiction}
use Rattle.refusal.proofs.Booleans.{by_test, wrong, both_true, each_true}
use Rattle.refusal.proofs.Judgements.{fine-is}
use Rattle.banner.specs.declared.Features.{Features}
use Rattle.stream.specs.declared.Event.TheVariants as event
use Rattle.stream.specs.Events.{kind_of}
use Rattle.stream.proofs.Events.{by_kind}
use Rattle.receiver.specs.Report.{Report}
use Rattle.std.specs.Prelude.{Some, None}
use Rattle.receiver.specs.declared.State as crc-state
use Rattle.receiver.proofs.Ranks.{rank_is}
use Rattle.receiver.specs.Step as crc-step
use Rattle.sealed_receiver.specs.declared.State as secure-state
use Rattle.sealed_receiver.specs.Step as sealed-step
use Rattle.sealed_builder.specs.declared.Sending.{Sending}
use Rattle.connection.specs.declared.Mode.TheVariants as mode
use Rattle.connection.specs.declared.State.{State}
use Rattle.connection.specs.declared.Received.{Received}
use Rattle.connection.specs.Step.{begun, ready_after, ready_rule, Answer, by_crc, by_secure, answer, judge_switch, switched_state, switched_sending}
use Rattle.connection.proofs.Laws.{contradicted, mode-is}
use Rattle.abi.specs.Words.{mark_number, mark_of}
use Rattle.abi.proofs.Back.{mark-back, mark_known, mark-number-back}
use Rattle.abi_receiver.specs.Words as crc
use Rattle.abi_receiver.proofs.Answers as crc-answers
use Rattle.abi_receiver.specs.Words.{AbiState, state_of, report_words, report_of, number_of}
use Rattle.abi_receiver.proofs.Answers.{answer-within, answer-beyond}
use Rattle.abi_sealed.specs.Words.{sending_numbers}
use Rattle.abi_connection.specs.Secure as secure
use Rattle.abi_connection.specs.Secure.{AbiSecure, secure_of, SecureReceived, SecureAnswered}
use Rattle.abi_connection.specs.Words.{AbiConnection, connected, connection_of, fits, StandsFor, AbiOf, AbiReceived, handed, AbiAnswer, abi_answer_of, contradicts, abi_answer, AbiAnswered, ReceivedBy, AbiSending, abi_sending, sending_words, switched, switched_words, judge_words, abi_switch, AbiSwitchedWith}
use Rattle.abi_connection.proofs.Answers.{beyond, within}

-- ---- words of the two modes

abbrev crc_state : ℕ → AbiState → AbiSecure → State
crc_state ready c x = record { mode = mode.Crc; ready = mark_of ready; crc = state_of c; sealed = secure_of x }

abbrev secure_state : ℕ → AbiState → AbiSecure → State
secure_state ready c x = record { mode = mode.Secure; ready = mark_of ready; crc = state_of c; sealed = secure_of x }

module _ (ready : ℕ) (c : AbiState) (x : AbiSecure) where
  pub crc-stands : connection_of (connected 0 ready c x) ≡ crc_state ready c x
  unfolding connection_of
  crc-stands = refl

  pub secure_stands : connection_of (connected 1 ready c x) ≡ secure_state ready c x
  unfolding connection_of
  secure_stands = refl

  pub crc-fits : ready ≤ 1 → fits (connected 0 ready c x) ≡ crc.fits c.numbers
  unfolding fits
  crc-fits h = rw (le-leb ready 1 h)

  pub secure_fits : ready ≤ 1 → fits (connected 1 ready c x) ≡ secure.fits x.numbers
  unfolding fits
  secure_fits h = rw (le-leb ready 1 h)

-- ---- the rule of the mark, in words

abbrev marked_rule : AbiConnection → Bool
marked_rule p = eqb p.ready 0 || (eqb p.mode 0 && (eqb (get_or p.crc.numbers 0 0) 4 && eqb (get_or p.crc.numbers 18 0) 0))

rule_in_words : (p : AbiConnection) → ready_rule (connection_of p) ≡ marked_rule p
unfolding connection_of state_of
rule_in_words p =
    rw (rank_is (get_or p.crc.numbers 0 0) 4 (omega arith))
    (by_test (eqb p.ready 0) (λ e. rw e) (λ e. by_test (eqb p.mode 0) (λ f. rw (e, f)) (λ f. rw (e, f))))

-- ---- calls that are turned away

module _ (p : AbiConnection) (s piece : List ℕ) where
  abbrev two_ways : Bool → AbiAnswer
  two_ways b = cond b (abi_answer_of p (answer (connection_of p) s piece)) (record { received = contradicts p; store = s })

  pub answer_by : (b : Bool) → (fits p && ready_rule (connection_of p)) ≡ b → abi_answer p s piece ≡ two_ways b
  unfolding abi_answer
  answer_by b e = ap two_ways e

  module _ (r : List ℕ) (d : r ≡ (contradicts p).report) where
    away : abi_answer p s piece ≡ two_ways false → (fits p ≡ true → ready_rule (connection_of p) ≡ false) → AbiAnswered p s piece (handed p r) s
    away e f = record {
      received = ap (handed p) d ∙ sym (ap (λ (y : AbiAnswer). y.received) e);
      store = sym (ap (λ (y : AbiAnswer). y.store) e);
      back = λ t. record { state = ap (λ (y : Received). y.state) (contradicted (connection_of p) s piece contradiction (f t) refl).received; fit = t };
      tells = by_test (fits p) (λ t. rw (t, d) (ap (λ (y : Received). y.report) (contradicted (connection_of p) s piece contradiction (f t) refl).received)) (λ t. rw (t, d));
    }

    pub words-refused : (fits p && ready_rule (connection_of p)) ≡ false → AbiAnswered p s piece (handed p r) s
    words-refused e = away (answer_by false e) (λ t. sym (rw t) ∙ e)

  -- ---- and calls that are answered
  module _ (st : State) (k : connection_of p ≡ st) (f : fits p ≡ true) (q : ready_rule st ≡ true) where
    pub answered_by_lem : abi_answer p s piece ≡ abi_answer_of p (answer st s piece)
    answered_by_lem = answer_by true (both_true (fits p) (ready_rule (connection_of p)) f (ap ready_rule k ∙ q)) ∙ ap (λ (y : State). abi_answer_of p (answer y s piece)) k

    pub assembled : (a : Answer) (o : AbiReceived) (s' : List ℕ) → answer st s piece ≡ a → o ≡ (abi_answer_of p a).received → s' ≡ a.store
        → StandsFor a.received.state o.state → report_of o.report ≡ a.received.report → AbiAnswered p s piece o s'
    assembled a o s' e w t b u =
        let z : abi_answer p s piece ≡ abi_answer_of p a = answered_by_lem ∙ ap (abi_answer_of p) e in
        let y : answer (connection_of p) s piece ≡ a = ap (λ (v : State). answer v s piece) k ∙ e in
        record {
          received = w ∙ sym (ap (λ (v : AbiAnswer). v.received) z);
          store = t ∙ sym (ap (λ (v : AbiAnswer). v.store) z);
          back = λ _. subst (λ (v : Answer). StandsFor v.received.state o.state) (sym y) b;
          tells = u ∙ sym (ap (λ (v : Answer). v.received.report) y) ∙ ap (λ (v : Bool). cond v (answer (connection_of p) s piece).received.report (Some (event.Refused contradiction))) (sym f);
        }

-- ---- crc frames

-- the mark behind a report of this kind
abbrev pub mark_after : ℕ → ℕ → ℕ → ℕ
mark_after ready taken kind = cond (eqb kind 2 || eqb kind 3) 1 (cond (eqb taken 0) ready 0)

none : (a : Bool) → 0 ≡ mark_number (a && false)
none true = refl
none false = refl

marked : (ready : ℕ) (b : Bool) → ready ≤ 1 → cond b ready 0 ≡ mark_number (mark_of ready && b)
marked zero true h = refl
marked zero false h = refl
marked (suc n) true h = let e : n ≡ 0 = omega arith in rw e
marked (suc n) false h = none (mark_of (suc n))

mark-after : (ready taken : ℕ) (r : Report) → ready ≤ 1 → mark_after ready taken (get_or (report_words taken r) 0 0) ≡ mark_number (ready_after (mark_of ready) taken r)
mark-after ready taken None h = marked ready (eqb taken 0) h
mark-after ready taken (Some w) h =
    by_kind (λ v. mark_after ready taken (kind_of v) ≡ mark_number (ready_after (mark_of ready) taken (Some v))) (λ k. refl) (λ k. refl) (λ n. marked ready (eqb taken 0) h)
    (λ v b. rw (b.frame, b.drop, b.within) (marked ready (eqb taken 0) h)) w

-- what a report says was taken
pub taken_word : (t : ℕ) (r : Report) → get_or (report_words t r) 1 0 ≡ t
taken_word t None = refl
taken_word t (Some e) = refl

joined : {m m' r r' : ℕ} {c c' : AbiState} {x x' : AbiSecure} {q q' : List ℕ} → m ≡ m' → r ≡ r' → c ≡ c' → x ≡ x' → q ≡ q' → handed (connected m r c x) q ≡ handed (connected m' r' c' x') q'
joined e f g h i = rw (e, f, g, h, i)

module _ (ready : ℕ) (c : AbiState) (x : AbiSecure) (s piece : List ℕ) (o : crc.AbiReceived) (s' : List ℕ) (r : ℕ)
    (l : ready ≤ 1) (h : crc.AbiAnswered c s piece o s') (m : r ≡ mark_after ready (crc-answers.taken_in o) (crc.kind_in o)) where
  abbrev crc_words : AbiConnection
  crc_words = connected 0 ready c x

  abbrev crc_answer : crc-step.Answer
  crc_answer = crc-step.answer (state_of c) s piece

  crc-reported : crc.fits c.numbers ≡ true → o ≡ crc.abi_received crc_answer.received
  crc-reported f = h.received ∙ ap (λ (y : crc.AbiAnswer). y.received) (answer-within c s piece f)

  crc-mark : crc.fits c.numbers ≡ true → r ≡ mark_number (ready_after (mark_of ready) crc_answer.received.taken crc_answer.received.report)
  crc-mark f =
      let t = crc_answer.received.taken in
      let u = crc_answer.received.report in
      let e : mark_after ready (crc-answers.taken_in o) (crc.kind_in o) ≡ mark_after ready (get_or (report_words t u) 1 0) (get_or (report_words t u) 0 0) =
      ap (λ (y : crc.AbiReceived). mark_after ready (crc-answers.taken_in y) (crc.kind_in y)) (crc-reported f) in
      m ∙ e ∙ ap (λ (y : ℕ). mark_after ready y (get_or (report_words t u) 0 0)) (taken_word t u) ∙ mark-after ready t u l

  crc-answered : ready_rule (connection_of crc_words) ≡ true → crc.fits c.numbers ≡ true → AbiAnswered crc_words s piece (handed (connected 0 r o.state x) o.report) s'
  crc-answered q f =
      let k = crc-stands ready c x in
      let st = crc_state ready c x in
      let rule : ready_rule st ≡ true = sym (ap ready_rule k) ∙ q in
      let w = h.back f in
      let t = crc-reported f in
      let a = ready_after (mark_of ready) crc_answer.received.taken crc_answer.received.report in
      let b : mark_of r ≡ a = ap mark_of (crc-mark f) ∙ mark-back a in
      let small : r ≤ 1 = subst (λ (y : ℕ). y ≤ 1) (sym (crc-mark f)) (mark_known a) in
      assembled crc_words s piece st k (crc-fits ready c x l ∙ f) rule (by_crc st crc_answer) (handed (connected 0 r o.state x) o.report) s'
      (mode-is st s piece false rule refl)
      (joined refl (crc-mark f) (ap (λ (y : crc.AbiReceived). y.state) t) refl (ap (λ (y : crc.AbiReceived). y.report) t))
      (h.store ∙ ap (λ (y : crc.AbiAnswer). y.store) (answer-within c s piece f))
      (record { state = crc-stands r o.state x ∙ as_state b w.back refl; fit = crc-fits r o.state x small ∙ w.fit })
      (h.tells ∙ ap (λ (y : Bool). cond y crc_answer.received.report (Some (event.Refused contradiction))) f)
    where
      as_state : {b b' : Bool} {y y' : crc-state.State} {z z' : secure-state.State} → b ≡ b' → y ≡ y' → z ≡ z'
          → ◌≡◌ {A = State} (record { mode = mode.Crc; ready = b; crc = y; sealed = z }) (record { mode = mode.Crc; ready = b'; crc = y'; sealed = z' })
      as_state e f g = rw (e, f, g)

  crc-beyond : crc.fits c.numbers ≡ false → AbiAnswered crc_words s piece (handed (connected 0 r o.state x) o.report) s'
  crc-beyond f =
      let e = answer-beyond c s piece f in
      let t : o ≡ crc.contradicts c = h.received ∙ ap (λ (y : crc.AbiAnswer). y.received) e in
      let u : r ≡ ready = m ∙ ap (λ (y : crc.AbiReceived). mark_after ready (crc-answers.taken_in y) (crc.kind_in y)) t in
      let g : fits crc_words ≡ false = crc-fits ready c x l ∙ f in
      let v : s' ≡ s = h.store ∙ ap (λ (y : crc.AbiAnswer). y.store) e in
      let z : handed (connected 0 r o.state x) o.report ≡ handed crc_words (contradicts crc_words).report =
      joined refl u (ap (λ (y : crc.AbiReceived). y.state) t) refl (ap (λ (y : crc.AbiReceived). y.report) t) in
      subst (λ (y : AbiReceived). AbiAnswered crc_words s piece y s') (sym z)
      (subst (λ (y : List ℕ). AbiAnswered crc_words s piece (contradicts crc_words) y) (sym v)
      (words-refused crc_words s piece (contradicts crc_words).report refl (ap (λ (y : Bool). y && ready_rule (connection_of crc_words)) g)))

  pub crc-call : ready_rule (connection_of crc_words) ≡ true → AbiAnswered crc_words s piece (handed (connected 0 r o.state x) o.report) s'
  crc-call q = by_test (crc.fits c.numbers) (crc-answered q) crc-beyond

-- ---- sealed frames

module _ (ready : ℕ) (c : AbiState) (x : AbiSecure) (s piece : List ℕ) (o : SecureReceived) (s' : List ℕ)
    (l : ready ≤ 1) (h : SecureAnswered x s piece o s') where
  abbrev secure_words : AbiConnection
  secure_words = connected 1 ready c x

  abbrev secure_answer : sealed-step.Answer
  secure_answer = sealed-step.answer (secure_of x) s piece

  secure_answered : ready_rule (connection_of secure_words) ≡ true → secure.fits x.numbers ≡ true → AbiAnswered secure_words s piece (handed (connected 1 ready c o.state) o.report) s'
  secure_answered q f =
      let k = secure_stands ready c x in
      let st = secure_state ready c x in
      let rule : ready_rule st ≡ true = sym (ap ready_rule k) ∙ q in
      let w = h.back f in
      let t = h.received ∙ (within x s piece f).0 in
      assembled secure_words s piece st k (secure_fits ready c x l ∙ f) rule (by_secure st secure_answer) (handed (connected 1 ready c o.state) o.report) s'
      (mode-is st s piece true rule refl)
      (joined refl (sym (mark-number-back ready l)) refl (ap (λ (y : SecureReceived). y.state) t) (ap (λ (y : SecureReceived). y.report) t))
      (h.store ∙ (within x s piece f).1)
      (record { state = secure_stands ready c o.state ∙ ap (λ (y : secure-state.State). record { mode = mode.Secure; ready = mark_of ready; crc = state_of c; sealed = y }) w.back; fit = secure_fits ready c o.state l ∙ w.fit })
      (h.tells ∙ ap (λ (y : Bool). cond y secure_answer.received.report (Some (event.Refused contradiction))) f)

  secure_beyond : secure.fits x.numbers ≡ false → AbiAnswered secure_words s piece (handed (connected 1 ready c o.state) o.report) s'
  secure_beyond f =
      let e = beyond x s piece f in
      let t = h.received ∙ e.0 in
      let g : fits secure_words ≡ false = secure_fits ready c x l ∙ f in
      let v : s' ≡ s = h.store ∙ e.1 in
      let z : handed (connected 1 ready c o.state) o.report ≡ contradicts secure_words =
      joined refl refl refl (ap (λ (y : SecureReceived). y.state) t) (ap (λ (y : SecureReceived). y.report) t) in
      subst (λ (y : AbiReceived). AbiAnswered secure_words s piece y s') (sym z)
      (subst (λ (y : List ℕ). AbiAnswered secure_words s piece (contradicts secure_words) y) (sym v)
      (words-refused secure_words s piece (contradicts secure_words).report refl (ap (λ (y : Bool). y && ready_rule (connection_of secure_words)) g)))

  pub secure_call : ready_rule (connection_of secure_words) ≡ true → AbiAnswered secure_words s piece (handed (connected 1 ready c o.state) o.report) s'
  secure_call q = by_test (secure.fits x.numbers) (secure_answered q) secure_beyond

-- ---- what a call tests before it looks at either part

-- THE TEST: the mode and the mark are numbers of their fields, and the mark keeps its rule
abbrev pub usable : AbiConnection → Bool
usable p = leb p.mode 1 && (leb p.ready 1 && marked_rule p)

pub not_usable : (p : AbiConnection) → usable p ≡ false → (fits p && ready_rule (connection_of p)) ≡ false
unfolding fits
not_usable p e = rw (rule_in_words p) (go (leb p.mode 1) (leb p.ready 1) (marked_rule p) (cond (eqb p.mode 0) (crc.fits p.crc.numbers) (secure.fits p.sealed.numbers)) e)
  where
    go : (a b t f : Bool) → (a && (b && t)) ≡ false → ((a && (b && f)) && t) ≡ false
    go true true true f e = wrong (sym e)
    go true true false true e = refl
    go true true false false e = refl
    go true false t f e = refl
    go false b t f e = refl

pub unusable : (p : AbiConnection) (s piece r : List ℕ) → usable p ≡ false → r ≡ (contradicts p).report → AbiAnswered p s piece (handed p r) s
unusable p s piece r e d = words-refused p s piece r d (not_usable p e)

pub record Usable (p : AbiConnection) : Type 0 where
  pub mode : p.mode ≤ 1
  pub ready : p.ready ≤ 1
  pub rule : ready_rule (connection_of p) ≡ true

pub is-usable : (p : AbiConnection) → usable p ≡ true → Usable p
is-usable p e =
    let a = each_true (leb p.mode 1) (leb p.ready 1 && marked_rule p) e in
    let b = each_true (leb p.ready 1) (marked_rule p) a.1 in
    record { mode = leb-true p.mode 1 a.0; ready = leb-true p.ready 1 b.0; rule = rule_in_words p ∙ b.1 }

-- what the two calls answer, and the kind of the report
module _ (link : List ℕ) (c : AbiState) (x : AbiSecure) (s piece : List ℕ) where
  abbrev both : AbiConnection
  both = connected (get_or link 0 0) (get_or link 1 0) c x

  pub crc-given : (n : ℕ) (o : crc.AbiReceived) (s' : List ℕ) (r : ℕ) → get_or link 0 0 ≡ 0 → Usable both → crc.ReceivedBy c s piece n o s'
      → r ≡ mark_after (get_or link 1 0) (crc-answers.taken_in o) n → ReceivedBy both s piece n (handed (connected 0 r o.state x) o.report) s'
  crc-given n o s' r e h a m =
      let ready = get_or link 1 0 in
      let q : ready_rule (connection_of (connected 0 ready c x)) ≡ true = subst (λ (y : ℕ). ready_rule (connection_of (connected y ready c x)) ≡ true) e h.rule in
      let k : r ≡ mark_after ready (crc-answers.taken_in o) (crc.kind_in o) = m ∙ ap (mark_after ready (crc-answers.taken_in o)) a.kind in
      record {
        kind = a.kind;
        answered = subst (λ (y : ℕ). AbiAnswered (connected y ready c x) s piece (handed (connected 0 r o.state x) o.report) s') (sym e) (crc-call ready c x s piece o s' r h.ready a.answered k q);
      }

  pub secure_given : (n : ℕ) (o : SecureReceived) (s' : List ℕ) → (get_or link 0 0 ≡ 0 → ⊥) → Usable both → secure.SecureReceivedBy x s piece n o s'
      → ReceivedBy both s piece n (handed (connected (get_or link 0 0) (get_or link 1 0) c o.state) o.report) s'
  secure_given n o s' e h a =
      let ready = get_or link 1 0 in
      let l : get_or link 0 0 ≤ 1 = h.mode in
      let f : get_or link 0 0 ≡ 1 = omega (arith, e) in
      let q : ready_rule (connection_of (connected 1 ready c x)) ≡ true = subst (λ (y : ℕ). ready_rule (connection_of (connected y ready c x)) ≡ true) f h.rule in
      record {
        kind = a.kind;
        answered = subst (λ (y : ℕ). AbiAnswered (connected y ready c x) s piece (handed (connected y ready c o.state) o.report) s') (sym f) (secure_call ready c x s piece o s' h.ready a.answered q);
      }

-- ---- a start

pub begun-words : (own : Features) (st : State) (c : AbiState) (x : AbiSecure) → st ≡ begun own → crc.AbiOf st.crc c → secure.AbiOf st.sealed x
    → AbiOf (begun own) (connected 0 0 c x)
unfolding begun
begun-words own st c x e w y =
    let w' = subst (λ (z : State). crc.AbiOf z.crc c) e w in
    let y' = subst (λ (z : State). secure.AbiOf z.sealed x) e y in
    record {
      words = rw (w'.words, y'.words);
      stands = record { state = crc-stands 0 c x ∙ rw (w'.back, y'.back); fit = crc-fits 0 c x zero-le ∙ w'.fit };
    }

-- ---- a switch

pub crc_of_lem : (p : AbiConnection) → state_of p.crc ≡ (connection_of p).crc
unfolding connection_of
crc_of_lem p = refl

turned : {c c' : crc-state.State} {x x' : secure-state.State} → c ≡ c' → x ≡ x'
    → ◌≡◌ {A = State} (record { mode = mode.Secure; ready = false; crc = c; sealed = x }) (record { mode = mode.Secure; ready = false; crc = c'; sealed = x' })
turned e f = rw (e, f)

pub all_three : {n n' : ℕ} {q q' : AbiConnection} {w w' : AbiSending} → n ≡ n' → q ≡ q' → w ≡ w' → switched n q w ≡ switched n' q' w'
all_three e f g = rw (e, f, g)

sent : {ws : List ℕ} {s s' : Sending} → ws ≡ sending_numbers s → s ≡ s' → abi_sending ws s.key s.nonce ≡ sending_words s'
sent {s = s} e f = ap (λ (l : List ℕ). abi_sending l s.key s.nonce) e ∙ ap sending_words f

module _ (p : AbiConnection) (key receiving sending : List ℕ) where
  pub judged-within : fits p ≡ true → judge_words p ≡ judge_switch (connection_of p)
  unfolding judge_words
  judged-within f = rw f

  refused_as_it_came : (j : Judged) → is_fine j ≡ false → (switched_words j p key receiving ≡ p) × (switched_state j (connection_of p) key receiving ≡ connection_of p)
  refused_as_it_came fine e = wrong (sym e)
  refused_as_it_came (refused n) e = (refl, refl)

  pub switch-refused : (n : ℕ) (s : Sending) (ws : List ℕ) → ws ≡ sending_numbers s → is_fine (judge_words p) ≡ false → n ≡ number_of (judge_words p) → s ≡ switched_sending (judge_words p) key sending
      → AbiSwitchedWith p key receiving sending (switched n p (abi_sending ws s.key s.nonce))
  unfolding abi_switch
  switch-refused n s ws w e m d =
      let a = refused_as_it_came (judge_words p) e in
      record {
        promise = all_three m (sym a.0) (sent w d);
        back = λ f. record { state = sym a.1 ∙ ap (λ (j : Judged). switched_state j (connection_of p) key receiving) (judged-within f); fit = f };
      }

  pub switch-made : (n : ℕ) (s : Sending) (ws : List ℕ) (x : AbiSecure) → ws ≡ sending_numbers s → is_fine (judge_words p) ≡ true → n ≡ number_of (judge_words p)
      → s ≡ switched_sending (judge_words p) key sending → secure.AbiOf (sealed-step.switched key receiving) x
      → AbiSwitchedWith p key receiving sending (switched n (connected 1 0 p.crc x) (abi_sending ws s.key s.nonce))
  unfolding abi_switch
  switch-made n s ws x i e m d v =
      let j = fine-is (judge_words p) e in
      let q : connected 1 0 p.crc x ≡ switched_words (judge_words p) p key receiving = ap (connected 1 0 p.crc) v.words ∙ ap (λ (i : Judged). switched_words i p key receiving) (sym j) in
      record {
        promise = all_three m q (sent i d);
        back = λ f. record {
          state = secure_stands 0 p.crc x ∙ turned (crc_of_lem p) v.back ∙ ap (λ (i : Judged). switched_state i (connection_of p) key receiving) (sym j ∙ judged-within f);
          fit = secure_fits 0 p.crc x zero-le ∙ v.fit;
        };
      }
