-- Every history: what the events before a call say is what the session then holds, by induction over the calls.
use mathlib.Core.Path.{◌≡◌, refl, sym, ap, ◌∙◌}
use mathlib.Core.Bool.{true, cond}
use mathlib.Core.List.{List, [], ◌∷◌, ◌++◌, append-nil, append_assoc}
use Prim.Native.Nat.{ℕ, zero, suc, ◌+◌, ◌≤◌, ◌<◌}
use native.Mathlib.Omega.{arith}
use lib.ListN.{length, length-append}
use lib.Dec.{leb, ltb}
use borrow.Author.Tests.{leb-true, le-leb, lt-leb, lt-ltb, le-ltb}
use Rattle.refusal.specs.declared.Refusal.TheVariants as why
use Rattle.refusal.specs.Refusals.{Judged, fine, refused, unless, first_of, by_judgement}
use Rattle.refusal.proofs.Booleans.{by_test, by_less}
use Rattle.std.specs.Prelude.{Result, Err}
use Rattle.refusal.specs.declared.Numbers.{Numbers}
use Rattle.session.specs.declared.Session.{Session}
use Rattle.session.specs.declared.Message.{Message}
use Rattle.session.specs.declared.Answer.{Answer}
use Rattle.session.specs.declared.Outcome.{Outcome}
use Rattle.session.specs.Calls.{places, final_number, held_from, held_of, agrees, fresh_session, outcome, refusing}
use Rattle.session.specs.Laws.{Call, accept, ack, reconnect, reset, call_of, Event, accepted, acknowledged, dropped, nothing, above, after}
use Rattle.session.specs.History.{Entry, Chained, session_by, event_by, events_of, Fate, is_acknowledged, is_dropped, is_held, fate_of, same, accepted_in, with_fate, highest, due, Each, numbers, count_up, NotAmong, AllDifferent, EveryHistory}
use Rattle.session.proofs.Table.{agrees_by}
use Rattle.session.proofs.Single.{Moves, Good, good, acked-is, accept-is, ack-is, reconnect-is, reset-is}

-- ---- one more event

abbrev on_fate : Fate → ℕ → Event → Fate
on_fate is_acknowledged m e = is_acknowledged
on_fate is_dropped m e = is_dropped
on_fate is_held m e = fate_of m (e ∷ [])

fate_snoc : (m : ℕ) (es : List Event) (e : Event) → fate_of m (es ++ (e ∷ [])) ≡ on_fate (fate_of m es) m e
unfolding fate_of
fate_snoc m [] e = refl
fate_snoc m (accepted x ∷ es) e = fate_snoc m es e
fate_snoc m (acknowledged n ∷ es) e = by_test (leb m n) (λ t. rw t) (λ t. rw t (fate_snoc m es e))
fate_snoc m (dropped ∷ es) e = refl
fate_snoc m (nothing ∷ es) e = fate_snoc m es e

-- of one more message in front
keeps : (f : Fate) (e : Event) (x : Message) (ms : List Message)
    → cond (same is_held (on_fate f x.number e)) (x ∷ after e ms) (after e ms) ≡ after e (cond (same is_held f) (x ∷ ms) ms)
unfolding fate_of above
keeps is_acknowledged e x ms = refl
keeps is_dropped e x ms = refl
keeps is_held (accepted y) x ms = refl
keeps is_held (acknowledged n) x ms = by_less n x.number (λ l. rw (lt-leb _ _ l, lt-ltb _ _ l)) (λ l. rw (le-leb _ _ l, le-ltb _ _ l))
keeps is_held dropped x ms = refl
keeps is_held nothing x ms = refl

-- what is held after it
held_snoc : (es : List Event) (e : Event) → with_fate is_held (es ++ (e ∷ [])) ≡ after e (with_fate is_held es)
unfolding with_fate fate_of above
held_snoc [] (accepted x) = refl
held_snoc [] (acknowledged n) = refl
held_snoc [] dropped = refl
held_snoc [] nothing = refl
held_snoc (accepted x ∷ es) e = rw (fate_snoc x.number es e, held_snoc es e) (keeps (fate_of x.number es) e x (with_fate is_held es))
held_snoc (acknowledged n ∷ es) e = held_snoc es e
held_snoc (dropped ∷ es) e = held_snoc es e
held_snoc (nothing ∷ es) e = held_snoc es e

accepted_snoc : (es : List Event) (e : Event) → accepted_in (es ++ (e ∷ [])) ≡ accepted_in es ++ accepted_in (e ∷ [])
unfolding accepted_in
accepted_snoc [] e = refl
accepted_snoc (accepted x ∷ es) e = ap (λ (l : List Message). x ∷ l) (accepted_snoc es e)
accepted_snoc (acknowledged n ∷ es) e = accepted_snoc es e
accepted_snoc (dropped ∷ es) e = accepted_snoc es e
accepted_snoc (nothing ∷ es) e = accepted_snoc es e

highest_snoc : (es : List Event) (e : Event) (k : ℕ) → highest es ≤ k → highest (e ∷ []) ≤ k → highest (es ++ (e ∷ [])) ≤ k
unfolding highest
highest_snoc [] e k low last = last
highest_snoc (accepted x ∷ es) e k low last = highest_snoc es e k low last
highest_snoc (acknowledged n ∷ es) e k low last =
    let rest : highest (es ++ (e ∷ [])) ≤ k = highest_snoc es e k (omega arith) last in
    omega arith
highest_snoc (dropped ∷ es) e k low last = highest_snoc es e k low last
highest_snoc (nothing ∷ es) e k low last = highest_snoc es e k low last

-- ---- every message has one fate

by_fate : {A : Type 0} (f : Fate) → (f ≡ is_acknowledged → A) → (f ≡ is_dropped → A) → (f ≡ is_held → A) → A
by_fate is_acknowledged a d h = a refl
by_fate is_dropped a d h = d refl
by_fate is_held a d h = h refl

fates_add : (es : List Event) → length (accepted_in es) ≡ length (with_fate is_acknowledged es) + length (with_fate is_held es) + length (with_fate is_dropped es)
unfolding accepted_in with_fate
fates_add [] = refl
fates_add (accepted x ∷ es) =
    let ih = fates_add es in
    by_fate (fate_of x.number es) (λ f. rw f (omega arith)) (λ f. rw f (omega arith)) (λ f. rw f (omega arith))
fates_add (acknowledged n ∷ es) = fates_add es
fates_add (dropped ∷ es) = fates_add es
fates_add (nothing ∷ es) = fates_add es

-- ---- numbers

numbers-append : (xs ys : List Message) → numbers (xs ++ ys) ≡ numbers xs ++ numbers ys
numbers-append [] ys = refl
numbers-append (x ∷ xs) ys = ap (λ (l : List ℕ). x.number ∷ l) (numbers-append xs ys)

count_snoc : (n k : ℕ) → count_up n (suc k) ≡ count_up n k ++ ((n + k) ∷ [])
unfolding count_up
count_snoc n zero =
    let e : n + 0 ≡ n = omega arith in
    rw e
count_snoc n (suc k) =
    let e : n + 1 + k ≡ n + suc k = omega arith in
    ap (λ (l : List ℕ). n ∷ l) (rw e at (count_snoc (n + 1) k))

not_among : (m n k : ℕ) → m < n → NotAmong m (count_up n k)
unfolding count_up
not_among m n zero h = tt
not_among m n (suc k) h = ((λ e. omega arith), not_among m (n + 1) k (omega arith))

all-different : (n k : ℕ) → AllDifferent (count_up n k)
unfolding count_up
all-different n zero = tt
all-different n (suc k) = (not_among n (n + 1) k (omega arith), all-different (n + 1) k)

-- ---- a session after some events

record Upto (past : List Event) (s : Session) : Type 0 where
  agreeing : agrees s ≡ true
  sized : length s.handles ≡ places
  last : s.last ≡ length (accepted_in past)
  held : held_of s ≡ with_fate is_held past
  counted : numbers (accepted_in past) ≡ count_up 1 (length (accepted_in past))
  covered : highest past ≤ s.released

at_first : Upto [] fresh_session
unfolding accepted_in with_fate highest count_up held_from
at_first = record {
  agreeing = agrees_by fresh_session (omega arith) (omega arith);
  sized = refl;
  last = refl;
  held = refl;
  counted = refl;
  covered = omega arith;
}

module _ (past : List Event) (s t : Session) (u : Upto past s) where
  abbrev messages : Event → List Message
  messages e = accepted_in past ++ accepted_in (e ∷ [])

  -- what an event does to the numbers
  moved : (e : Event) → Moves e s t
      → (t.last ≡ length (messages e)) × (numbers (messages e) ≡ count_up 1 (length (messages e))) × (s.released ≤ t.released) × (highest (e ∷ []) ≤ t.released)
  unfolding accepted_in highest
  moved (accepted x) moves =
      let k : length (accepted_in past ++ (x ∷ [])) ≡ suc (length (accepted_in past)) = simp length-append (omega arith) in
      let n : x.number ≡ 1 + length (accepted_in past) = omega arith in
      (rw k (omega arith), rw (k, numbers-append, u.counted, n) (sym (count_snoc 1 (length (accepted_in past)))), moves.2, omega arith)
  moved (acknowledged n) moves = (rw append-nil (moves.0 ∙ u.last), rw append-nil u.counted, moves.1, omega arith)
  moved dropped moves = (rw append-nil (moves.0 ∙ u.last), rw append-nil u.counted, moves.1, omega arith)
  moved nothing moves = (rw (moves, append-nil) u.last, rw append-nil u.counted, rw moves (omega arith), omega arith)

  next : (e : Event) → Moves e s t → agrees t ≡ true → length t.handles ≡ places → held_of t ≡ after e (held_of s) → Upto (past ++ (e ∷ [])) t
  next e moves ok sized table =
      let m = moved e moves in
      record {
        agreeing = ok;
        sized = sized;
        last = rw (accepted_snoc past e) m.0;
        held = table ∙ ap (after e) u.held ∙ sym (held_snoc past e);
        counted = rw (accepted_snoc past e) m.1;
        covered = highest_snoc past e t.released (omega (arith, u.covered, m.2)) m.3;
      }

-- ---- the next call

answer_by : (j : Judged) (s t : Session) (r : Result Answer Numbers) → (by_judgement j (outcome t r) (refusing s)).answer ≡ by_judgement j r Err
answer_by fine s t r = refl
answer_by (refused n) s t r = refl

module _ (past : List Event) (s : Session) (u : Upto past s) where
  answered : (c : Call) → (call_of s c).answer ≡ due past c
  answered (accept h) =
      rw (accept-is s u.agreeing h, answer_by (first_of (unless (ltb s.last final_number) why.NumbersSpent ∷ unless (ltb (length (held_of s)) places) why.TableFull ∷ [])) s, u.held, u.last)
  answered (ack n) = rw (ack-is s u.agreeing n, answer_by (unless (leb n s.last) why.AckAhead) s, u.last)
  answered (reconnect n) =
      rw (reconnect-is s u.agreeing n, ← u.last)
      (by_test (leb n s.last)
      (λ t. rw (t, (acked-is s u.agreeing n (leb-true n s.last t)).table, u.held, held_snoc past (acknowledged n)))
      (λ t. rw t))
  answered (reset full) = rw (reset-is s u.agreeing full)

  module _ (e : Entry) (met : e.outcome ≡ call_of s e.call) where
    entry-good : Good s e.call e.outcome
    entry-good = rw met (good s u.agreeing u.sized e.call)

    entry_next : Upto (past ++ (event_by e ∷ [])) e.outcome.session
    entry_next = next past s e.outcome.session u (event_by e) entry-good.moves entry-good.agreeing entry-good.sized entry-good.table

    entry-answer : e.outcome.answer ≡ due past e.call
    entry-answer = ap (λ (o : Outcome). o.answer) met ∙ answered e.call

    entry_old : (n : ℕ) → event_by e ≡ acknowledged n → n ≤ highest past → e.outcome.session ≡ s
    entry_old n is low = (rw is at entry-good.moves).3 (omega (arith, u.covered))

-- ---- all calls

each : (past : List Event) (s : Session) (es : List Entry) → Upto past s → Chained s es → Each past s es
each past s [] u c = tt
each past s (e ∷ es) u c =
    (entry-answer past s u e c.0, entry_old past s u e c.0, each (past ++ (event_by e ∷ [])) e.outcome.session es (entry_next past s u e c.0) c.1)

final : (past : List Event) (s : Session) (es : List Entry) → Upto past s → Chained s es → Upto (past ++ events_of es) (session_by s es)
final past s [] u c = rw append-nil u
final past s (e ∷ es) u c =
    rw (append_assoc past (event_by e ∷ []) (events_of es)) at (final (past ++ (event_by e ∷ [])) e.outcome.session es (entry_next past s u e c.0) c.1)

pub every-history : EveryHistory
unfolding EveryHistory
every-history es c =
    let u : Upto (events_of es) (session_by fresh_session es) = final [] fresh_session es at_first c in
    record {
      each = each [] fresh_session es at_first c;
      counted = u.counted;
      once = rw u.counted (all-different 1 (length (accepted_in (events_of es))));
      holds = u.held;
      adds = rw u.held (fates_add (events_of es));
      agreeing = u.agreeing;
    }
