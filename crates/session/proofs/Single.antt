-- Every single call, of a session that agrees with itself.
use mathlib.Core.Path.{◌≡◌, refl, sym, ap, ◌∙◌}
use mathlib.Core.Bool.{Bool, true, false, cond}
use mathlib.Core.List.{[], ◌∷◌, map}
use Prim.Native.Nat.{ℕ, zero, suc, ◌+◌, ◌-◌, ◌≤◌, ◌<◌, ◌%◌}
use native.Mathlib.Omega.{arith}
use lib.ListN.{length, length-set}
use lib.Dec.{leb, ltb}
use borrow.Author.Tests.{ltb-true, leb-true, leb-false, le-leb, lt-leb}
use Rattle.refusal.specs.declared.Numbers.{Numbers}
use Rattle.refusal.specs.declared.Refusal.TheVariants as why
use Rattle.refusal.specs.Refusals.{unless, first_of, row, by_judgement}
use Rattle.refusal.proofs.Judgements.{or_else_last}
use Rattle.refusal.proofs.Booleans.{by_test, at_test, wrong}
use Rattle.std.specs.Prelude.{Result, Some, Ok, Err}
use Rattle.session.specs.declared.Session.{Session}
use Rattle.session.specs.declared.Answer.{Answer}
use Rattle.session.specs.declared.Answer.TheVariants as answer
use Rattle.session.specs.declared.Outcome.{Outcome}
use Rattle.session.specs.Calls.{places, final_number, message_at, held_from, held_of, agrees, fresh_session, judge_state, judge_accept, judge_ack, adding, releasing, acked, cleared, outcome, refusing, accept_of, ack_of, reconnect_of, reset_of, held_at}
use Rattle.session.specs.Laws.{Call, accept, ack, reconnect, reset, call_of, Event, accepted, acknowledged, dropped, nothing, event_of, above, after, held_answers, Sound, EveryCall}
use Rattle.session.proofs.Table.{held_more, all_above, some-above, found-held, Agreeing, agreeing, agrees_by, held_size}

-- ---- the calls, by their tests

-- 26 before all else
contradicted : (s : Session) (c : Call) → agrees s ≡ false → call_of s c ≡ refusing s (row 26 0 0 0)
unfolding accept_of ack_of reconnect_of reset_of judge_accept judge_ack judge_state
contradicted s (accept h) e = rw e
contradicted s (ack n) e = rw e
contradicted s (reconnect n) e = rw e
contradicted s (reset full) e = rw e

module _ (s : Session) (ok : agrees s ≡ true) where
  -- the judgements behind 26
  abbrev pub accept_by : Bool → Bool → ℕ → Outcome
  accept_by left room h = by_judgement (first_of (unless left why.NumbersSpent ∷ unless room why.TableFull ∷ [])) (outcome (adding s (s.last + 1) h) (Ok (answer.Accepted (s.last + 1)))) (refusing s)

  abbrev pub ack_by : Bool → ℕ → Result Answer Numbers → Outcome
  ack_by sent n r = by_judgement (unless sent why.AckAhead) (outcome (acked s n) r) (refusing s)

  pub accept-is : (h : ℕ) → accept_of s h ≡ accept_by (ltb s.last final_number) (ltb (length (held_of s)) places) h
  unfolding accept_of judge_accept judge_state
  accept-is h = rw ok

  pub ack-is : (n : ℕ) → ack_of s n ≡ ack_by (leb n s.last) n (Ok answer.Done)
  unfolding ack_of judge_ack judge_state
  ack-is n = rw (ok, or_else_last (unless (leb n s.last) why.AckAhead))

  pub reconnect-is : (n : ℕ) → reconnect_of s n ≡ ack_by (leb n s.last) n (Ok (answer.Resend (length (held_of (acked s n)))))
  unfolding reconnect_of judge_ack judge_state
  reconnect-is n = rw (ok, or_else_last (unless (leb n s.last) why.AckAhead))

  pub reset-is : (full : Bool) → reset_of s full ≡ outcome (cleared s full) (Ok answer.Done)
  unfolding reset_of judge_state
  reset-is full = rw ok

-- ---- what an event does to the numbers of a session

abbrev pub Moves : Event → Session → Session → Type 0
Moves (accepted m) s t = (m.number ≡ s.last + 1) × (t.last ≡ s.last + 1) × (s.released ≤ t.released)
Moves (acknowledged n) s t = (t.last ≡ s.last) × (s.released ≤ t.released) × (n ≤ t.released) × (n ≤ s.released → t ≡ s)
Moves dropped s t = (t.last ≡ s.last) × (s.released ≤ t.released)
Moves nothing s t = t ≡ s

pub record Good (s : Session) (c : Call) (o : Outcome) : Type 0 where
  pub never26 : o.answer ≡ Err (row 26 0 0 0) → ⊥
  pub agreeing : agrees o.session ≡ true
  pub sized : length o.session.handles ≡ places
  pub unchanged : (n : Numbers) → o.answer ≡ Err n → o.session ≡ s
  pub table : held_of o.session ≡ after (event_of c o.answer) (held_of s)
  pub moves : Moves (event_of c o.answer) s o.session

-- an ack of a number that was sent
pub record Acked (s : Session) (n : ℕ) (t : Session) : Type 0 where
  pub agreeing : agrees t ≡ true
  pub kept : t.handles ≡ s.handles
  pub table : held_of t ≡ above n (held_of s)
  pub moves : Moves (acknowledged n) s t

pub acked-is : (s : Session) → agrees s ≡ true → (n : ℕ) → n ≤ s.last → Acked s n (acked s n)
acked-is s ok n sent =
    let a : Agreeing s = agreeing s ok in
    at_test (λ (b : Bool). Acked s n (cond b s (releasing s n))) (leb n s.released)
    (λ t.
    let le : n ≤ s.released = leb-true n s.released t in
    record {
      agreeing = ok;
      kept = refl;
      table = sym (all_above s.handles s.released (s.last - s.released) n le);
      moves = (refl, omega arith, le, λ _. refl);
    })
    (λ t.
    let lt : s.released < n = leb-false n s.released t in
    let top : s.released + (s.last - s.released) ≡ s.last = omega arith in
    record {
      agreeing = agrees_by (releasing s n) sent (omega arith);
      kept = refl;
      table = sym (rw top at (some-above s.handles s.released (s.last - s.released) n (omega arith) (omega arith)));
      moves = (refl, omega arith, omega arith, λ le. absurd (omega arith));
    })

module _ (s : Session) (ok : agrees s ≡ true) (sized : length s.handles ≡ places) where
  good-refused : (c : Call) (n : Numbers) → (n.number ≡ 26 → ⊥) → event_of c (Err n) ≡ nothing → Good s c (refusing s n)
  good-refused c n other e = record { never26 = λ k. other (cc); agreeing = ok; sized = sized; unchanged = λ m k. refl; table = rw e; moves = rw e }

  -- a call that is not refused
  good-done : (c : Call) (r : Result Answer Numbers) (t : Session) → ((m : Numbers) → r ≡ Err m → ⊥) → agrees t ≡ true → length t.handles ≡ places
      → held_of t ≡ after (event_of c r) (held_of s) → Moves (event_of c r) s t → Good s c (outcome t r)
  good-done c r t not ok' sized' table moves =
      record { never26 = not (row 26 0 0 0); agreeing = ok'; sized = sized'; unchanged = λ m k. absurd (not m k); table = table; moves = moves }

  good-accepted : (h : ℕ) → length (held_of s) < places → Good s (accept h) (outcome (adding s (s.last + 1) h) (Ok (answer.Accepted (s.last + 1))))
  good-accepted h room =
      let a : Agreeing s = agreeing s ok in
      let k : length (held_of s) ≡ s.last - s.released = held_size s in
      let more : s.last + 1 - s.released ≡ suc (s.last - s.released) = omega arith in
      let next : s.released + suc (s.last - s.released) ≡ s.last + 1 = omega arith in
      good-done (accept h) (Ok (answer.Accepted (s.last + 1))) (adding s (s.last + 1) h) (λ m e. wrong (cc)) (agrees_by (adding s (s.last + 1) h) (omega arith) (omega arith))
      (length-set s.handles ((s.last + 1) % places) h ∙ sized)
      (rw (more, ← next) (held_more s.handles s.released (s.last - s.released) h sized (omega arith)))
      (refl, refl, omega arith)

  good-acked : (c : Call) (n : ℕ) (r : Result Answer Numbers) → ((m : Numbers) → r ≡ Err m → ⊥) → event_of c r ≡ acknowledged n → n ≤ s.last → Good s c (outcome (acked s n) r)
  good-acked c n r not e sent =
      let k : Acked s n (acked s n) = acked-is s ok n sent in
      good-done c r (acked s n) not k.agreeing (ap length k.kept ∙ sized) (rw e k.table) (rw e k.moves)

  good-reset : (full : Bool) → Good s (reset full) (outcome (cleared s full) (Ok answer.Done))
  unfolding held_from
  good-reset true =
      let a : Agreeing s = agreeing s ok in
      let none : s.last - s.last ≡ 0 = omega arith in
      good-done (reset true) (Ok answer.Done) (releasing s s.last) (λ m e. wrong (cc)) (agrees_by (releasing s s.last) (omega arith) (omega arith)) sized (rw none) (refl, a.order)
  good-reset false = good-done (reset false) (Ok answer.Done) s (λ m e. wrong (cc)) ok sized refl refl

  accept-good : (left room : Bool) (h : ℕ) → (room ≡ true → length (held_of s) < places) → Good s (accept h) (accept_by s ok left room h)
  accept-good true true h k = good-accepted h (k refl)
  accept-good true false h k = good-refused (accept h) (row 22 0 0 0) (λ e. omega arith) refl
  accept-good false room h k = good-refused (accept h) (row 25 0 0 0) (λ e. omega arith) refl

  ack-good : (c : Call) (n : ℕ) (r : Result Answer Numbers) → ((m : Numbers) → r ≡ Err m → ⊥) → event_of c r ≡ acknowledged n → event_of c (Err (row 23 0 0 0)) ≡ nothing
      → (sent : Bool) → (sent ≡ true → n ≤ s.last) → Good s c (ack_by s ok sent n r)
  ack-good c n r not e e' true k = good-acked c n r not e (k refl)
  ack-good c n r not e e' false k = good-refused c (row 23 0 0 0) (λ z. omega arith) e'

  pub good : (c : Call) → Good s c (call_of s c)
  good (accept h) = rw (accept-is s ok h) (accept-good (ltb s.last final_number) (ltb (length (held_of s)) places) h (ltb-true (length (held_of s)) places))
  good (ack n) = rw (ack-is s ok n) (ack-good (ack n) n (Ok answer.Done) (λ m e. wrong (cc)) refl refl (leb n s.last) (leb-true n s.last))
  good (reconnect n) =
      rw (reconnect-is s ok n) (ack-good (reconnect n) n (Ok (answer.Resend (length (held_of (acked s n))))) (λ m e. wrong (cc)) refl refl (leb n s.last) (leb-true n s.last))
  good (reset full) = rw (reset-is s ok full) (good-reset full)

-- ---- the claim

sound : (s : Session) (c : Call) → length s.handles ≡ places → Sound s c
sound s c sized =
    by_test (agrees s)
    (λ ok.
    let g : Good s c (call_of s c) = good s ok sized c in
    record { contradicts = λ bad. cc; never26 = λ _. g.never26; agreeing = λ _. g.agreeing; sized = g.sized; unchanged = g.unchanged; table = λ _. g.table })
    (λ bad.
    let o : call_of s c ≡ refusing s (row 26 0 0 0) = contradicted s c bad in
    record { contradicts = λ _. o; never26 = λ ok _. wrong (cc); agreeing = λ ok. cc; sized = rw o sized; unchanged = λ n _. rw o; table = λ ok. cc })

-- what `held_at` gives are the messages held
at-is : (s : Session) → agrees s ≡ true → (i : ℕ) → i < s.last - s.released → held_at s i ≡ Ok (Some (message_at s.handles (s.released + 1 + i)))
unfolding held_at judge_state
at-is s ok i h = rw (ok, found-held s.handles s.released (s.last - s.released) i h)

held-answers : (s : Session) → agrees s ≡ true → (i k : ℕ) → i + k ≡ s.last - s.released → held_answers s i k ≡ map (λ m. Ok (Some m)) (held_from s.handles (s.released + i) k)
unfolding held_answers held_from
held-answers s ok i zero e = refl
held-answers s ok i (suc k) e =
    let here : s.released + 1 + i ≡ s.released + i + 1 = omega arith in
    let next : s.released + (i + 1) ≡ s.released + i + 1 = omega arith in
    rw (at-is s ok i (omega arith), held-answers s ok (i + 1) k (omega arith), here, next)

resent-held : (s : Session) → agrees s ≡ true → held_answers s 0 (length (held_of s)) ≡ map (λ m. Ok (Some m)) (held_of s)
resent-held s ok =
    let start : s.released + 0 ≡ s.released = omega arith in
    rw (held_size s) (rw start at (held-answers s ok 0 (s.last - s.released) (omega arith)))

pub every_call : EveryCall
every_call = record {
  fresh = agrees_by fresh_session (omega arith) (omega arith);
  each = sound;
  old = λ s n ok le.
      let a : Agreeing s = agreeing s ok in
      let sent : leb n s.last ≡ true = le-leb n s.last (omega arith) in
      let covered : leb n s.released ≡ true = le-leb n s.released le in
      (rw (ack-is s ok n, sent, covered), rw (reconnect-is s ok n, sent, covered));
  resends = λ s n ok sent.
      let k : Acked s n (acked s n) = acked-is s ok n sent in
      rw (reconnect-is s ok n, le-leb n s.last sent) (resent-held (acked s n) k.agreeing ∙ ap (map (λ m. Ok (Some m))) k.table);
  none = λ s n ok ahead.
      let o : reconnect_of s n ≡ refusing s (row 23 0 0 0) = rw (reconnect-is s ok n, lt-leb n s.last ahead) in
      (o, rw o);
}
