-- What holds of every single call.
use Prim.Native.Nat.{ℕ, ◌<◌}
use mathlib.Core.List.{List}
use mathlib.Core.Path.{◌≡◌, refl, sym, ap, ◌∙◌}
use mathlib.Core.Bool.{true, false}
use lib.ListN.{length}
use borrow.Author.Tests.{lt-ltb, le-ltb}
use Rattle.refusal.specs.declared.Numbers.{Numbers}
use Rattle.stream.specs.declared.Event.TheVariants as event
use Rattle.receiver.specs.declared.State.{State}
use Rattle.std.specs.Prelude.{Some}
use Rattle.receiver.specs.declared.Received.{Received}
use Rattle.receiver.specs.State.{is_refused, agrees}
use Rattle.refusal.specs.Refusals.{contradiction}
use Rattle.receiver.specs.Step.{refused_state, Answer, feed, refuse_unchanged, short_store, needed_by, answer, Answered, Running}
use Rattle.receiver.specs.Every.{Refuses, Sound}
use Rattle.refusal.proofs.Booleans.{by_test, by_less, wrong}
use Rattle.receiver.proofs.Live.{RefusedFor, feed-after, after-agrees, refused_for_lem, agree-own}
use Rattle.receiver.proofs.Machine as machine
use Rattle.receiver.proofs.Scan.{byte_step, machine_feed}

-- ---- the kinds of answer

module _ (st : State) (s piece : List ℕ) where
  pub contradicting : agrees st ≡ false → answer st s piece ≡ refuse_unchanged st contradiction s
  unfolding answer
  contradicting e = rw e

  pub repeating : agrees st ≡ true → is_refused st.position.stage ≡ true → answer st s piece ≡ refuse_unchanged st st.known.refusal s
  unfolding answer
  repeating e r = rw (e, r)

  pub shortened : agrees st ≡ true → is_refused st.position.stage ≡ false → length s < needed_by st
      → answer st s piece ≡ refuse_unchanged (refused_state st.known (short_store st)) (short_store st) s
  unfolding answer
  shortened e r t = rw (e, r, lt-ltb (length s) (needed_by st) t)

  pub feeding : Running st s → answer st s piece ≡ feed st s piece
  unfolding answer
  feeding l = rw (l.agree, l.live, le-ltb (length s) (needed_by st) l.fits)

  pub refused-answer : {n : Numbers} → RefusedFor n st → answer st s piece ≡ refuse_unchanged st n s
  refused-answer g = repeating g.agree (ap is_refused g.stage) ∙ ap (λ (m : Numbers). refuse_unchanged st m s) g.why

  -- of a state that agrees with itself: the call repeats a refusal or refuses a short store, or bytes are taken
  pub by_answer : {C : Type 0} → agrees st ≡ true → ((st' : State) (n : Numbers) → RefusedFor n st' → answer st s piece ≡ refuse_unchanged st' n s → C) → (Running st s → C) → C
  by_answer e refused runs =
      by_test (is_refused st.position.stage) (λ r. refused st st.known.refusal (refused_for_lem st e r) (repeating e r))
      (λ r.
      by_less (length s) (needed_by st)
      (λ t. refused (refused_state st.known (short_store st)) (short_store st) (agree-own st e r (short_store st) refl) (shortened e r t))
      (λ t. runs (record { agree = e; live = r; fits = t })))

-- what an answer is told to be, a call gives
pub answered_as : {st : State} {s piece : List ℕ} {r : Received} {s' : List ℕ} {x : Answer} → answer st s piece ≡ x → r ≡ x.received → s' ≡ x.store → Answered st s piece r s'
answered_as e p q = record { received = rw e p; store = rw e q }

pub refuses : {st : State} {s piece : List ℕ} {r : Received} {s' : List ℕ} (st' : State) (n : Numbers) → Answered st s piece r s' → answer st s piece ≡ refuse_unchanged st' n s → Refuses st' n s r s'
refuses st' n a e = record { state = rw (a.received, e); taken = rw (a.received, e); report = rw (a.received, e); store = rw (a.store, e) }

-- ---- what an answer comes to, by its kind: a live receiver, or one that is refused for good

record Well (x : Answer) : Type 0 where
  agree : agrees x.received.state ≡ true
  has_refused : (n : Numbers) → x.received.report ≡ Some (event.Refused n) → RefusedFor n x.received.state

well : (st : State) (s piece : List ℕ) → agrees st ≡ true → Well (answer st s piece)
well st s piece e =
    by_answer st s piece e (λ st' n g q. rw q (record { agree = g.agree; has_refused = λ m z. (let k : n ≡ m = cc in rw k at g) }))
    (λ l.
    let f = feed st s piece in
    let a = feed-after st s piece l in
    rw (feeding st s piece l) (record { agree = after-agrees f.received.report f.received.state f.store a; has_refused = λ n q. rw q at a }))

pub sound : (st : State) (s piece : List ℕ) (r : Received) (s' : List ℕ) → Answered st s piece r s' → Sound st s piece r s'
sound st s piece r s' a =
    let has_refused : agrees st ≡ true → (n : Numbers) → r.report ≡ Some (event.Refused n) → RefusedFor n r.state =
    λ e n q. rw a.received ((well st s piece e).has_refused n (ap (λ (x : Received). x.report) (sym a.received) ∙ q))
    in
    record {
      contradicts = λ e. refuses st contradiction a (contradicting st s piece e);
      never26 = λ e q. wrong (has_refused e contradiction q).gives;
      agreeing = λ e. ap (λ (x : Received). agrees x.state) a.received ∙ (well st s piece e).agree;
      stays = λ n e q s₂ piece₂ r₂ s₃ a₂. refuses r.state n a₂ (refused-answer r.state s₂ piece₂ (has_refused e n q));
      short = λ e l t. refuses (refused_state st.known (short_store st)) (short_store st) a (shortened st s piece e l t);
      progress = λ l h. rw (a.received, feeding st s piece l) (rw (← (machine_feed st s piece)) at (machine.feed-some byte_step st s piece h));
      nothing = λ l h. rw (a.received, feeding st s piece l) (rw (← (machine_feed st s piece)) at (machine.feed-none byte_step st s piece h));
    }
