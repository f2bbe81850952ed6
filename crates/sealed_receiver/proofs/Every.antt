-- What holds of every single call.
use Rattle.std.proofs.Common.{◌≡◌, ℕ, ◌<◌, true, false, List, length, sym, refl, ap, ◌∙◌, le-ltb, lt-ltb}
use Rattle.refusal.specs.declared.Numbers.{Numbers}
use Rattle.refusal.proofs.Booleans.{wrong}
use Rattle.refusal.specs.Refusals.{contradiction}
use Rattle.sealed_receiver.specs.declared.Stage.{Stage}
use Rattle.sealed_receiver.specs.declared.Stage.TheVariants as stage
use Rattle.sealed_receiver.specs.declared.State.{State}
use Rattle.sealed_receiver.specs.declared.Received.{Received}
use Rattle.sealed_receiver.specs.State.{is_refused, agrees}
use Rattle.sealed_receiver.specs.Step.{refused_state, Answer, feed, refuse_unchanged, needed_by, short_store, answer, Running, Answered}
use Rattle.sealed_receiver.proofs.Live.{RefusedFor, agreed}

-- ---- the kinds of answer

module _ (st : State) (s piece : List ℕ) where
  pub contradicting : agrees st ≡ false → answer st s piece ≡ refuse_unchanged st contradiction s
  unfolding answer
  contradicting e = rw e

  pub repeating : agrees st ≡ true → is_refused st.position.stage ≡ true → answer st s piece ≡ refuse_unchanged st st.known.refusal s
  unfolding answer
  repeating e r = rw (e, r)

  pub shortened : agrees st ≡ true → is_refused st.position.stage ≡ false → length s < needed_by st
      → answer st s piece ≡ refuse_unchanged (refused_state (short_store st)) (short_store st) s
  unfolding answer
  shortened e r t = rw (lt-ltb (length s) (needed_by st) t, e, r)

  pub feeding : Running st s → answer st s piece ≡ feed st s piece
  unfolding answer
  feeding l = rw (le-ltb (length s) (needed_by st) l.fits, l.agree, l.live)

  -- a call that answers so
  pub answered : {a : Answer} {o : Received} {s' : List ℕ} → answer st s piece ≡ a → o ≡ a.received → s' ≡ a.store → Answered st s piece o s'
  answered e r t = record { received = r ∙ sym (ap (λ (x : Answer). x.received) e); store = t ∙ sym (ap (λ (x : Answer). x.store) e) }

  -- a refused receiver takes nothing, changes nothing and repeats its refusal
  pub refused-answer : {n : Numbers} → RefusedFor n st → answer st s piece ≡ refuse_unchanged st n s
  refused-answer g = repeating g.agree (ap is_refused g.stage) ∙ ap (λ (m : Numbers). refuse_unchanged st m s) g.why

stage-refused : (k : Stage) → is_refused k ≡ true → k ≡ stage.Refused
stage-refused stage.First e = wrong e
stage-refused stage.Second e = wrong e
stage-refused stage.Last e = wrong e
stage-refused stage.Refused e = refl

pub refused_for_lem : (st : State) → agrees st ≡ true → is_refused st.position.stage ≡ true → RefusedFor st.known.refusal st
refused_for_lem st e r =
    record { stage = stage-refused st.position.stage r; why = refl; agree = e; gives = rw r at (agreed st e).0.refusal }
