-- What each try to switch answers, by what holds behind the pieces before it.
use Prim.Native.Nat.{ℕ, ◌+◌}
use mathlib.Core.List.{List, [], ◌∷◌}
use mathlib.Core.Path.{◌≡◌, ap, subst, ◌∙◌}
use mathlib.Core.Bool.{Bool, true}
use Rattle.refusal.specs.declared.Refusal.TheVariants as refusal
use Rattle.refusal.specs.Refusals.{fine, refused, numbers_of, judged_by, unless}
use Rattle.refusal.proofs.Booleans.{at_test}
use Rattle.connection.specs.declared.State.{State}
use Rattle.connection.specs.Step.{agrees, may_be_switched, judge_switch}
use Rattle.connection.specs.Calls.{Piece, Call, taking, switching, Chained, TriesRefused, tried_at, Tries}
use Rattle.connection.proofs.SplitAtSwitch.{judged_27, Fed, taken_of, state_of, left_alone, behind-switch}

module _ (stream : List ℕ) (may : ℕ → Bool) where
  -- what is known behind any pieces from here on
  abbrev Right : State → List ℕ → ℕ → Type 0
  Right st s t = (ps : List Piece) → Fed stream st s t ps → (agrees (state_of st ps) ≡ true) × (may_be_switched (state_of st ps) ≡ may (taken_of t ps))

  judged : (st : State) (s : List ℕ) (t : ℕ) → Right st s t → judge_switch st ≡ unless (may t) refusal.SwitchRefused
  judged st s t right = let r = right [] tt in judged_27 st r.0 ∙ ap (λ (b : Bool). unless b refusal.SwitchRefused) r.1

  -- EVERY TRY
  pub tries-answered : (st : State) (s : List ℕ) (t : ℕ) (cs : List Call) → Right st s t → Chained stream st s t cs → Tries may t cs
  tries-answered st s t [] right ch = tt
  tries-answered st s t (taking c ∷ cs) right ch =
      tries-answered c.received.state c.store (t + c.received.taken) cs (λ ps f. right (c ∷ ps) (ch.0, f)) ch.1
  tries-answered st s t (switching c ∷ cs) right ch =
      at_test (λ b. tried_at b (judged_by c.switched.judgement) (TriesRefused cs) (Tries may t cs)) (may t)
      (λ e.
      let j : judge_switch st ≡ fine = rw e at (judged st s t right) in
      (ch.0.judgement ∙ j, (behind-switch stream st s t c cs j ch).1.1.1))
      (λ e.
      let j : judge_switch st ≡ refused (numbers_of refusal.SwitchRefused) = rw e at (judged st s t right) in
      let q = left_alone stream st c (numbers_of refusal.SwitchRefused) ch.0 j in
      (ch.0.judgement ∙ j, tries-answered st s t cs right (subst (λ (y : State). Chained stream y s t cs) q ch.1)))
