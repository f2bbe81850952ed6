-- What is due of a list of entries: those that are passed do not count for what is due later, and a refusal that is passed ends it.
use Prim.Native.Nat.{ℕ, suc, ◌+◌, ◌≤◌, ◌<◌}
use mathlib.Core.List.{List, [], ◌∷◌, ◌++◌, append_assoc, append-nil}
use mathlib.Core.Path.{◌≡◌, refl, ◌∙◌}
use mathlib.Core.Bool.{true, false}
use native.Mathlib.Omega.{arith}
use borrow.Author.Tests.{le-leb, lt-leb}
use Rattle.refusal.specs.declared.Numbers.{Numbers}
use Rattle.refusal.specs.Refusals.{fine}
use Rattle.stream.specs.declared.Event.{Event}
use Rattle.stream.specs.declared.Event.TheVariants as event
use Rattle.stream.specs.Events.{judge_event, passing}
use Rattle.stream.specs.Stream.{Entry, entry, refused_in}
use Rattle.stream.proofs.Events.{by_event}
use Rattle.receiver.specs.Report.{Report}
use Rattle.std.specs.Prelude.{Some, None}
use Rattle.receiver.specs.Calls.{entered, due_taken, due_report}

-- a claim that names a report, by what it is
pub at-report : (C : Report → Type 0) (r : Report) → (r ≡ None → C None) → ((e : Event) → r ≡ Some e → C (Some e)) → C r
at-report C None m f = m refl
at-report C (Some e) m f = f e refl

-- the entries of a report, before later ones
abbrev pub noted : Report → ℕ → List ℕ → List Entry → List Entry
noted None at s es = es
noted (Some e) at s es = entry e at s ∷ es

pub noted-append : (r : Report) (at : ℕ) (s : List ℕ) (es fs : List Entry) → noted r at s (es ++ fs) ≡ noted r at s es ++ fs
noted-append None at s es fs = refl
noted-append (Some e) at s es fs = refl

-- ---- the next entry

-- entries lie behind t
abbrev pub Behind : ℕ → List Entry → Type 0
Behind t [] = Unit {0}
Behind t (e ∷ es) = t < e.at

pub behind-noted : (r : Report) (t : ℕ) (s : List ℕ) (es : List Entry) → Behind (suc t) es → Behind t (noted r (suc t) s es)
behind-noted None t s [] h = tt
behind-noted None t s (e ∷ es) h = omega arith
behind-noted (Some e) t s es h = omega arith

-- of a piece of n bytes k are taken: all without a report, else those up to and including the report's
abbrev pub Fills : Report → ℕ → ℕ → Type 0
Fills None k n = k ≡ n
Fills (Some e) k n = 0 < k

pub next-due : (r : Report) (t k n : ℕ) (s : List ℕ) (es : List Entry) → k ≤ n → Fills r k n → Behind (t + k) es
    → (k ≡ due_taken (noted r (t + k) s es) t n) × (r ≡ due_report (noted r (t + k) s es) t n)
unfolding due_taken due_report
next-due None t k n s [] l f h = (f, refl)
next-due None t k n s (e ∷ es) l f h =
    let a : t < e.at = omega arith in
    let b : t + n < e.at = omega arith in
    (rw (lt-leb e.at t a) (omega arith), rw (lt-leb e.at t a, lt-leb e.at (t + n) b))
next-due (Some e) t k n s es l f h =
    let a : t < t + k = omega arith in
    let b : t + k ≤ t + n = omega arith in
    (rw (lt-leb (t + k) t a) (omega arith), rw (lt-leb (t + k) t a, le-leb (t + k) (t + n) b))

-- ---- entries that are passed

unfoldable pub Skips : ℕ → List Entry → Type 0
Skips t es = (t' k : ℕ) (fs : List Entry) → t ≤ t' → (due_taken (es ++ fs) t' k ≡ due_taken fs t' k) × (due_report (es ++ fs) t' k ≡ due_report fs t' k)

unfoldable pub Stops : Numbers → ℕ → List Entry → Type 0
Stops n t es = (t' k : ℕ) (fs : List Entry) → t ≤ t' → (due_taken (es ++ fs) t' k ≡ 0) × (due_report (es ++ fs) t' k ≡ Some (event.Refused n))

pub skips_none : (t : ℕ) → Skips t []
unfolding Skips
skips_none t t' k fs h = (refl, refl)

-- no refusal
abbrev pub Passes : Report → Type 0
Passes None = Unit {0}
Passes (Some w) = judge_event w ≡ fine

-- a report is passed, or is a refusal
pub by_report : {C : Type 0} (r : Report) → (Passes r → C) → ((n : Numbers) → r ≡ Some (event.Refused n) → C) → C
by_report None passed refusal = passed tt
by_report {C} (Some w) passed refusal =
    by_event (λ v. (Passes (Some v) → C) → ((n : Numbers) → Some v ≡ Some (event.Refused n) → C) → C) (λ v p f g. f p) (λ n f g. g n refl) w passed refusal

pub enters : (r : Report) (t : ℕ) (s : List ℕ) (es : List Entry) → Passes r → entered r t s es ≡ noted r t s [] ++ es
enters None t s es p = refl
enters (Some w) t s es p = rw p

pub skips_noted : (r : Report) (t a : ℕ) (s : List ℕ) (es : List Entry) → Passes r → t ≤ a → Skips t es → Skips a (es ++ noted r a s [])
unfolding Skips due_taken due_report
skips_noted None t a s es p l sk t' k fs h = rw append-nil (sk t' k fs (omega arith))
skips_noted (Some w) t a s es p l sk t' k fs h =
    let r = sk t' k (entry w a s ∷ fs) (omega arith) in
    (rw append_assoc (r.0 ∙ rw (le-leb a t' h, p)), rw append_assoc (r.1 ∙ rw (le-leb a t' h, p)))

pub stops-refusal : (t a : ℕ) (n : Numbers) (s : List ℕ) (es : List Entry) → t ≤ a → Skips t es → Stops n a (es ++ (entry (event.Refused n) a s ∷ []))
unfolding Skips Stops due_taken due_report
stops-refusal t a n s es l sk t' k fs h =
    let r = sk t' k (entry (event.Refused n) a s ∷ fs) (omega arith) in
    (rw append_assoc (r.0 ∙ rw (le-leb a t' h)), rw append_assoc (r.1 ∙ rw (le-leb a t' h)))

-- and no refusal is among them
pub clean-noted : (r : Report) (t : ℕ) (s : List ℕ) (es : List Entry) → Passes r → refused_in es ≡ false → refused_in (es ++ noted r t s []) ≡ false
clean-noted None t s es p e = rw append-nil e
clean-noted (Some w) t s [] p e = rw p
clean-noted (Some w) t s (x ∷ es) p e =
    by_event (λ v. passing v (refused_in es) (λ n. true) ≡ false → passing v (refused_in (es ++ (entry w t s ∷ []))) (λ n. true) ≡ false)
    (λ v q c. rw q (clean-noted (Some w) t s es p (rw q at c))) (λ n c. c) x.event e
