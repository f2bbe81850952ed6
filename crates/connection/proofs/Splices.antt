-- Entries up to a frame: what is spliced behind them, and what is due before and behind it.
use Prim.Native.Nat.{ℕ, suc, ◌+◌, ◌-◌, ◌≤◌, ◌<◌, min}
use mathlib.Core.List.{List, [], ◌∷◌, ◌++◌}
use mathlib.Core.Path.{◌≡◌, refl, ap, ap₂}
use mathlib.Core.Bool.{Bool, true, false, cond, ◌&&◌}
use native.Mathlib.Omega.{arith}
use lib.Dec.{leb, eqb}
use borrow.Author.Tests.{le-leb, lt-leb, ne_eqb}
use Rattle.refusal.proofs.Booleans.{at_cond}
use Rattle.stream.specs.declared.Event.TheVariants as event
use Rattle.stream.specs.Stream.{Entry, Trace, refused_in}
use Rattle.receiver.specs.Report.{Report}
use Rattle.std.specs.Prelude.{Some, None}
use Rattle.stream.specs.Events.{passing}
use Rattle.receiver.specs.Calls.{due_taken, due_report}
use Rattle.receiver.proofs.Entries.{Behind}
use Rattle.receiver.proofs.Appended.{clean-here, clean-behind}
use Rattle.connection.specs.Switched.{ends_frame, entered, spliced, frames_in}
use Rattle.connection.proofs.Scans.{LastEndsFrame}

some-frame-end : (es : List Entry) (t : ℕ) (s : List ℕ) → LastEndsFrame es t s → 0 < frames_in es
some-frame-end [] t s l = absurd l
some-frame-end (e ∷ []) t s l = rw l.0 (omega arith)
some-frame-end (e ∷ f ∷ es) t s l = at_cond (λ n. 0 < n) (ends_frame e.event) (omega arith) (some-frame-end (f ∷ es) t s l)

module _ (next : ℕ → List ℕ → Trace) (later : List Entry) (store : List ℕ) where
  abbrev put : List Entry → ℕ → List ℕ → Trace
  put es t s = record { entries = es ++ (next t s).entries; store = (next t s).store }

  -- the splice is behind the entries up to a frame, by their number of frames
  pub spliced-there : (es : List Entry) (t : ℕ) (s : List ℕ) → LastEndsFrame es t s → spliced (frames_in es) next (es ++ later) store ≡ put es t s
  unfolding spliced
  spliced-there [] t s l = absurd l
  spliced-there (e ∷ []) t s l = rw l.0 (ap₂ (λ (a : ℕ) (u : List ℕ). entered e (next a u)) l.1 l.2)
  spliced-there (e ∷ f ∷ es) t s l = go (ends_frame e.event) (frames_in (f ∷ es)) refl (some-frame-end (f ∷ es) t s l) (spliced-there (f ∷ es) t s l)
    where
      go : (b : Bool) (n : ℕ) → frames_in (f ∷ es) ≡ n → 0 < n → spliced (frames_in (f ∷ es)) next (f ∷ es ++ later) store ≡ put (f ∷ es) t s
          → entered e (cond (b && eqb (cond b (suc n) n) 1) (next e.at e.store) (spliced (cond b (cond b (suc n) n - 1) (cond b (suc n) n)) next (f ∷ es ++ later) store)) ≡ put (e ∷ f ∷ es) t s
      go true n q h ih =
          let k : suc n - 1 ≡ frames_in (f ∷ es) = omega arith in
          rw (ne_eqb (suc n) 1 (λ z. absurd (omega arith)), k) (ap (entered e) ih)
      go false n q h ih = rw (← q) (ap (entered e) ih)

-- ---- what is due

-- all entries lie at or before a byte
abbrev pub AllBy : ℕ → List Entry → Type 0
AllBy t [] = Unit {0}
AllBy t (e ∷ es) = (e.at ≤ t) × AllBy t es

-- those that lie before do not count, where none is a refusal
pub skipped : (es fs : List Entry) (t k : ℕ) → AllBy t es → refused_in es ≡ false → (due_taken (es ++ fs) t k ≡ due_taken fs t k) × (due_report (es ++ fs) t k ≡ due_report fs t k)
unfolding due_taken due_report
skipped [] fs t k a c = (refl, refl)
skipped (e ∷ es) fs t k a c =
    let ih = skipped es fs t k a.1 (clean-behind e.event (refused_in es) c) in
    let p = clean-here e.event (refused_in es) c in
    (rw (le-leb e.at t a.0, p) ih.0, rw (le-leb e.at t a.0, p) ih.1)

-- where one of them lies ahead, later ones do not count
pub ahead-only : (es fs gs : List Entry) (t t₁ k : ℕ) (s : List ℕ) → LastEndsFrame es t₁ s → t < t₁
    → (due_taken (es ++ fs) t k ≡ due_taken (es ++ gs) t k) × (due_report (es ++ fs) t k ≡ due_report (es ++ gs) t k)
unfolding due_taken due_report
ahead-only [] fs gs t t₁ k s l h = absurd l
ahead-only (e ∷ []) fs gs t t₁ k s l h =
    let b : t < e.at = omega (arith, l.1) in
    (rw (lt-leb e.at t b), rw (lt-leb e.at t b))
ahead-only (e ∷ f ∷ es) fs gs t t₁ k s l h =
    let ih = ahead-only (f ∷ es) fs gs t t₁ k s l h in (
      ap (λ (n : ℕ). cond (leb e.at t) (passing e.event n (λ m. 0)) (min k (e.at - t))) ih.0,
      ap (λ (r : Report). cond (leb e.at t) (passing e.event r (λ m. Some (event.Refused m))) (cond (leb e.at (t + k)) (Some e.event) None)) ih.1,
    )

-- entries behind a byte make a call there take a byte of what it is lent
pub takes-some : (es : List Entry) (t k : ℕ) → Behind t es → due_taken es t k ≡ 0 → k ≡ 0
unfolding due_taken
takes-some [] t k h e = e
takes-some (x ∷ es) t k h e = let q : min k (x.at - t) ≡ 0 = rw (lt-leb x.at t h) at e in omega (arith, q)

-- and a call that is lent nothing takes nothing and reports nothing
pub lent_nothing : (es : List Entry) (t : ℕ) → Behind t es → (due_taken es t 0 ≡ 0) × (due_report es t 0 ≡ None)
unfolding due_taken due_report
lent_nothing [] t h = (refl, refl)
lent_nothing (x ∷ es) t h =
    let z : t + 0 < x.at = omega arith in
    (rw (lt-leb x.at t h) (omega arith), rw (lt-leb x.at t h, lt-leb x.at (t + 0) z))
