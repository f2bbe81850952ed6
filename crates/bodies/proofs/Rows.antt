-- A step's answer as a field of a row, and what a row comes to behind a fault.
use mathlib.Core.Path.{◌≡◌, refl}
use mathlib.Core.Bool.{true}
use mathlib.Core.List.{List, [], ◌∷◌}
use Prim.Native.Nat.{ℕ}
use Rattle.refusal.proofs.Booleans.{by_test, wrong}
use Rattle.fields.specs.Layout.{Kind, Cursor, good, fault, step_of}
use Rattle.fields.specs.Field.{Field, field_at, Place, place_at}
use Rattle.fields.specs.Reading.{read, failed, take_of}
use Rattle.bodies.specs.Read.{run}

-- ---- a step's answer

-- a field that was read
pub record Took (k : Kind) (s : List ℕ) (c : Cursor) (f : Field) (p : Place) (n : ℕ) : Type 0 where
  pub next : good n ≡ step_of k s c
  pub value : f ≡ field_at k s c.at
  pub place : p ≡ place_at k s c.at

pub took-read : (k : Kind) (s : List ℕ) (c : Cursor) {n : ℕ} {f : Field} {p : Place} → read f p (good n) ≡ take_of k s c → Took k s c f p n
unfolding take_of
took-read k s c e =
    by_test (step_of k s c).failed (λ t. wrong cc) (λ t. record { next = cc; value = cc; place = cc })

pub took-failed : (k : Kind) (s : List ℕ) (c : Cursor) {p : ℕ} → failed (fault p) ≡ take_of k s c → step_of k s c ≡ fault p
unfolding take_of
took-failed k s c e = by_test (step_of k s c).failed (λ t. cc) (λ t. wrong cc)

-- ---- a row behind a fault

-- a cursor that failed stays so
pub failed-run : (ks : List Kind) (s : List ℕ) (c : Cursor) → c.failed ≡ true → (run ks s c).failed ≡ true
unfolding step_of
failed-run [] s c h = h
failed-run (k ∷ ks) s c h = failed-run ks s (step_of k s c) (rw h)

-- and at its place
pub stuck : (ks : List Kind) (s : List ℕ) (n : ℕ) → run ks s (fault n) ≡ fault n
unfolding step_of
stuck [] s n = refl
stuck (k ∷ ks) s n = stuck ks s n
