-- Laws of judgements: all of a list are fine exactly when their first refusal is none, and what a test or a case tells.
use mathlib.Core.Path.{◌≡◌, refl}
use mathlib.Core.Bool.{Bool, true, false, cond, ◌&&◌}
use mathlib.Core.List.{List, [], ◌∷◌, ◌++◌}
use Rattle.refusal.specs.declared.Numbers.{Numbers}
use Rattle.refusal.specs.declared.Refusal.{Refusal}
use Rattle.std.specs.Prelude.{Result, Ok, Err, is_ok}
use Rattle.refusal.specs.Refusals.{Judged, fine, refused, judged_by, is_fine, or_else, first_of, unless}
use Rattle.refusal.proofs.Booleans.{wrong}

-- a judgement by its cases
pub by_judgement_lem : {A : Type 0} (j : Judged) → (j ≡ fine → A) → ((n : Numbers) → j ≡ refused n → A) → A
by_judgement_lem fine f r = f refl
by_judgement_lem (refused n) f r = r n refl

pub fine-is : (j : Judged) → is_fine j ≡ true → j ≡ fine
fine-is fine e = refl
fine-is (refused n) e = wrong e

-- a judgement that code asks by itself
pub ok-fine : (r : Result (Unit {0}) Refusal) → is_ok r ≡ is_fine (judged_by r)
ok-fine (Ok u) = refl
ok-fine (Err why) = refl

-- behind the last judgement nothing is wrong
pub or_else_last : (j : Judged) → or_else j fine ≡ j
or_else_last fine = refl
or_else_last (refused n) = refl

-- the first of two lists, one behind the other
pub first-append : (js ks : List Judged) → or_else (first_of js) (first_of ks) ≡ first_of (js ++ ks)
first-append [] ks = refl
first-append (fine ∷ js) ks = first-append js ks
first-append (refused n ∷ js) ks = refl

-- both of two judgements are fine
pub both-fine : (a b : Judged) → or_else a b ≡ fine → (a ≡ fine) × (b ≡ fine)
both-fine fine b e = (refl, e)
both-fine (refused n) b e = (e, cc)

-- all judgements of a list are fine: of `a ∷ b ∷ c ∷ []` the facts are .0, .1 .0 and .1 .1 .0
abbrev pub AllFine : List Judged → Type 0
AllFine [] = Unit {0}
AllFine (j ∷ js) = (j ≡ fine) × AllFine js

pub all-fine : (js : List Judged) → first_of js ≡ fine → AllFine js
all-fine [] e = tt
all-fine (fine ∷ js) e = (refl, all-fine js e)
all-fine (refused n ∷ js) e = (e, all-fine js cc)

pub fine-all : (js : List Judged) → AllFine js → first_of js ≡ fine
fine-all [] f = refl
fine-all (j ∷ js) f = rw f.0 (fine-all js f.1)

-- by tests: both of two, and one
pub fine_or : (a b : Judged) → is_fine (or_else a b) ≡ (is_fine a && is_fine b)
fine_or fine b = refl
fine_or (refused n) b = refl

pub fine-unless : (ok : Bool) (n : Numbers) → is_fine (cond ok fine (refused n)) ≡ ok
fine-unless true n = refl
fine-unless false n = refl

-- a test that was not refused held
pub passed : (ok : Bool) (r : Refusal) → unless ok r ≡ fine → ok ≡ true
passed true r e = refl
passed false r e = cc
