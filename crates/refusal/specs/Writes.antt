-- What a call that writes into a lent buffer comes to.
use Rattle.std.specs.Prelude.{Result, Ok, Err, List, ℕ}
use Rattle.refusal.specs.declared.Numbers.{Numbers}
use Rattle.refusal.specs.declared.Refusal.{Refusal}
use Rattle.refusal.specs.Refusals.{numbers_of}

-- so many bytes, or a refusal in 01's numbers
pub data WriteOutcome : Type 0 where
  wrote : ℕ → WriteOutcome
  refused_for : Numbers → WriteOutcome

-- how many bytes it says were written
abbrev pub count_in : WriteOutcome → ℕ
count_in (wrote n) = n
count_in (refused_for r) = 0

-- with the buffer then
pub record Done : Type 0 where
  pub outcome : WriteOutcome
  pub buffer : List ℕ

abbrev pub done : WriteOutcome → List ℕ → Done
done o l = record { outcome = o; buffer = l }

abbrev pub outcome_of : Result ℕ Refusal → WriteOutcome
outcome_of (Ok n) = wrote n
outcome_of (Err r) = refused_for (numbers_of r)
