-- What a step comes to: the state that the table leads to, or else refusal 21 with the tag, and closed.
use Rattle.std.specs.Prelude.{Option, Some, None, Ok, Err, ◌≡◌, List, ℕ}
use Rattle.refusal.specs.declared.Refusal.TheVariants.{UnexpectedTag}
use Rattle.refusal.specs.Refusals.{numbers_of}
use Rattle.handshake.specs.declared.State.{State}
use Rattle.handshake.specs.declared.State.TheVariants.{Closed}
use Rattle.handshake.specs.declared.Verdict.{Verdict}
use Rattle.handshake.specs.declared.Step.{Step}
use Rattle.handshake.specs.Table.{Row, find}

abbrev pub taken : State → Step
taken to = record { state = to; report = Ok tt }

abbrev pub refused_at : ℕ → Step
refused_at tag = record { state = Closed; report = Err (numbers_of (UnexpectedTag tag)) }

abbrev pub step_by : Option State → ℕ → Step
step_by (Some s) tag = taken s
step_by None tag = refused_at tag

-- THE PROMISE of a step of the side that has these rows
pub record Stepped (rs : List Row) (s : State) (tag : ℕ) (v : Verdict) (r : Step) : Type 0 where
  pub step : r ≡ step_by (find rs s tag v) tag
