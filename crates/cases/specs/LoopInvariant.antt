-- What holds between two records.
use Rattle.std.specs.Prelude.{◌≡◌, true, List, ℕ, ◌-◌, ◌≤◌, take, drop}
use Rattle.cases.specs.declared.Input.{Input}
use Rattle.cases.specs.declared.State.{State}

-- the state lies within what is held, and held and space have room for any record's bytes and buffer
pub record LoopInvariant (s : State) (held space : ℕ) : Type 0 where
  pub order : s.input.at ≤ s.input.end
  pub within : s.input.end ≤ held
  pub roomy : 164253 ≤ held
  pub spacious : 65536 ≤ space

-- what was still to be read of l comes first in what is to be read of l'; while more may come, that has room for any record.
pub record Refilled (i : Input) (l : List ℕ) (r : Input) (l' : List ℕ) : Type 0 where
  pub more : i.end - i.at ≤ r.end - r.at
  pub same : take (i.end - i.at) (drop r.at l') ≡ take (i.end - i.at) (drop i.at l)
  pub whole : r.open ≡ true → 164253 ≤ r.end - r.at
