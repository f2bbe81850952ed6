use mathlib.Core.Path.{ap₂}
use mathlib.Core.Bool.{false}
use Rattle.receiver.specs.declared.State as crc-state
use Rattle.sealed_receiver.specs.declared.State as sealed-state
use Rattle.connection.specs.declared.Mode.TheVariants as mode
use Rattle.connection.specs.declared.State.{State}
use Rattle.connection.specs.Step.{begun}
use Rattle.connection.proofs.start.Goals as goal

pub returns : goal.returns
unfolding begun
returns c =
    let a = c.start-first.ensures in
    record {
      state = ap₂ (λ (x : crc-state.State) (y : sealed-state.State). record { mode = mode.Crc; ready = false; crc = x; sealed = y }) a.state c.no_secure.ensures;
      judgement = a.judgement;
    }
