-- The receiver as a machine (Machine): its byte step run over a list of bytes, and what a piece takes of it.
use Prim.Native.Nat.{ℕ, ◌≤◌}
use mathlib.Core.List.{List, [], ◌∷◌}
use mathlib.Core.Path.{◌≡◌, refl, ap, ◌∙◌}
use lib.ListN.{length}
use Rattle.receiver.specs.declared.State.{State}
use Rattle.receiver.specs.Report.{Report}
use Rattle.std.specs.Prelude.{Some, None}
use Rattle.receiver.specs.Step.{Stepped, on_byte, Answer, onward, feed}
use Rattle.receiver.proofs.Machine as machine

abbrev pub bare : Stepped → machine.Stepped State
bare x = record { state = x.state; store = x.store; report = x.report }

abbrev pub byte_step : State → List ℕ → ℕ → machine.Stepped State
byte_step st s b = bare (on_byte st s b)

abbrev pub Scanned : Type 0
Scanned = machine.Scanned State

-- every byte of a list, from the state st and the store s, P bytes being taken before
abbrev pub scan : State → List ℕ → ℕ → List ℕ → Scanned
scan = machine.scan byte_step

-- an answer of the receiver is one of the machine
abbrev pub machine_answer : Answer → machine.Answer State
machine_answer a = record { state = a.received.state; taken = a.received.taken; report = a.received.report; store = a.store }

machine_onward : (r : Report) (x : Stepped) (a : Answer) → machine_answer (onward r 1 x a) ≡ machine.onward r (bare x) (machine_answer a)
machine_onward None x a = refl
machine_onward (Some e) x a = refl

pub machine_feed : (st : State) (s piece : List ℕ) → machine_answer (feed st s piece) ≡ machine.feed byte_step st s piece
unfolding feed machine.feed
machine_feed st s [] = refl
machine_feed st s (b ∷ bs) =
    let x = on_byte st s b in
    machine_onward x.report x (feed x.state x.store bs)
    ∙ ap (machine.onward x.report (byte_step st s b)) (machine_feed x.state x.store bs)

-- no more is taken than the piece has
pub feed-within : (st : State) (s piece : List ℕ) → (feed st s piece).received.taken ≤ length piece
feed-within st s piece = rw (← (machine_feed st s piece)) at (machine.feed-scan byte_step st s piece 0).le
