use Rattle.std.proofs.Common.{◌≡◌, length, drop}
use lib.Seq.{paste}
use Rattle.sealed_receiver.proofs.parts.move_down.Given as goal

abbrev pub invariant-loop-i : goal.invariant-loop-i
invariant-loop-i l = (length l.store ≡ length l.initial.store) × (l.store ≡ paste l.initial.store l.to (drop l.from l.initial.store) l.i)
