use Rattle.std.proofs.Common.{◌+◌, ◌-◌, ◌*◌, ◌≤◌, length}
use Rattle.handshake.specs.declared.State.TheVariants.{Hello}
use Rattle.records.proofs.Laws.{Left}
use Rattle.handshake_cases.specs.Steps.{side_of, steps_from}
use Rattle.handshake_cases.proofs.make_steps.Given as goal

abbrev pub invariant-loop-i : goal.invariant-loop-i
invariant-loop-i l =
    record {
      within : 4 + 2 * l.i ≤ length l.s;
      left : Left (steps_from l.s (side_of l.side) Hello l.n 4) (steps_from l.s (side_of l.side) l.state (l.n - l.i) (4 + 2 * l.i)) l.fn.page l.page;
    }
