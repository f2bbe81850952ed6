use Rattle.std.proofs.Common.{◌+◌, ◌-◌, ◌*◌, ◌≤◌, length}
use Rattle.records.proofs.Laws.{Left}
use Rattle.session_cases.specs.Session.{calls_from}
use Rattle.session_cases.proofs.make_calls.Given as goal

abbrev pub invariant-loop-i : goal.invariant-loop-i
invariant-loop-i l =
    record {
      within : 11 + 9 * l.i ≤ length l.s;
      left : Left (calls_from l.s l.fn.first l.n 11) (calls_from l.s l.session (l.n - l.i) (11 + 9 * l.i)) l.fn.page l.page;
    }
