use Rattle.std.proofs.Common.{◌≡◌, ◌+◌, ◌-◌, ◌*◌}
use Rattle.records.specs.Records.{prints}
use Rattle.connection_cases.specs.Places.{calls_from}
use Rattle.connection_cases.specs.Calls.{call_lines}
use Rattle.connection_cases.proofs.make_calls.Given as goal

abbrev pub invariant-loop-i : goal.invariant-loop-i
invariant-loop-i l =
    prints (call_lines l.l l.s (calls_from l.l.lends l.s (l.n - l.i) (l.from + l.width * l.i)) l.rest l.state l.store) l.page
    ≡ prints (call_lines l.l l.s (calls_from l.l.lends l.s l.n l.from) l.fn.stream l.fn.first l.fn.store) l.fn.page
