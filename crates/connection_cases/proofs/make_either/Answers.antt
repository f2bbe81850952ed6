use Rattle.std.proofs.Common.{sym, ◌∙◌, arith}
use Rattle.connection_cases.specs.Calls.{call_outcome}
use Rattle.connection_cases.proofs.Laws.{try_fits}
use Rattle.connection_cases.proofs.make_either.Goals as goal

pub try_switch-requires : goal.try_switch-requires
try_switch-requires c = omega (arith, try_fits c.args.l c.args.call.number (sym c.is_try.ensures ∙ c.if-is_try.true), c.requires)

pub returns-then-is_try : goal.returns-then-is_try
unfolding call_outcome
returns-then-is_try c = rw (sym c.is_try.ensures ∙ c.if-is_try.true) (c.try_switch.ensures c.args.store.now)

pub returns : goal.returns
unfolding call_outcome
returns c = rw (sym c.is_try.ensures ∙ c.if-is_try.false) c.make_call.ensures
