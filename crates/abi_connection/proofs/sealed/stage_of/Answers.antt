use Rattle.std.proofs.Common.{rules, tests}
use Rattle.abi_connection.specs.Secure.{stage_of}
use Rattle.abi_connection.proofs.sealed.stage_of.Goals as goal

pub returns-in-0 : goal.returns-in-0
unfolding stage_of
returns-in-0 c = search rules

pub returns-in-1 : goal.returns-in-1
unfolding stage_of
returns-in-1 c = search rules

pub returns-in-2 : goal.returns-in-2
unfolding stage_of
returns-in-2 c = search rules

pub returns-in_default : goal.returns-in_default
unfolding stage_of
returns-in_default c = search (tests, rules)
