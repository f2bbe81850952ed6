use Rattle.std.proofs.Common.{rules, tests}
use Rattle.receiver.specs.State.{stage_of}
use Rattle.abi_receiver.proofs.words.stage_of.Goals as goal

pub returns-in-0 : goal.returns-in-0
unfolding stage_of
returns-in-0 c = search rules

pub returns-in-1 : goal.returns-in-1
unfolding stage_of
returns-in-1 c = search rules

pub returns-in-2 : goal.returns-in-2
unfolding stage_of
returns-in-2 c = search rules

pub returns-in-3 : goal.returns-in-3
unfolding stage_of
returns-in-3 c = search rules

pub returns-in-4 : goal.returns-in-4
unfolding stage_of
returns-in-4 c = search rules

pub returns-in-5 : goal.returns-in-5
unfolding stage_of
returns-in-5 c = search rules

pub returns-in-6 : goal.returns-in-6
unfolding stage_of
returns-in-6 c = search rules

pub returns-in-7 : goal.returns-in-7
unfolding stage_of
returns-in-7 c = search rules

pub returns-in-8 : goal.returns-in-8
unfolding stage_of
returns-in-8 c = search rules

pub returns-in_default : goal.returns-in_default
unfolding stage_of
returns-in_default c = search (tests, rules)
