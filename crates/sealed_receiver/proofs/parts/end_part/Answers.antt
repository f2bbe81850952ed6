use Rattle.std.proofs.Common.{◌∙◌}
use Rattle.sealed_receiver.specs.Step.{finish}
use Rattle.sealed_receiver.proofs.parts.end_part.Goals as goal

pub returns-in-Second : goal.returns-in-Second
unfolding finish
returns-in-Second c = rw c.in-Second.is (c.settled_in.ensures ∙ c.end_second_part-ended.ensures c.args.block)

pub returns-in-Last : goal.returns-in-Last
unfolding finish
returns-in-Last c = rw c.in-Last.is (c.settled_in-in-Last.ensures ∙ c.end_last-ended.ensures c.args.block)
