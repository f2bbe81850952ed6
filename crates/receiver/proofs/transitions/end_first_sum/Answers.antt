use Rattle.std.proofs.Common.{arith}
use Rattle.std.proofs.lemmas.Grind.{common_steps}
use Rattle.receiver.specs.Step.{finish}
use Rattle.receiver.proofs.transitions.end_first_sum.Goals as goal

pub returns-then-stored-sum : goal.returns-then-stored-sum
unfolding finish
returns-then-stored-sum c = grind (arith, common_steps, c.behind_first_sum.ensures c.args.store.now)
