use mathlib.Core.Path.{refl}
use Rattle.session.specs.Calls.{held_from, agrees, judge_state, judge_accept, judge_ack, accept_of, ack_of, reconnect_of, reset_of, found, held_at}
use Rattle.session.specs.Worked.{Worked, examples}
use Rattle.session.proofs.worked_histories.Goals as goal

-- each history computes
pub returns : goal.returns
unfolding Worked examples held_from agrees judge_state judge_accept judge_ack accept_of ack_of reconnect_of reset_of found held_at
returns c = ((refl, (refl, (refl, (refl, (refl, (refl, (refl, (refl, (refl, (refl, (refl, (refl, (refl, (refl, (refl, (refl, (refl, (refl, (refl, (refl, tt)))))))))))))))))))), (refl, refl, refl, refl, refl), (refl, refl, refl, refl, refl), (refl, refl, refl, refl, refl))
