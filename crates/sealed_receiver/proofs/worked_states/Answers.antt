use Rattle.std.proofs.Common.{refl}
use Rattle.preamble.specs.Judge.{shape_fault, limit_fault, judge_header}
use Rattle.sealed_receiver.specs.State.{no_receiving, agrees_at}
use Rattle.sealed_receiver.specs.Worked.{WorkedStates, part_rows, known_rows, refusal_rows}
use Rattle.sealed_receiver.proofs.worked_states.Goals as goal

pub returns : goal.returns
unfolding WorkedStates part_rows known_rows refusal_rows no_receiving agrees_at judge_header shape_fault limit_fault
returns c = (refl, refl, refl)
