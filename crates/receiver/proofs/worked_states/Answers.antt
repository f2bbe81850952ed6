use Rattle.std.proofs.Common.{refl}
use Rattle.banner.specs.Bits.{missing, lowest_bit, bit_count}
use Rattle.banner.specs.Banner.{judge_features}
use Rattle.preamble.specs.Judge.{shape_fault, limit_fault, judge_header}
use Rattle.receiver.specs.State.{agrees_at}
use Rattle.receiver.specs.Worked.{WorkedStates, own_rows, banner_rows, frame_rows, count_rows, refusal_rows}
use Rattle.receiver.proofs.worked_states.Goals as goal

pub returns : goal.returns
unfolding WorkedStates own_rows banner_rows frame_rows count_rows refusal_rows agrees_at judge_features missing lowest_bit bit_count judge_header shape_fault limit_fault
returns c = (refl, refl, refl, refl, refl)
