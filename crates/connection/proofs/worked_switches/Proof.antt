use mathlib.Core.Path.{refl}
use Rattle.banner.specs.Bits.{missing, lowest_bit, bit_count}
use Rattle.banner.specs.Banner.{judge_features}
use Rattle.preamble.specs.Judge.{shape_fault, limit_fault, judge_header}
use Rattle.receiver.specs.State as crc-states
use Rattle.receiver.specs.Step.{started}
use Rattle.sealed_receiver.specs.State as sealed-states
use Rattle.sealed_receiver.specs.Step.{switched}
use Rattle.sealed_builder.specs.Build.{fresh_sending, refused_sending}
use Rattle.connection.specs.Switched.{spliced}
use Rattle.connection.specs.Step.{begun, agrees, judge_switch}
use Rattle.connection.specs.Worked.{spliced_rows, behind_rows, ready_rows, switch_rows, state_rows, sending_rows}
use Rattle.connection.proofs.worked_switches.Statement.{statement}
use Rattle.connection.proofs.worked_switches.Tie as tie

pub worked_switches_spec : {M : Type 1} → statement M
unfolding spliced_rows behind_rows ready_rows switch_rows state_rows sending_rows spliced judge_switch agrees begun started crc-states.agrees_at sealed-states.agrees_at switched sealed-states.fresh_receiving judge_features missing lowest_bit bit_count judge_header shape_fault limit_fault fresh_sending refused_sending
worked_switches_spec = tie.close (tie.spec (λ c. record { splices = refl; behind = refl; ready = refl; switches = refl; states = refl; sends = refl }))
