use Rattle.std.proofs.Common.{◌+◌, ◌-◌, ◌*◌, length}
use Rattle.link.proofs.steps.+preamble_step_segment_step.Given as goal

abbrev pub decreases-preamble_step : goal.decreases-preamble_step
decreases-preamble_step l = (length l.bytes.now - l.at) * 6

abbrev pub decreases-segment_step : goal.decreases-segment_step
decreases-segment_step l = (length l.bytes.now - l.at) * 6 + l.segments.left + 1
