use Rattle.std.proofs.Common.{◌-◌, length}
use Rattle.crc32c.specs.Lanes.{LeftBy}
use Rattle.crc32c.proofs.over_fours.Given as goal

abbrev pub invariant-loop-l : goal.invariant-loop-l
invariant-loop-l l = LeftBy l.start l.bytes l.l

abbrev pub decreases-loop-l : goal.decreases-loop-l
decreases-loop-l l = length l.bytes - l.l.i
