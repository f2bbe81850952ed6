use Rattle.std.proofs.Common.{ℕ, ◌-◌, ◌≤◌, length}
use Rattle.crc32c.specs.Lanes.{LeftBy}
use Rattle.crc32c.proofs.over_words.Given as goal

abbrev pub invariant-loop-w : goal.invariant-loop-w
invariant-loop-w l = (l.w.i ≤ length l.bytes) × ((s : ℕ) → LeftBy s l.bytes l.fn.l → LeftBy s l.bytes l.w)

abbrev pub decreases-loop-w : goal.decreases-loop-w
decreases-loop-w l = length l.bytes - l.w.i
