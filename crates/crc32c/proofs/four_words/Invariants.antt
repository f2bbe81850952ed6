use Rattle.std.proofs.Common.{◌≡◌, ℕ, ◌+◌, ◌*◌}
use Rattle.crc32c.specs.Lanes.{LeftBy}
use Rattle.crc32c.proofs.four_words.Given as goal

abbrev pub invariant-loop-k : goal.invariant-loop-k
invariant-loop-k l = (l.w.i ≡ l.l.i + 4 * l.k) × ((s : ℕ) → LeftBy s l.bytes l.l → LeftBy s l.bytes l.w)
