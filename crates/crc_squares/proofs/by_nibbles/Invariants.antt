use Rattle.std.proofs.Common.{◌≡◌, ◌+◌, ◌-◌}
use Rattle.std.specs.Int.Bits.{bit_xor}
use Rattle.crc_squares.specs.Table.{root_or_square_at, nibbles}
use Rattle.crc_squares.proofs.by_nibbles.Given as goal

abbrev pub invariant-loop-j : goal.invariant-loop-j
invariant-loop-j l = bit_xor l.r (nibbles root_or_square_at (l.first + l.j) (8 - l.j) l.rest) ≡ nibbles root_or_square_at l.first 8 l.x
