-- CRC32-C (01, "Checksums"), bit by bit, low bit first: the reflected polynomial 82F63B78, any start value, no complement at the end.
use Rattle.std.specs.Prelude.{List, [], ◌∷◌, ℕ}
use Rattle.std.specs.Int.Bits.{bit_xor}
-- one bit, and n of them: shift right, and xor the polynomial where the low bit was set
unfoldable pub use Rattle.crc_steps.specs.Steps.{step, steps}

-- one byte: it is xored into the low bits, and eight bits are shifted out
abbrev pub crc_byte : ℕ → ℕ → ℕ
crc_byte c b = steps 8 (bit_xor c b)

-- the checksum of a list of bytes from a start value
unfoldable pub crc_of : ℕ → List ℕ → ℕ
crc_of c [] = c
crc_of c (b ∷ bs) = crc_of (crc_byte c b) bs
