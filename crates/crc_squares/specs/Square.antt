-- A word as a polynomial over 0 and 1.
use Rattle.std.specs.Prelude.{ℕ, zero, suc, ◌*◌, ◌/◌, ◌%◌, ◌^◌}
use Rattle.std.specs.Int.Bits.{bit_xor}
use Rattle.crc_steps.specs.Steps.{steps}

-- A number of n digits stands for a polynomial: its lowest digit for x ^ (n - 1), its highest for 1. A step multiplies by x,
-- modulo the polynomial of the CRC, so that x ^ m is m steps from 2 ^ 31, which is 1. The square has each power doubled.
unfoldable pub square_of : ℕ → ℕ → ℕ
square_of zero c = 0
square_of (suc n) c = bit_xor (c % 2 * steps (2 * n) (2 ^ 31)) (square_of n (c / 2))

abbrev pub square : ℕ → ℕ
square c = square_of 32 c
