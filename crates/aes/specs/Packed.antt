-- A column as one number, its first byte lowest: what the mixing and the adding of columns work on. Not in FIPS 197; the contracts of the steps say nothing of it.
use Rattle.std.specs.Prelude.{◌≡◌, ℕ, ◌+◌, ◌*◌, ◌/◌, ◌%◌, ◌<◌}
use Rattle.std.specs.Int.Bits.{bit_xor, bit_and}

abbrev pub word : ℕ → ℕ → ℕ → ℕ → ℕ
word a b c d = ((d * 256 + c) * 256 + b) * 256 + a

-- four bytes and their number
pub record Packed (a b c d r : ℕ) : Type 0 where
  pub is : r ≡ word a b c d
  pub a_byte : a < 256
  pub b_byte : b < 256
  pub c_byte : c < 256
  pub d_byte : d < 256

-- each byte times x
abbrev pub doubled : ℕ → ℕ
doubled w = bit_xor (bit_and w 0x7f7f7f7f * 2) (bit_and (w / 128) 0x01010101 * 27)

-- a rotation by one, two and three bytes: the next byte comes first
abbrev pub turned1 : ℕ → ℕ
turned1 w = w % 256 * 16777216 + w / 256

abbrev pub turned2 : ℕ → ℕ
turned2 w = w % 65536 * 65536 + w / 65536

abbrev pub turned3 : ℕ → ℕ
turned3 w = w % 16777216 * 256 + w / 16777216

abbrev pub mixed_word : ℕ → ℕ
mixed_word w = bit_xor (bit_xor (bit_xor (doubled w) (turned1 (bit_xor (doubled w) w))) (turned2 w)) (turned3 w)
