-- FIPS 197, sections 4 and 5.1.1: bytes as elements of the field GF(2^8), and the substitution box. A byte is a number below 256.
use Rattle.std.specs.Prelude.{◌≡◌, List, ℕ, zero, suc, ◌+◌, ◌*◌, ◌/◌, ◌%◌, ◌^◌, ◌<◌, get_or}
use Rattle.std.specs.Int.Bits.{bit_xor}

-- 4.2: multiplication by x, modulo x^8 + x^4 + x^3 + x + 1 (4.1: addition is exclusive or)
unfoldable pub xtime : ℕ → ℕ
xtime b = bit_xor (b * 2 % 256) (b / 128 * 27)

-- the product of b and the n lowest bits of a: the sum of b, xtime b, .. where a has a one
unfoldable pub mul_bits : ℕ → ℕ → ℕ → ℕ
mul_bits zero a b = 0
mul_bits (suc n) a b = bit_xor (a % 2 * b) (mul_bits n (a / 2) (xtime b))

-- 4.2: a • b
abbrev pub mul : ℕ → ℕ → ℕ
mul a b = mul_bits 8 a b

-- b to the power 2^n - 1
unfoldable pub power : ℕ → ℕ → ℕ
power zero b = 1
power (suc n) b = mul b (mul (power n b) (power n b))

-- 4.4: the inverse of b is b to the power 254, the square of 127; that of 0 counts as 0
unfoldable pub inverse : ℕ → ℕ
inverse b = mul (power 7 b) (power 7 b)

abbrev pub bit : ℕ → ℕ → ℕ
bit b i = b / 2 ^ i % 2

-- 5.1.1: the affine map, its n lowest bits; c is 01100011
unfoldable pub affine : ℕ → ℕ → ℕ
affine zero b = 0
affine (suc i) b =
    affine i b
    + (bit b i + bit b ((i + 4) % 8) + bit b ((i + 5) % 8) + bit b ((i + 6) % 8) + bit b ((i + 7) % 8) + bit 0x63 i) % 2
    * 2 ^ i

-- 5.1.1: SBOX()
unfoldable pub sbox : ℕ → ℕ
sbox b = affine 8 (inverse b)

-- THE RULE of the table
pub record Ruled (t : List ℕ) : Type 0 where
  pub at : (k : ℕ) → k < 256 → get_or t k 0 ≡ sbox k

-- what makes an inverse one
pub record Inverts : Type 0 where
  pub at : (k : ℕ) → 0 < k → k < 256 → mul k (inverse k) ≡ 1
