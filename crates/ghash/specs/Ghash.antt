-- SP 800-38D, 6.3 and 6.4: products of blocks and GHASH. A block is a number below 2^128, its first bit the highest.
use Rattle.std.specs.Prelude.{List, ℕ, zero, suc, ◌+◌, ◌*◌, ◌/◌, ◌%◌, ◌^◌, get_or, length}
use Rattle.std.specs.Int.Bits.{bit_xor}

-- two words of 64 bits, the high one first
abbrev pub pair : ℕ → ℕ → ℕ
pair h l = h * 2 ^ 64 + l

-- ---- 6.3: the product X • Y

-- R: 11100001 and 120 zeros
abbrev pub reduction : ℕ
reduction = 0xe1 * 2 ^ 120

-- from V_i to V_(i+1): a place to the right, and R where a one fell out
unfoldable pub step : ℕ → ℕ
step v = bit_xor (v / 2) (v % 2 * reduction)

-- the rest of the product, from Z_i and V_i on, by the n last bits of x
unfoldable pub mul_from : ℕ → ℕ → ℕ → ℕ → ℕ
mul_from zero x z v = z
mul_from (suc n) x z v = mul_from n x (bit_xor z (x / 2 ^ n % 2 * v)) (step v)

-- Z_128, from Z_0 = 0 and V_0 = Y
abbrev pub product : ℕ → ℕ → ℕ
product x y = mul_from 128 x 0 y

-- ---- blocks of a list of bytes, the first byte highest; bytes past its end count as 0, which is the padding

abbrev pub quad_of : ℕ → ℕ → ℕ → ℕ → ℕ
quad_of a b c d = ((a * 256 + b) * 256 + c) * 256 + d

unfoldable pub quad_at : List ℕ → ℕ → ℕ
quad_at bs i = quad_of (get_or bs i 0) (get_or bs (i + 1) 0) (get_or bs (i + 2) 0) (get_or bs (i + 3) 0)

unfoldable pub block_at : List ℕ → ℕ → ℕ
block_at bs i = pair (quad_at bs i * 2 ^ 32 + quad_at bs (i + 4)) (quad_at bs (i + 8) * 2 ^ 32 + quad_at bs (i + 12))

-- ---- 6.4: GHASH of n blocks from place i on, from Y: Y_j = (Y_(j-1) ⊕ X_j) • H
unfoldable pub ghash_from : ℕ → List ℕ → ℕ → ℕ → ℕ → ℕ
ghash_from h bs zero i y = y
ghash_from h bs (suc n) i y = ghash_from h bs n (i + 16) (product (bit_xor y (block_at bs i)) h)

-- 7.1, steps 4 and 5, with no A: S is GHASH of the blocks of C and of a last one, [0]64 and [len(C)]64 in bits
unfoldable pub ghash : ℕ → List ℕ → ℕ
ghash h c = product (bit_xor (ghash_from h c ((length c + 15) / 16) 0 0) (pair 0 (length c * 8 % 2 ^ 64))) h
