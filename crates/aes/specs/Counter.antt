-- SP 800-38D, 6.2 and 6.5: the counter blocks of a 12-byte nonce, and the bytes that they mask. w are the round keys of the key.
use Rattle.std.specs.Prelude.{List, [], ◌∷◌, ℕ, suc, ◌+◌, ◌/◌, ◌%◌}
use Rattle.std.specs.Int.Bits.{bit_xor}
use Rattle.aes.specs.Aes.{State, at, column_at, cipher}

-- the four bytes of a number, highest first; what does not fit is left out, as by inc_32
abbrev pub be4 : ℕ → List ℕ
be4 n = n / 256 / 256 / 256 % 256 ∷ n / 256 / 256 % 256 ∷ n / 256 % 256 ∷ n % 256 ∷ []

-- the nonce and a count: J0 is block 1
unfoldable pub counter_block : List ℕ → ℕ → State
counter_block nonce i = column_at nonce 0 ∷ column_at nonce 4 ∷ column_at nonce 8 ∷ be4 i ∷ []

unfoldable pub keystream_block : List State → List ℕ → ℕ → State
keystream_block w nonce i = cipher w (counter_block nonce i)

abbrev pub byte_of : State → ℕ → ℕ
byte_of s k = at s (k / 4) (k % 4)

-- byte j of a text meets byte j % 16 of block 2 + j / 16: the first block is inc_32(J0)
unfoldable pub keystream_byte : List State → List ℕ → ℕ → ℕ
keystream_byte w nonce j = byte_of (keystream_block w nonce (j / 16 + 2)) (j % 16)

unfoldable pub gctr_from : List State → List ℕ → ℕ → List ℕ → List ℕ
gctr_from w nonce j [] = []
gctr_from w nonce j (b ∷ bs) = bit_xor b (keystream_byte w nonce j) ∷ gctr_from w nonce (suc j) bs

-- 6.5: GCTR of a text, from inc_32(J0) on
abbrev pub gctr : List State → List ℕ → List ℕ → List ℕ
gctr w nonce bs = gctr_from w nonce 0 bs
