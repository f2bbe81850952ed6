-- AES-128-GCM (SP 800-38D, 7.1 and 7.2) with nonces of 12 bytes, tags of 16, no associated data, the tag last. CIPH_K is AES-128 by the round keys w of the key K.
use Rattle.std.specs.Prelude.{Bool, true, false, cond, ◌&&◌, List, [], ◌∷◌, ◌++◌, ℕ, ◌-◌, ◌+◌, ◌*◌, ◌/◌, ◌%◌, ◌^◌, eqb, leb, get_or, length, take, drop, replicate}
use Rattle.std.specs.Int.Bits.{bit_xor}
use Rattle.aes.specs.Aes.{State, state_of, cipher, key_expansion}
use Rattle.aes.specs.Counter.{be4, keystream_block, gctr}
use Rattle.ghash.specs.Ghash.{pair, quad_of, ghash}

-- ---- blocks as numbers, the first byte highest, and back

unfoldable pub column_number : List ℕ → ℕ
column_number c = quad_of (get_or c 0 0) (get_or c 1 0) (get_or c 2 0) (get_or c 3 0)

unfoldable pub block_number : State → ℕ
block_number s =
    pair (column_number (get_or s 0 []) * 2 ^ 32 + column_number (get_or s 1 []))
    (column_number (get_or s 2 []) * 2 ^ 32 + column_number (get_or s 3 []))

abbrev pub be8 : ℕ → List ℕ
be8 n =
    n / 256 / 256 / 256 / 256 / 256 / 256 / 256 % 256
    ∷ n / 256 / 256 / 256 / 256 / 256 / 256 % 256
    ∷ n / 256 / 256 / 256 / 256 / 256 % 256
    ∷ n / 256 / 256 / 256 / 256 % 256
    ∷ be4 n

unfoldable pub block_bytes : ℕ → List ℕ
block_bytes n = be8 (n / 2 ^ 64) ++ be8 (n % 2 ^ 64)

-- ---- 7.1: GCM-AE

-- step 1: H is the zero block, encrypted
unfoldable pub hash_key : List State → ℕ
hash_key w = block_number (cipher w (state_of (replicate 16 0)))

-- steps 4 to 6: the tag of the ciphertext c is its hash, masked by the block of J0
unfoldable pub tag_of : List State → List ℕ → List ℕ → List ℕ
tag_of w nonce c = block_bytes (bit_xor (ghash (hash_key w) c) (block_number (keystream_block w nonce 1)))

-- steps 3 and 7
unfoldable pub sealed_by : List State → List ℕ → List ℕ → List ℕ
sealed_by w nonce text = gctr w nonce text ++ tag_of w nonce (gctr w nonce text)

-- WHAT SEALING A TEXT GIVES
abbrev pub sealed : List ℕ → List ℕ → List ℕ → List ℕ
sealed key nonce text = sealed_by (key_expansion key) nonce text

-- ---- 7.2: GCM-AD: the text, or FAIL

pub data Opened : Type 0 where
  plain : List ℕ → Opened
  fail : Opened

unfoldable pub same_as : List ℕ → List ℕ → Bool
same_as [] [] = true
same_as [] (y ∷ ys) = false
same_as (x ∷ xs) [] = false
same_as (x ∷ xs) (y ∷ ys) = eqb x y && same_as xs ys

-- the n first bytes of s are the ciphertext, and what is behind them is its tag
unfoldable pub tag_fits : List State → List ℕ → ℕ → List ℕ → Bool
tag_fits w nonce n s = same_as (tag_of w nonce (take n s)) (drop n s)

unfoldable pub opened_by : List State → List ℕ → List ℕ → Opened
opened_by w nonce s =
    cond (leb 16 (length s) && tag_fits w nonce (length s - 16) s) (plain (gctr w nonce (take (length s - 16) s))) fail

-- WHAT OPENING GIVES
abbrev pub opened : List ℕ → List ℕ → List ℕ → Opened
opened key nonce s = opened_by (key_expansion key) nonce s
