-- Each example computes, the longer ones in a declaration of their own.
use mathlib.Core.Bool.{cond}
use mathlib.Core.List.{List, [], ◌∷◌, ◌++◌}
use Prim.Native.Nat.{ℕ}
use lib.Bits.{bit_xor}
use lib.ListN.{drop, get_or}
use mathlib.Core.Path.{◌≡◌, refl, ap, ap₂, ◌∙◌}
use Rattle.sbox.specs.Sbox.{xtime, mul_bits, power, inverse, affine, sbox}
use Rattle.aes.specs.Aes.{State, column_at, state_of, sub_column, sub_bytes, shift_rows, mixed, mix_column, mix_columns, add_column, add_round_key, rcon, rot_word, first_word, following, next_key, round_key, round_keys, key_expansion, cipher}
use Rattle.aes.specs.Counter.{counter_block, keystream_block, byte_of, keystream_byte, gctr_from, gctr}
use Rattle.aes.proofs.Computed.{sub, mix, cipher_by, keys_by, cipher-is, keys_are}
use Rattle.ghash.specs.Ghash.{step, mul_from, quad_at, block_at, ghash_from, ghash}
use Rattle.gcm.specs.Gcm.{plain, fail, column_number, block_number, block_bytes, hash_key, tag_of, sealed_by, same_as, tag_fits, opened_by}
use Rattle.seal_examples.specs.Examples.{key, input, output, last_key, zeros, empty_sealed, block_sealed, empty_wrong, Fips197, Gcm, Orders}

-- the round keys of a key, and a block by them, in the form that computes fast
abbrev keys_of : List ℕ → List State
keys_of k = keys_by sub 11 1 (state_of k)

encrypted : (k : List ℕ) (s : State) → cipher (key_expansion k) s ≡ cipher_by sub mix (keys_of k) s
encrypted k s = ap (λ (w : List State). cipher w s) (keys_are k) ∙ cipher-is (keys_of k) s

last-key : round_key 10 (state_of key) ≡ state_of last_key
unfolding xtime column_at state_of add_column rot_word following round_keys key_expansion
last-key = ap (λ (ks : List State). get_or ks 10 []) (keys_are key) ∙ refl

block : cipher (key_expansion key) (state_of input) ≡ state_of output
unfolding xtime column_at state_of shift_rows add_column add_round_key rot_word following
block = encrypted key (state_of input) ∙ refl

pub fips : Fips197
unfolding xtime mul_bits power inverse affine sbox column_at state_of sub_column sub_bytes shift_rows mixed mix_column mix_columns add_column add_round_key rcon rot_word first_word following next_key round_key
fips =
    record {
      products = (refl, refl);
      box = refl;
      added = refl;
      subbed = refl;
      rows = refl;
      columns = refl;
      first-key = refl;
      last-key = last-key;
      block = block;
    }

-- ---- GCM: the three blocks that are encrypted, each once, and what follows from them

w : List State
w = key_expansion (zeros 16)

hash-key : hash_key w ≡ 0x66e94bd4ef8a2c3b884cfa59ca342b2e
unfolding w xtime column_at state_of shift_rows add_column add_round_key rot_word following column_number block_number hash_key
hash-key = ap block_number (encrypted (zeros 16) (state_of (zeros 16))) ∙ refl

first : List ℕ
first = 0x58 ∷ 0xe2 ∷ 0xfc ∷ 0xce ∷ 0xfa ∷ 0x7e ∷ 0x30 ∷ 0x61 ∷ 0x36 ∷ 0x7f ∷ 0x1d ∷ 0x57 ∷ 0xa4 ∷ 0xe7 ∷ 0x45 ∷ 0x5a ∷ []

second : List ℕ
second = 0x03 ∷ 0x88 ∷ 0xda ∷ 0xce ∷ 0x60 ∷ 0xb6 ∷ 0xa3 ∷ 0x92 ∷ 0xf3 ∷ 0x28 ∷ 0xc2 ∷ 0xb9 ∷ 0x71 ∷ 0xb2 ∷ 0xfe ∷ 0x78 ∷ []

first_block : keystream_block w (zeros 12) 1 ≡ state_of first
unfolding w first xtime column_at state_of shift_rows add_column add_round_key rot_word following counter_block keystream_block
first_block = encrypted (zeros 16) (counter_block (zeros 12) 1) ∙ refl

second_block : keystream_block w (zeros 12) 2 ≡ state_of second
unfolding w second xtime column_at state_of shift_rows add_column add_round_key rot_word following counter_block keystream_block
second_block = encrypted (zeros 16) (counter_block (zeros 12) 2) ∙ refl

-- the tag of a masked text, from the two
tagged : List ℕ → ℕ → State → List ℕ
tagged c h s = block_bytes (bit_xor (ghash h c) (block_number s))

tag_is : (c : List ℕ) → tag_of w (zeros 12) c ≡ tagged c 0x66e94bd4ef8a2c3b884cfa59ca342b2e (state_of first)
unfolding tag_of tagged
tag_is c = ap₂ (tagged c) hash-key first_block

-- 16 zeros, masked
masked : State → List ℕ
masked s =
    bit_xor 0 (byte_of s 0) ∷ bit_xor 0 (byte_of s 1) ∷ bit_xor 0 (byte_of s 2) ∷ bit_xor 0 (byte_of s 3) ∷ bit_xor 0 (byte_of s 4) ∷ bit_xor 0 (byte_of s 5) ∷ bit_xor 0 (byte_of s 6) ∷ bit_xor 0 (byte_of s 7) ∷ bit_xor 0 (byte_of s 8) ∷ bit_xor 0 (byte_of s 9) ∷ bit_xor 0 (byte_of s 10) ∷ bit_xor 0 (byte_of s 11) ∷ bit_xor 0 (byte_of s 12) ∷ bit_xor 0 (byte_of s 13) ∷ bit_xor 0 (byte_of s 14) ∷ bit_xor 0 (byte_of s 15) ∷ []

masked-is : gctr w (zeros 12) (zeros 16) ≡ second
unfolding gctr_from keystream_byte masked second column_at state_of
masked-is = ap masked second_block

empty-tag : tag_of w (zeros 12) [] ≡ empty_sealed
unfolding tagged first column_at state_of step mul_from quad_at block_at ghash_from ghash column_number block_number block_bytes
empty-tag = tag_is [] ∙ refl

block-tag : tag_of w (zeros 12) second ≡ drop 16 block_sealed
unfolding tagged first second column_at state_of step mul_from quad_at block_at ghash_from ghash column_number block_number block_bytes
block-tag = tag_is second ∙ refl

pub gcm : Gcm
unfolding w second sealed_by gctr_from same_as tag_fits opened_by
gcm =
    record {
      empty = empty-tag;
      block = ap (λ (c : List ℕ). c ++ tag_of w (zeros 12) c) masked-is ∙ ap (λ (t : List ℕ). second ++ t) block-tag;
      right = ap (λ (t : List ℕ). cond (same_as t empty_sealed) (plain []) fail) empty-tag;
      wrong = ap (λ (t : List ℕ). cond (same_as t empty_wrong) (plain []) fail) empty-tag;
      short = refl;
    }

pub orders : Orders
orders =
    record {
      seal_long = refl;
      seal_room = refl;
      seal_short = refl;
      seal_fits = refl;
      open_none = refl;
      open_long = refl;
      open_room = refl;
      open_short = refl;
      open_fits = refl;
      zeroed = refl;
      kept = refl;
    }
