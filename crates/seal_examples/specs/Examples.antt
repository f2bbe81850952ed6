-- Worked examples of the definitions: FIPS 197's, the first two test cases of the GCM specification (McGrew and Viega), and the answers of calls at their boundaries.
use Rattle.std.specs.Prelude.{◌≡◌, List, [], ◌∷◌, ℕ, ◌+◌, replicate}
use Rattle.refusal.specs.Refusals.{fine, refused, row}
use Rattle.refusal.specs.Writes.{refused_for, done}
use Rattle.sbox.specs.Sbox.{mul, sbox}
use Rattle.aes.specs.Aes.{state_of, sub_bytes, shift_rows, mix_columns, add_round_key, round_key, key_expansion, cipher}
use Rattle.gcm.specs.Gcm.{plain, fail, sealed, opened}
use Rattle.gcm.specs.Calls.{limit, judge_seal, judge_open, by_both}

-- appendix B of FIPS 197: the key, the input, and the first round
abbrev pub key : List ℕ
key = 0x2b ∷ 0x7e ∷ 0x15 ∷ 0x16 ∷ 0x28 ∷ 0xae ∷ 0xd2 ∷ 0xa6 ∷ 0xab ∷ 0xf7 ∷ 0x15 ∷ 0x88 ∷ 0x09 ∷ 0xcf ∷ 0x4f ∷ 0x3c ∷ []

abbrev pub input : List ℕ
input = 0x32 ∷ 0x43 ∷ 0xf6 ∷ 0xa8 ∷ 0x88 ∷ 0x5a ∷ 0x30 ∷ 0x8d ∷ 0x31 ∷ 0x31 ∷ 0x98 ∷ 0xa2 ∷ 0xe0 ∷ 0x37 ∷ 0x07 ∷ 0x34 ∷ []

abbrev pub start : List ℕ
start = 0x19 ∷ 0x3d ∷ 0xe3 ∷ 0xbe ∷ 0xa0 ∷ 0xf4 ∷ 0xe2 ∷ 0x2b ∷ 0x9a ∷ 0xc6 ∷ 0x8d ∷ 0x2a ∷ 0xe9 ∷ 0xf8 ∷ 0x48 ∷ 0x08 ∷ []

abbrev pub substituted : List ℕ
substituted = 0xd4 ∷ 0x27 ∷ 0x11 ∷ 0xae ∷ 0xe0 ∷ 0xbf ∷ 0x98 ∷ 0xf1 ∷ 0xb8 ∷ 0xb4 ∷ 0x5d ∷ 0xe5 ∷ 0x1e ∷ 0x41 ∷ 0x52 ∷ 0x30 ∷ []

abbrev pub shifted : List ℕ
shifted = 0xd4 ∷ 0xbf ∷ 0x5d ∷ 0x30 ∷ 0xe0 ∷ 0xb4 ∷ 0x52 ∷ 0xae ∷ 0xb8 ∷ 0x41 ∷ 0x11 ∷ 0xf1 ∷ 0x1e ∷ 0x27 ∷ 0x98 ∷ 0xe5 ∷ []

abbrev pub mixed_once : List ℕ
mixed_once = 0x04 ∷ 0x66 ∷ 0x81 ∷ 0xe5 ∷ 0xe0 ∷ 0xcb ∷ 0x19 ∷ 0x9a ∷ 0x48 ∷ 0xf8 ∷ 0xd3 ∷ 0x7a ∷ 0x28 ∷ 0x06 ∷ 0x26 ∷ 0x4c ∷ []

abbrev pub first_key : List ℕ
first_key = 0xa0 ∷ 0xfa ∷ 0xfe ∷ 0x17 ∷ 0x88 ∷ 0x54 ∷ 0x2c ∷ 0xb1 ∷ 0x23 ∷ 0xa3 ∷ 0x39 ∷ 0x39 ∷ 0x2a ∷ 0x6c ∷ 0x76 ∷ 0x05 ∷ []

-- appendix A.1: the last round key
abbrev pub last_key : List ℕ
last_key = 0xd0 ∷ 0x14 ∷ 0xf9 ∷ 0xa8 ∷ 0xc9 ∷ 0xee ∷ 0x25 ∷ 0x89 ∷ 0xe1 ∷ 0x3f ∷ 0x0c ∷ 0xc8 ∷ 0xb6 ∷ 0x63 ∷ 0x0c ∷ 0xa6 ∷ []

abbrev pub output : List ℕ
output = 0x39 ∷ 0x25 ∷ 0x84 ∷ 0x1d ∷ 0x02 ∷ 0xdc ∷ 0x09 ∷ 0xfb ∷ 0xdc ∷ 0x11 ∷ 0x85 ∷ 0x97 ∷ 0x19 ∷ 0x6a ∷ 0x0b ∷ 0x32 ∷ []

-- GCM's test cases 1 and 2: a key, a nonce and a text of zeros
abbrev pub zeros : ℕ → List ℕ
zeros n = replicate n 0

abbrev pub empty_sealed : List ℕ
empty_sealed = 0x58 ∷ 0xe2 ∷ 0xfc ∷ 0xce ∷ 0xfa ∷ 0x7e ∷ 0x30 ∷ 0x61 ∷ 0x36 ∷ 0x7f ∷ 0x1d ∷ 0x57 ∷ 0xa4 ∷ 0xe7 ∷ 0x45 ∷ 0x5a ∷ []

abbrev pub block_sealed : List ℕ
block_sealed =
    0x03 ∷ 0x88 ∷ 0xda ∷ 0xce ∷ 0x60 ∷ 0xb6 ∷ 0xa3 ∷ 0x92 ∷ 0xf3 ∷ 0x28 ∷ 0xc2 ∷ 0xb9 ∷ 0x71 ∷ 0xb2 ∷ 0xfe ∷ 0x78
    ∷ 0xab ∷ 0x6e ∷ 0x47 ∷ 0xd4 ∷ 0x2c ∷ 0xec ∷ 0x13 ∷ 0xbd ∷ 0xf5 ∷ 0x3a ∷ 0x67 ∷ 0xb2 ∷ 0x12 ∷ 0x57 ∷ 0xbd ∷ 0xdf ∷ []

-- the same with the last bit turned
abbrev pub empty_wrong : List ℕ
empty_wrong = 0x58 ∷ 0xe2 ∷ 0xfc ∷ 0xce ∷ 0xfa ∷ 0x7e ∷ 0x30 ∷ 0x61 ∷ 0x36 ∷ 0x7f ∷ 0x1d ∷ 0x57 ∷ 0xa4 ∷ 0xe7 ∷ 0x45 ∷ 0x5b ∷ []

-- FIPS 197
pub record Fips197 : Type 0 where
  pub products : (mul 0x57 0x83 ≡ 0xc1) × (mul 0x57 0x13 ≡ 0xfe)
  pub box : sbox 0x53 ≡ 0xed
  pub added : add_round_key (state_of input) (state_of key) ≡ state_of start
  pub subbed : sub_bytes (state_of start) ≡ state_of substituted
  pub rows : shift_rows (state_of substituted) ≡ state_of shifted
  pub columns : mix_columns (state_of shifted) ≡ state_of mixed_once
  pub first-key : round_key 1 (state_of key) ≡ state_of first_key
  pub last-key : round_key 10 (state_of key) ≡ state_of last_key
  pub block : cipher (key_expansion key) (state_of input) ≡ state_of output

-- SP 800-38D
pub record Gcm : Type 0 where
  pub empty : sealed (zeros 16) (zeros 12) [] ≡ empty_sealed
  pub block : sealed (zeros 16) (zeros 12) (zeros 16) ≡ block_sealed
  pub right : opened (zeros 16) (zeros 12) empty_sealed ≡ plain []
  pub wrong : opened (zeros 16) (zeros 12) empty_wrong ≡ fail
  pub short : opened (zeros 16) (zeros 12) (zeros 15) ≡ fail

-- the orders of refusals, by lengths alone: of a text and a buffer, of sealed bytes and a buffer
pub record Orders : Type 0 where
  pub seal_long : judge_seal (limit + 1) 0 ≡ refused (row 9 0 0 0)
  pub seal_room : judge_seal limit 15 ≡ refused (row 14 (limit + 16) 0 0)
  pub seal_short : judge_seal 5 20 ≡ refused (row 14 21 0 0)
  pub seal_fits : judge_seal 5 21 ≡ fine
  pub open_none : judge_open 15 0 ≡ refused (row 17 0 0 0)
  pub open_long : judge_open (limit + 17) 0 ≡ refused (row 9 0 0 0)
  pub open_room : judge_open (limit + 16) 15 ≡ refused (row 14 limit 0 0)
  pub open_short : judge_open 21 4 ≡ refused (row 14 5 0 0)
  pub open_fits : judge_open 21 5 ≡ fine
  -- a wrong tag leaves zeros over the text's length; behind it the buffer stays
  pub zeroed : by_both fine fail 2 (7 ∷ 7 ∷ 7 ∷ []) ≡ done (refused_for (row 17 0 0 0)) (0 ∷ 0 ∷ 7 ∷ [])
  pub kept : by_both (refused (row 17 0 0 0)) fail 0 (7 ∷ 7 ∷ []) ≡ done (refused_for (row 17 0 0 0)) (7 ∷ 7 ∷ [])

pub record Worked : Type 0 where
  pub fips : Fips197
  pub gcm : Gcm
  pub orders : Orders
