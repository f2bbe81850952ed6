-- The cipher in a form that antt computes fast: the substitution box looked up, products by 2 and 3 as doublings, each round key from the one before it.
use mathlib.Core.Bool.{Bool, true, false, cond}
use mathlib.Core.List.{List, [], ◌∷◌}
use mathlib.Core.Path.{◌≡◌, refl, sym, ap, ap₂, fun_ext, ◌∙◌}
use Prim.Native.Nat.{ℕ, zero, suc, ◌*◌, ◌/◌, ◌%◌}
use native.Mathlib.Nat.{zero-mul, one-mul}
use borrow.Author.Tests.{ltb-true}
use lib.Bits.{bit_xor, xor_comm, xor_zero_l, xor_zero_r}
use lib.Dec.{ltb}
use lib.ListN.{get_or}
use Rattle.sbox.specs.Sbox.{Ruled, xtime, mul_bits, power, inverse, affine, sbox}
use Rattle.sbox.proofs.Rules.{ruled}
use Rattle.aes.specs.Aes.{Column, State, state_of, sub_column, sub_bytes, shift_rows, mixed, mix_column, mix_columns, add_column, add_round_key, rcon, rot_word, first_word, following, next_key, round_key, round_keys, key_expansion, rounds, cipher}

-- ---- the substitution box

abbrev box : List ℕ
box =
    0x63 ∷ 0x7c ∷ 0x77 ∷ 0x7b ∷ 0xf2 ∷ 0x6b ∷ 0x6f ∷ 0xc5 ∷ 0x30 ∷ 0x01 ∷ 0x67 ∷ 0x2b ∷ 0xfe ∷ 0xd7 ∷ 0xab ∷ 0x76
    ∷ 0xca ∷ 0x82 ∷ 0xc9 ∷ 0x7d ∷ 0xfa ∷ 0x59 ∷ 0x47 ∷ 0xf0 ∷ 0xad ∷ 0xd4 ∷ 0xa2 ∷ 0xaf ∷ 0x9c ∷ 0xa4 ∷ 0x72 ∷ 0xc0
    ∷ 0xb7 ∷ 0xfd ∷ 0x93 ∷ 0x26 ∷ 0x36 ∷ 0x3f ∷ 0xf7 ∷ 0xcc ∷ 0x34 ∷ 0xa5 ∷ 0xe5 ∷ 0xf1 ∷ 0x71 ∷ 0xd8 ∷ 0x31 ∷ 0x15
    ∷ 0x04 ∷ 0xc7 ∷ 0x23 ∷ 0xc3 ∷ 0x18 ∷ 0x96 ∷ 0x05 ∷ 0x9a ∷ 0x07 ∷ 0x12 ∷ 0x80 ∷ 0xe2 ∷ 0xeb ∷ 0x27 ∷ 0xb2 ∷ 0x75
    ∷ 0x09 ∷ 0x83 ∷ 0x2c ∷ 0x1a ∷ 0x1b ∷ 0x6e ∷ 0x5a ∷ 0xa0 ∷ 0x52 ∷ 0x3b ∷ 0xd6 ∷ 0xb3 ∷ 0x29 ∷ 0xe3 ∷ 0x2f ∷ 0x84
    ∷ 0x53 ∷ 0xd1 ∷ 0x00 ∷ 0xed ∷ 0x20 ∷ 0xfc ∷ 0xb1 ∷ 0x5b ∷ 0x6a ∷ 0xcb ∷ 0xbe ∷ 0x39 ∷ 0x4a ∷ 0x4c ∷ 0x58 ∷ 0xcf
    ∷ 0xd0 ∷ 0xef ∷ 0xaa ∷ 0xfb ∷ 0x43 ∷ 0x4d ∷ 0x33 ∷ 0x85 ∷ 0x45 ∷ 0xf9 ∷ 0x02 ∷ 0x7f ∷ 0x50 ∷ 0x3c ∷ 0x9f ∷ 0xa8
    ∷ 0x51 ∷ 0xa3 ∷ 0x40 ∷ 0x8f ∷ 0x92 ∷ 0x9d ∷ 0x38 ∷ 0xf5 ∷ 0xbc ∷ 0xb6 ∷ 0xda ∷ 0x21 ∷ 0x10 ∷ 0xff ∷ 0xf3 ∷ 0xd2
    ∷ 0xcd ∷ 0x0c ∷ 0x13 ∷ 0xec ∷ 0x5f ∷ 0x97 ∷ 0x44 ∷ 0x17 ∷ 0xc4 ∷ 0xa7 ∷ 0x7e ∷ 0x3d ∷ 0x64 ∷ 0x5d ∷ 0x19 ∷ 0x73
    ∷ 0x60 ∷ 0x81 ∷ 0x4f ∷ 0xdc ∷ 0x22 ∷ 0x2a ∷ 0x90 ∷ 0x88 ∷ 0x46 ∷ 0xee ∷ 0xb8 ∷ 0x14 ∷ 0xde ∷ 0x5e ∷ 0x0b ∷ 0xdb
    ∷ 0xe0 ∷ 0x32 ∷ 0x3a ∷ 0x0a ∷ 0x49 ∷ 0x06 ∷ 0x24 ∷ 0x5c ∷ 0xc2 ∷ 0xd3 ∷ 0xac ∷ 0x62 ∷ 0x91 ∷ 0x95 ∷ 0xe4 ∷ 0x79
    ∷ 0xe7 ∷ 0xc8 ∷ 0x37 ∷ 0x6d ∷ 0x8d ∷ 0xd5 ∷ 0x4e ∷ 0xa9 ∷ 0x6c ∷ 0x56 ∷ 0xf4 ∷ 0xea ∷ 0x65 ∷ 0x7a ∷ 0xae ∷ 0x08
    ∷ 0xba ∷ 0x78 ∷ 0x25 ∷ 0x2e ∷ 0x1c ∷ 0xa6 ∷ 0xb4 ∷ 0xc6 ∷ 0xe8 ∷ 0xdd ∷ 0x74 ∷ 0x1f ∷ 0x4b ∷ 0xbd ∷ 0x8b ∷ 0x8a
    ∷ 0x70 ∷ 0x3e ∷ 0xb5 ∷ 0x66 ∷ 0x48 ∷ 0x03 ∷ 0xf6 ∷ 0x0e ∷ 0x61 ∷ 0x35 ∷ 0x57 ∷ 0xb9 ∷ 0x86 ∷ 0xc1 ∷ 0x1d ∷ 0x9e
    ∷ 0xe1 ∷ 0xf8 ∷ 0x98 ∷ 0x11 ∷ 0x69 ∷ 0xd9 ∷ 0x8e ∷ 0x94 ∷ 0x9b ∷ 0x1e ∷ 0x87 ∷ 0xe9 ∷ 0xce ∷ 0x55 ∷ 0x28 ∷ 0xdf
    ∷ 0x8c ∷ 0xa1 ∷ 0x89 ∷ 0x0d ∷ 0xbf ∷ 0xe6 ∷ 0x42 ∷ 0x68 ∷ 0x41 ∷ 0x99 ∷ 0x2d ∷ 0x0f ∷ 0xb0 ∷ 0x54 ∷ 0xbb ∷ 0x16 ∷ []

box-right : Ruled box
unfolding xtime mul_bits power inverse affine sbox
box-right = ruled refl tt

abbrev pub sub : ℕ → ℕ
sub b = cond (ltb b 256) (get_or box b 0) (sbox b)

sub_is : (b : ℕ) → sbox b ≡ sub b
sub_is b = go (ltb b 256) refl
  where
    go : (t : Bool) → ltb b 256 ≡ t → sbox b ≡ cond t (get_or box b 0) (sbox b)
    go true e = sym (box-right.at b (ltb-true b 256 e))
    go false e = refl

-- ---- products by 2 and 3

abbrev twice : ℕ → ℕ
twice b = bit_xor (b / 128 * 27) (b * 2 % 256)

abbrev pub mix : ℕ → ℕ → ℕ → ℕ → ℕ
mix a b c d = bit_xor (bit_xor (bit_xor (twice a) (bit_xor b (twice b))) c) d

twice-is : (b : ℕ) → xtime b ≡ twice b
unfolding xtime
twice-is b = xor_comm (b * 2 % 256) (b / 128 * 27)

mix-is : (a b c d : ℕ) → mixed a b c d ≡ mix a b c d
unfolding mixed mul_bits
mix-is a b c d = simp (zero-mul, one-mul, xor_zero_l, xor_zero_r, twice-is)

-- ---- by any substitution f and any mixing m of four bytes

module _ (f : ℕ → ℕ) where
  abbrev pub sub_column_by : Column → Column
  sub_column_by c = f (get_or c 0 0) ∷ f (get_or c 1 0) ∷ f (get_or c 2 0) ∷ f (get_or c 3 0) ∷ []

  abbrev pub sub_bytes_by : State → State
  sub_bytes_by s = sub_column_by (get_or s 0 []) ∷ sub_column_by (get_or s 1 []) ∷ sub_column_by (get_or s 2 []) ∷ sub_column_by (get_or s 3 []) ∷ []

  -- n round keys from k on, the next one by the constant rc
  abbrev pub keys_by : ℕ → ℕ → State → List State
  keys_by zero rc k = []
  keys_by (suc n) rc k =
      k ∷ keys_by n (xtime rc) (following (add_column (get_or k 0 []) (add_column (sub_column_by (rot_word (get_or k 3 []))) (rc ∷ 0 ∷ 0 ∷ 0 ∷ []))) k)

  module _ (m : ℕ → ℕ → ℕ → ℕ → ℕ) where
    abbrev pub mix_column_by : Column → Column
    mix_column_by c =
        m (get_or c 0 0) (get_or c 1 0) (get_or c 2 0) (get_or c 3 0)
        ∷ m (get_or c 1 0) (get_or c 2 0) (get_or c 3 0) (get_or c 0 0)
        ∷ m (get_or c 2 0) (get_or c 3 0) (get_or c 0 0) (get_or c 1 0)
        ∷ m (get_or c 3 0) (get_or c 0 0) (get_or c 1 0) (get_or c 2 0)
        ∷ []

    abbrev pub mix_columns_by : State → State
    mix_columns_by s = mix_column_by (get_or s 0 []) ∷ mix_column_by (get_or s 1 []) ∷ mix_column_by (get_or s 2 []) ∷ mix_column_by (get_or s 3 []) ∷ []

    abbrev pub rounds_by : ℕ → List State → State → State
    rounds_by zero w s = s
    rounds_by (suc n) w s = add_round_key (mix_columns_by (shift_rows (sub_bytes_by (rounds_by n w s)))) (get_or w (suc n) [])

    abbrev pub cipher_by : List State → State → State
    cipher_by w s = add_round_key (shift_rows (sub_bytes_by (rounds_by 9 w (add_round_key s (get_or w 0 []))))) (get_or w 10 [])

rounds_by_lem : (n : ℕ) (w : List State) (s : State) → rounds n w s ≡ rounds_by sbox mixed n w s
unfolding rounds sub_bytes sub_column mix_columns mix_column
rounds_by_lem zero w s = refl
rounds_by_lem (suc n) w s = ap (λ (t : State). add_round_key (mix_columns (shift_rows (sub_bytes t))) (get_or w (suc n) [])) (rounds_by_lem n w s)

keys_by_lem : (n i : ℕ) (k : State) → round_keys n i k ≡ keys_by sbox n (rcon i) (round_key i k)
unfolding round_keys round_key next_key first_word sub_column rcon
keys_by_lem zero i k = refl
keys_by_lem (suc n) i k = ap (λ (ks : List State). round_key i k ∷ ks) (keys_by_lem n (suc i) k)

pub cipher-is : (w : List State) (s : State) → cipher w s ≡ cipher_by sub mix w s
unfolding cipher sub_bytes sub_column
cipher-is w s =
    ap (λ (t : State). add_round_key (shift_rows (sub_bytes t)) (get_or w 10 [])) (rounds_by_lem 9 w (add_round_key s (get_or w 0 [])))
    ∙ ap₂ (λ (f : ℕ → ℕ) (m : ℕ → ℕ → ℕ → ℕ → ℕ). cipher_by f m w s) (fun_ext sub_is) (λ i a b c d. mix-is a b c d i)

pub keys_are : (key : List ℕ) → key_expansion key ≡ keys_by sub 11 1 (state_of key)
unfolding key_expansion round_key rcon
keys_are key = keys_by_lem 11 0 (state_of key) ∙ ap (λ (f : ℕ → ℕ). keys_by f 11 1 (state_of key)) (fun_ext sub_is)
