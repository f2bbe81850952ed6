-- AES-128 (FIPS 197). A byte is a number below 256, a column a list of four bytes, a state a list of four columns.
use Rattle.std.specs.Prelude.{List, [], ◌∷◌, ℕ, zero, suc, ◌+◌, get_or}
use Rattle.std.specs.Int.Bits.{bit_xor}
use Rattle.sbox.specs.Sbox.{xtime, mul, sbox}

abbrev pub Column : Type 0
Column = List ℕ

abbrev pub State : Type 0
State = List (List ℕ)

-- ---- 3.4: the byte in row r and column c is byte r + 4c of the input

abbrev pub at : State → ℕ → ℕ → ℕ
at s c r = get_or (get_or s c []) r 0

unfoldable pub column_at : List ℕ → ℕ → Column
column_at bs i = get_or bs i 0 ∷ get_or bs (i + 1) 0 ∷ get_or bs (i + 2) 0 ∷ get_or bs (i + 3) 0 ∷ []

unfoldable pub state_of : List ℕ → State
state_of bs = column_at bs 0 ∷ column_at bs 4 ∷ column_at bs 8 ∷ column_at bs 12 ∷ []

-- ---- 5.1.1: SUBBYTES()

unfoldable pub sub_column : Column → Column
sub_column c = sbox (get_or c 0 0) ∷ sbox (get_or c 1 0) ∷ sbox (get_or c 2 0) ∷ sbox (get_or c 3 0) ∷ []

unfoldable pub sub_bytes : State → State
sub_bytes s =
    sub_column (get_or s 0 []) ∷ sub_column (get_or s 1 []) ∷ sub_column (get_or s 2 []) ∷ sub_column (get_or s 3 []) ∷ []

-- ---- 5.1.2: SHIFTROWS(): row r moves r places to the left
unfoldable pub shift_rows : State → State
shift_rows s =
    (at s 0 0 ∷ at s 1 1 ∷ at s 2 2 ∷ at s 3 3 ∷ [])
    ∷ (at s 1 0 ∷ at s 2 1 ∷ at s 3 2 ∷ at s 0 3 ∷ [])
    ∷ (at s 2 0 ∷ at s 3 1 ∷ at s 0 2 ∷ at s 1 3 ∷ [])
    ∷ (at s 3 0 ∷ at s 0 1 ∷ at s 1 2 ∷ at s 2 3 ∷ [])
    ∷ []

-- ---- 5.1.3: MIXCOLUMNS()

-- a row of the product with 02 03 01 01: of its own byte and those below it, in a cycle
unfoldable pub mixed : ℕ → ℕ → ℕ → ℕ → ℕ
mixed a b c d = bit_xor (bit_xor (bit_xor (mul 2 a) (mul 3 b)) c) d

unfoldable pub mix_column : Column → Column
mix_column c =
    mixed (get_or c 0 0) (get_or c 1 0) (get_or c 2 0) (get_or c 3 0)
    ∷ mixed (get_or c 1 0) (get_or c 2 0) (get_or c 3 0) (get_or c 0 0)
    ∷ mixed (get_or c 2 0) (get_or c 3 0) (get_or c 0 0) (get_or c 1 0)
    ∷ mixed (get_or c 3 0) (get_or c 0 0) (get_or c 1 0) (get_or c 2 0)
    ∷ []

unfoldable pub mix_columns : State → State
mix_columns s =
    mix_column (get_or s 0 []) ∷ mix_column (get_or s 1 []) ∷ mix_column (get_or s 2 []) ∷ mix_column (get_or s 3 []) ∷ []

-- ---- 5.1.4: ADDROUNDKEY()

unfoldable pub add_column : Column → Column → Column
add_column a b =
    bit_xor (get_or a 0 0) (get_or b 0 0)
    ∷ bit_xor (get_or a 1 0) (get_or b 1 0)
    ∷ bit_xor (get_or a 2 0) (get_or b 2 0)
    ∷ bit_xor (get_or a 3 0) (get_or b 3 0)
    ∷ []

unfoldable pub add_round_key : State → State → State
add_round_key s k =
    add_column (get_or s 0 []) (get_or k 0 [])
    ∷ add_column (get_or s 1 []) (get_or k 1 [])
    ∷ add_column (get_or s 2 []) (get_or k 2 [])
    ∷ add_column (get_or s 3 []) (get_or k 3 [])
    ∷ []

-- ---- 5.1: CIPHER(), w the eleven round keys

-- the state after n of the rounds 1 to 9
unfoldable pub rounds : ℕ → List State → State → State
rounds zero w s = s
rounds (suc n) w s = add_round_key (mix_columns (shift_rows (sub_bytes (rounds n w s)))) (get_or w (suc n) [])

unfoldable pub cipher : List State → State → State
cipher w s = add_round_key (shift_rows (sub_bytes (rounds 9 w (add_round_key s (get_or w 0 []))))) (get_or w 10 [])

-- ---- 5.2: KEYEXPANSION(), the words taken four at a time, as the round keys that they are

-- the first byte of Rcon[n + 1]; its others are 0
unfoldable pub rcon : ℕ → ℕ
rcon zero = 1
rcon (suc n) = xtime (rcon n)

unfoldable pub rot_word : Column → Column
rot_word c = get_or c 1 0 ∷ get_or c 2 0 ∷ get_or c 3 0 ∷ get_or c 0 0 ∷ []

-- the word at a multiple of four
unfoldable pub first_word : ℕ → State → Column
first_word rc k =
    add_column (get_or k 0 []) (add_column (sub_column (rot_word (get_or k 3 []))) (rc ∷ 0 ∷ 0 ∷ 0 ∷ []))

-- and the three behind it
unfoldable pub following : Column → State → State
following a k =
    a
    ∷ add_column (get_or k 1 []) a
    ∷ add_column (get_or k 2 []) (add_column (get_or k 1 []) a)
    ∷ add_column (get_or k 3 []) (add_column (get_or k 2 []) (add_column (get_or k 1 []) a))
    ∷ []

unfoldable pub next_key : ℕ → State → State
next_key rc k = following (first_word rc k) k

unfoldable pub round_key : ℕ → State → State
round_key zero k = k
round_key (suc n) k = next_key (rcon n) (round_key n k)

-- n round keys of k, from number i on
unfoldable pub round_keys : ℕ → ℕ → State → List State
round_keys zero i k = []
round_keys (suc n) i k = round_key i k ∷ round_keys n (suc i) k

unfoldable pub key_expansion : List ℕ → List State
key_expansion key = round_keys 11 0 (state_of key)
