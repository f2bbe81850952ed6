-- The table of square roots and squares: 16 entries for each place of a nibble in a word, the lowest place first; the roots, and then the squares.
-- An entry is that of the highest place (the last 4 digits of a word, powers 3 to 0) and the steps down to its own, which antt computes while it checks the table.
use Rattle.std.specs.Prelude.{◌≡◌, List, ℕ, zero, suc, ◌+◌, ◌*◌, ◌-◌, ◌/◌, ◌%◌, ◌^◌, ◌<◌, get_or}
use Rattle.std.specs.Int.Bits.{bit_xor}
use Rattle.crc_steps.specs.Tables.{computed}

-- the root of a nibble at the highest place: 0xA51E1F42 is that of x, and a step from it that of x ^ 3
abbrev pub high_root : ℕ → ℕ
high_root k = bit_xor (k % 2 * 0x528F0FA1) (bit_xor (k / 2 % 2 * 2 ^ 30) (bit_xor (k / 4 % 2 * 0xA51E1F42) (k / 8 % 2 * 2 ^ 31)))

-- and its square
abbrev pub high_square : ℕ → ℕ
high_square k = k % 2 * 2 ^ 25 + k / 2 % 2 * 2 ^ 27 + k / 4 % 2 * 2 ^ 29 + k / 8 % 2 * 2 ^ 31

abbrev pub pick : ℕ → ℕ → ℕ → ℕ
pick zero a b = a
pick (suc d) a b = b

-- the entry for the nibble i % 16 at the place i / 16
abbrev pub root_or_square_at : ℕ → ℕ
root_or_square_at i = pick (i / 128) (computed (2 * (7 - i / 16)) (high_root (i % 16))) (computed (8 * (15 - i / 16)) (high_square (i % 16)))

-- the table has each entry
pub record RootsAndSquares (t : List ℕ) : Type 0 where
  pub at : (i : ℕ) → i < 256 → get_or t i 0 ≡ root_or_square_at i

-- the xor of the entries for the n lowest nibbles of x, the lowest at place j
unfoldable pub nibbles : (ℕ → ℕ) → ℕ → ℕ → ℕ → ℕ
nibbles t j zero x = 0
nibbles t j (suc n) x = bit_xor (t (j * 16 + x % 16)) (nibbles t (suc j) n (x / 16))
