-- The checksum while it is worked out in words: a is xored into the next word, b, c and d into the three behind it.
use Rattle.std.specs.Prelude.{◌≡◌, List, ℕ, ◌-◌, ◌*◌, ◌≤◌, ◌<◌, length, drop}
use Rattle.std.specs.Int.Bits.{bit_xor}
use Rattle.crc32c.specs.declared.Lanes.{Lanes}
use Rattle.crc32c.specs.Crc.{crc_of, steps}

-- what b, c and d come to, n steps before the end
unfoldable pub lanes : ℕ → ℕ → ℕ → ℕ → ℕ
lanes n b c d = bit_xor (steps (n - 32) b) (bit_xor (steps (n - 64) c) (steps (n - 96) d))

-- the checksum of the bytes that are left, with the lanes
unfoldable pub whole : ℕ → ℕ → ℕ → ℕ → List ℕ → ℕ
whole a b c d bs = bit_xor (crc_of a bs) (lanes (8 * length bs) b c d)

-- where the words are not there, the lanes are empty
pub record Room (n b c d : ℕ) : Type 0 where
  pub first : n < 4 → b ≡ 0
  pub second : n < 8 → c ≡ 0
  pub third : n < 12 → d ≡ 0

-- the bytes from i on, with the lanes, have the checksum of all
pub record Left (start : ℕ) (bs : List ℕ) (a b c d i : ℕ) : Type 0 where
  pub within : i ≤ length bs
  pub room : Room (length bs - i) b c d
  pub same : whole a b c d (drop i bs) ≡ crc_of start bs

abbrev pub LeftBy : ℕ → List ℕ → Lanes → Type 0
LeftBy start bs l = Left start bs l.a l.b l.c l.d l.i
