-- Bits of a number, lowest first: those that are missing, the lowest one, how many (01, refusals 3 and 4).
use Rattle.std.specs.Prelude.{cond, ℕ, zero, suc, ◌+◌, ◌*◌, ◌/◌, ◌%◌, ◌-◌, min, eqb}

-- how many of n's k lowest bits are set
unfoldable pub bit_count : ℕ → ℕ → ℕ
bit_count zero n = 0
bit_count (suc k) n = n % 2 + bit_count k (n / 2)

-- the number of the lowest set bit among n's k lowest, and k where none is set
unfoldable pub lowest_bit : ℕ → ℕ → ℕ
lowest_bit zero n = 0
lowest_bit (suc k) n = cond (eqb (n % 2) 1) 0 (suc (lowest_bit k (n / 2)))

-- the bits of r that s has not, among the k lowest
unfoldable pub missing : ℕ → ℕ → ℕ → ℕ
missing zero r s = 0
missing (suc k) r s = missing k (r / 2) (s / 2) * 2 + min (r % 2) (1 - s % 2)
