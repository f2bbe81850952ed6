-- Checksum fields: 32-bit numbers, and those of an epilogue, from its bytes.
use mathlib.Core.Path.{◌≡◌, refl}
use mathlib.Core.List.{List, [], ◌∷◌}
use Prim.Native.Nat.{ℕ, zero, suc, ◌+◌, ◌*◌, ◌^◌, ◌<◌}
use native.Mathlib.Omega.{arith}
use lib.Dec.{lit<, leb}
use lib.ListN.{get_or}
use Rattle.buffer.specs.Le.{number_at, Bytes, words}
use Rattle.buffer.proofs.Numbers.{le_of-le}
use Rattle.crc32c.proofs.Laws.{crc_lt}
use Rattle.refusal.proofs.Booleans.{at_cond}
use Rattle.banner.specs.declared.Revision.TheVariants.{Msgr20, Msgr21}
use Rattle.body.specs.Body.{segment_sum, field}
use Rattle.body.specs.End.{stored}

pub sum_lt : {l : List ℕ} → Bytes l → segment_sum l < 2 ^ 32
sum_lt {l} h = crc_lt 0xFFFFFFFF l (lit< tt) h.at

pub field_lt : (count k : ℕ) {l : List ℕ} → Bytes l → field count k l < 2 ^ 32
field_lt count k h = at_cond (λ (x : ℕ). x < 2 ^ 32) (leb k count) (sum_lt h) (lit< tt)

-- ---- an epilogue's fields

pub stored20 : (late a b c d : ℕ) → a < 2 ^ 32 → b < 2 ^ 32 → c < 2 ^ 32 → d < 2 ^ 32 → stored Msgr20 (late ∷ words (a ∷ b ∷ c ∷ d ∷ [])) ≡ a ∷ b ∷ c ∷ d ∷ []
unfolding number_at
stored20 late a b c d la lb lc ld = rw (le_of-le 4 a la, le_of-le 4 b lb, le_of-le 4 c lc, le_of-le 4 d ld)

pub stored21 : (late b c d : ℕ) → b < 2 ^ 32 → c < 2 ^ 32 → d < 2 ^ 32 → stored Msgr21 (late ∷ words (b ∷ c ∷ d ∷ [])) ≡ b ∷ c ∷ d ∷ []
unfolding number_at
stored21 late b c d lb lc ld = rw (le_of-le 4 b lb, le_of-le 4 c lc, le_of-le 4 d ld)

pub at20 : (e : List ℕ) (k : ℕ) → k < 4 → get_or (stored Msgr20 e) k 0 ≡ number_at 4 (1 + k * 4) e
at20 e zero l = refl
at20 e (suc zero) l = refl
at20 e (suc (suc zero)) l = refl
at20 e (suc (suc (suc zero))) l = refl
at20 e (suc (suc (suc (suc k)))) l = absurd (omega arith)

pub at21 : (e : List ℕ) (k : ℕ) → k < 3 → get_or (stored Msgr21 e) k 0 ≡ number_at 4 (1 + k * 4) e
at21 e zero l = refl
at21 e (suc zero) l = refl
at21 e (suc (suc zero)) l = refl
at21 e (suc (suc (suc k))) l = absurd (omega arith)
