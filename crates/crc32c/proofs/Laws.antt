-- Laws of the checksum that other crates cite.
use mathlib.Core.Path.{◌≡◌, refl}
use mathlib.Core.List.{List, [], ◌∷◌, ◌++◌}
use Prim.Native.Nat.{ℕ, suc, ◌^◌, ◌<◌}
use native.Mathlib.Omega.{arith}
use lib.Bits.{bit_xor, xor_lt}
use lib.ListN.{get_or}
use Rattle.crc_steps.proofs.Linear.{steps_lt}
use Rattle.crc32c.specs.Crc.{crc_byte, crc_of}

-- the checksum of an appended list goes on from that of the first
pub crc-append : (c : ℕ) (xs ys : List ℕ) → crc_of c (xs ++ ys) ≡ crc_of (crc_of c xs) ys
unfolding crc_of
crc-append c [] ys = refl
crc-append c (x ∷ xs) ys = crc-append (crc_byte c x) xs ys

-- the checksum of bytes from a 32-bit start value is a 32-bit number
pub crc_lt : (c : ℕ) (bs : List ℕ) → c < 2 ^ 32 → ((i : ℕ) → get_or bs i 0 < 256) → crc_of c bs < 2 ^ 32
unfolding crc_of
crc_lt c [] hc hb = hc
crc_lt c (b ∷ bs) hc hb =
    let b_lt : b < 256 = hb 0 in
    crc_lt (crc_byte c b) bs (steps_lt 8 (bit_xor c b) (xor_lt 32 c b hc (omega arith))) (λ i. hb (suc i))
