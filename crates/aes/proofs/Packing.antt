-- A column as one number: its bytes, and what xor, doubling and rotation make of them.
use mathlib.Core.List.{[], ◌∷◌}
use mathlib.Core.Path.{◌≡◌, ap, ap₂, ◌∙◌}
use Prim.Native.Nat.{ℕ, ◌+◌, ◌*◌, ◌/◌, ◌%◌, ◌^◌, ◌<◌}
use native.Mathlib.Nat.{zero-mul, one-mul, mod-eq_of_lt}
use native.Mathlib.Omega.{arith}
use lib.Bits.{bit_xor, bit_and, bit_or, xor_block, and_block, and_mask, xor_lt, xor_zero_l, xor_zero_r, xor_comm}
use lib.ListN.{get_or}
use Rattle.std.specs.Int.{w32, rotate_right, to_le_bytes, from_le_bytes}
use Rattle.std.proofs.lemmas.Nat.{or_comm, or_shifted}
use lib.Pow.{high}
use Rattle.buffer.specs.Le.{le}
use Rattle.sbox.specs.Sbox.{xtime, mul, mul_bits}
use Rattle.aes.specs.Aes.{Column, mixed, mix_column, add_column}
use Rattle.aes.specs.Packed.{word, Packed, doubled, turned1, turned2, turned3, mixed_word}

-- ---- products by 2 and 3

mul-two : (b : ℕ) → mul 2 b ≡ xtime b
unfolding mul_bits
mul-two b = simp (zero-mul, one-mul, xor_zero_l, xor_zero_r)

mul-three : (b : ℕ) → mul 3 b ≡ bit_xor (xtime b) b
unfolding mul_bits
mul-three b = simp (zero-mul, one-mul, xor_zero_l, xor_zero_r) (xor_comm b (xtime b))

xtime_byte : (b : ℕ) → b < 256 → xtime b < 256
unfolding xtime
xtime_byte b h = xor_lt 8 (b * 2 % 256) (b / 128 * 27) (omega arith) (omega arith)

-- ---- bytes of a number

le-word : {a b c d : ℕ} → a < 256 → b < 256 → c < 256 → d < 256 → le 4 (word a b c d) ≡ a ∷ b ∷ c ∷ d ∷ []
le-word {a} {b} {c} {d} ha hb hc hd =
    let p : word a b c d % 256 ≡ a = omega arith in
    let e : word a b c d / 256 ≡ (d * 256 + c) * 256 + b = omega arith in
    let q : ((d * 256 + c) * 256 + b) % 256 ≡ b = omega arith in
    let f : ((d * 256 + c) * 256 + b) / 256 ≡ d * 256 + c = omega arith in
    let r : (d * 256 + c) % 256 ≡ c = omega arith in
    rw (p, e, q, f, r, high d 8 hc, mod-eq_of_lt hd)

-- xor goes byte by byte, and so does a mask
xor_words : {a b c a' b' c' : ℕ} (d d' : ℕ) → a < 256 → b < 256 → c < 256 → a' < 256 → b' < 256 → c' < 256
    → bit_xor (word a b c d) (word a' b' c' d') ≡ word (bit_xor a a') (bit_xor b b') (bit_xor c c') (bit_xor d d')
xor_words {a} {b} {c} {a'} {b'} {c'} d d' ha hb hc ha' hb' hc' =
    rw (xor_block 8 ((d * 256 + c) * 256 + b) ((d' * 256 + c') * 256 + b') a a' ha ha', xor_block 8 (d * 256 + c) (d' * 256 + c') b b' hb hb', xor_block 8 d d' c c' hc hc')

and_words : (a b c d m : ℕ) → a < 256 → b < 256 → c < 256 → m < 256 → bit_and (word a b c d) (word m m m m) ≡ word (bit_and a m) (bit_and b m) (bit_and c m) (bit_and d m)
and_words a b c d m ha hb hc hm =
    rw (and_block 8 ((d * 256 + c) * 256 + b) ((m * 256 + m) * 256 + m) a m ha hm, and_block 8 (d * 256 + c) (m * 256 + m) b m hb hm, and_block 8 d m c m hc hm)

-- ---- doubling

low_bits : (a b c d : ℕ) → a < 256 → b < 256 → c < 256 → d < 256
    → bit_and (word a b c d) 0x7f7f7f7f * 2 ≡ word (a * 2 % 256) (b * 2 % 256) (c * 2 % 256) (d * 2 % 256)
low_bits a b c d ha hb hc hd =
    let p : a * 2 % 256 ≡ a % 128 * 2 = omega arith in
    let q : b * 2 % 256 ≡ b % 128 * 2 = omega arith in
    let r : c * 2 % 256 ≡ c % 128 * 2 = omega arith in
    let s : d * 2 % 256 ≡ d % 128 * 2 = omega arith in
    rw (and_words a b c d 127 ha hb hc (omega arith), and_mask a 7, and_mask b 7, and_mask c 7, and_mask d 7, p, q, r, s) (omega arith)

high_bits : (a b c d : ℕ) → a < 256 → b < 256 → c < 256 → d < 256
    → bit_and (word a b c d / 128) 0x01010101 * 27 ≡ word (a / 128 * 27) (b / 128 * 27) (c / 128 * 27) (d / 128 * 27)
high_bits a b c d ha hb hc hd =
    let bit : (u v : ℕ) → u < 256 → (u / 128 + v % 128 * 2) % 2 ≡ u / 128 = λ u v h. omega arith in
    let fits : (u v : ℕ) → u < 256 → u / 128 + v % 128 * 2 < 256 = λ u v h. omega arith in
    let times : (x y z u : ℕ) → word x y z u * 27 ≡ word (x * 27) (y * 27) (z * 27) (u * 27) = λ x y z u. omega arith in
    let top : d / 128 % 2 ≡ d / 128 = omega arith in
    let shifted : word a b c d / 128 ≡ word (a / 128 + b % 128 * 2) (b / 128 + c % 128 * 2) (c / 128 + d % 128 * 2) (d / 128) = omega arith in
    rw (shifted, and_words _ _ _ (d / 128) 1 (fits a b ha) (fits b c hb) (fits c d hc) (omega arith), and_mask (a / 128 + b % 128 * 2) 1, and_mask (b / 128 + c % 128 * 2) 1, and_mask (c / 128 + d % 128 * 2) 1, and_mask (d / 128) 1, bit a b ha, bit b c hb, bit c d hc, top)
    (times (a / 128) (b / 128) (c / 128) (d / 128))

doubled-is : (a b c d : ℕ) → a < 256 → b < 256 → c < 256 → d < 256 → doubled (word a b c d) ≡ word (xtime a) (xtime b) (xtime c) (xtime d)
unfolding xtime
doubled-is a b c d ha hb hc hd =
    let low : (x : ℕ) → x * 2 % 256 < 256 = λ x. omega arith in
    let up : (x : ℕ) → x < 256 → x / 128 * 27 < 256 = λ x h. omega arith in
    ap₂ bit_xor (low_bits a b c d ha hb hc hd) (high_bits a b c d ha hb hc hd)
    ∙ xor_words (d * 2 % 256) (d / 128 * 27) (low a) (low b) (low c) (up a ha) (up b hb) (up c hc)

-- ---- rotation

turned1-is : {a b c d : ℕ} → a < 256 → b < 256 → c < 256 → d < 256 → turned1 (word a b c d) ≡ word b c d a
turned1-is ha hb hc hd = omega arith

turned2-is : {a b c d : ℕ} → a < 256 → b < 256 → c < 256 → d < 256 → turned2 (word a b c d) ≡ word c d a b
turned2-is ha hb hc hd = omega arith

turned3-is : {a b c d : ℕ} → a < 256 → b < 256 → c < 256 → d < 256 → turned3 (word a b c d) ≡ word d a b c
turned3-is ha hb hc hd = omega arith

-- by the machine's rotations, whose halves share no bit
rotated1 : (n : ℕ) → n < 2 ^ 32 → rotate_right w32 n 8 ≡ turned1 n
rotated1 n h =
    let e : n * 16777216 % 4294967296 ≡ n % 256 * 16777216 = omega arith in
    or_comm (n / 256) (n * 16777216 % 4294967296) ∙ ap (λ (x : ℕ). bit_or x (n / 256)) e ∙ or_shifted (n % 256) 24 (n / 256) (omega arith)

rotated2 : (n : ℕ) → n < 2 ^ 32 → rotate_right w32 n 16 ≡ turned2 n
rotated2 n h =
    let e : n * 65536 % 4294967296 ≡ n % 65536 * 65536 = omega arith in
    or_comm (n / 65536) (n * 65536 % 4294967296) ∙ ap (λ (x : ℕ). bit_or x (n / 65536)) e ∙ or_shifted (n % 65536) 16 (n / 65536) (omega arith)

rotated3 : (n : ℕ) → n < 2 ^ 32 → rotate_right w32 n 24 ≡ turned3 n
rotated3 n h =
    let e : n * 256 % 4294967296 ≡ n % 16777216 * 256 = omega arith in
    or_comm (n / 16777216) (n * 256 % 4294967296) ∙ ap (λ (x : ℕ). bit_or x (n / 16777216)) e ∙ or_shifted (n % 16777216) 8 (n / 16777216) (omega arith)

pub mixed_by_rotations : (w d : ℕ) → w < 2 ^ 32 → d < 2 ^ 32 → d ≡ doubled w
    → bit_xor (bit_xor (bit_xor d (rotate_right w32 (bit_xor d w) 8)) (rotate_right w32 w 16)) (rotate_right w32 w 24) ≡ mixed_word w
mixed_by_rotations w d h k e = rw (rotated1 (bit_xor d w) (xor_lt 32 d w k h), rotated2 w h, rotated3 w h, e)

-- ---- a column mixed

xor_byte : {x y : ℕ} → x < 256 → y < 256 → bit_xor x y < 256
xor_byte {x} {y} = xor_lt 8 x y

-- a byte three times, and twice another with it
three_byte : {x : ℕ} → x < 256 → bit_xor (xtime x) x < 256
three_byte {x} h = xor_byte (xtime_byte x h) h

five_byte : {x y : ℕ} → x < 256 → y < 256 → bit_xor (xtime x) (bit_xor (xtime y) y) < 256
five_byte {x} h k = xor_byte (xtime_byte x h) (three_byte k)

row_is : (a b c d : ℕ) → bit_xor (bit_xor (bit_xor (xtime a) (bit_xor (xtime b) b)) c) d ≡ mixed a b c d
unfolding mixed
row_is a b c d = rw (mul-two a, mul-three b)

mixed_byte : {a b c d : ℕ} → a < 256 → b < 256 → c < 256 → d < 256 → mixed a b c d < 256
mixed_byte {a} {b} {c} {d} ha hb hc hd = rw (← row_is a b c d) (xor_byte (xor_byte (five_byte ha hb) hc) hd)

mixed-is : {a b c d : ℕ} → a < 256 → b < 256 → c < 256 → d < 256 → mixed_word (word a b c d) ≡ word (mixed a b c d) (mixed b c d a) (mixed c d a b) (mixed d a b c)
mixed-is {a} {b} {c} {d} ha hb hc hd =
    let s : ℕ = bit_xor (xtime d) (bit_xor (xtime a) a) in
    rw (
      doubled-is a b c d ha hb hc hd,
      xor_words (xtime d) d (xtime_byte a ha) (xtime_byte b hb) (xtime_byte c hc) ha hb hc,
      turned1-is (three_byte ha) (three_byte hb) (three_byte hc) (three_byte hd),
      turned2-is ha hb hc hd,
      turned3-is ha hb hc hd,
      xor_words (xtime d) (bit_xor (xtime a) a) (xtime_byte a ha) (xtime_byte b hb) (xtime_byte c hc) (three_byte hb) (three_byte hc) (three_byte hd),
      xor_words s b (five_byte ha hb) (five_byte hb hc) (five_byte hc hd) hc hd ha,
      xor_words (bit_xor s b) c (xor_byte (five_byte ha hb) hc) (xor_byte (five_byte hb hc) hd) (xor_byte (five_byte hc hd) ha) hd ha hb,
      row_is a b c d,
      row_is b c d a,
      row_is c d a b,
      row_is d a b c,
    )

-- ---- the two steps that work on packed columns

-- as code reads a column and writes it
pub packed : (c : Column) → ((i : ℕ) → get_or c i 0 < 256) → Packed (get_or c 0 0) (get_or c 1 0) (get_or c 2 0) (get_or c 3 0) (from_le_bytes w32 c)
packed c h = record { is = omega arith; a_byte = h 0; b_byte = h 1; c_byte = h 2; d_byte = h 3 }

pub written : (n : ℕ) → to_le_bytes w32 n ≡ le 4 n
written n =
    let b : n / 65536 % 256 ≡ n / 256 / 256 % 256 = omega arith in
    let c : n / 16777216 % 256 ≡ n / 256 / 256 / 256 % 256 = omega arith in
    rw (b, c)

pub mix_packed : (c : Column) (w : ℕ) → Packed (get_or c 0 0) (get_or c 1 0) (get_or c 2 0) (get_or c 3 0) w → le 4 (mixed_word w) ≡ mix_column c
unfolding mix_column
mix_packed c w p =
    let ha = p.a_byte in
    let hb = p.b_byte in
    let hc = p.c_byte in
    let hd = p.d_byte in
    ap (λ (x : ℕ). le 4 (mixed_word x)) p.is ∙ ap (le 4) (mixed-is ha hb hc hd) ∙ le-word (mixed_byte ha hb hc hd) (mixed_byte hb hc hd ha) (mixed_byte hc hd ha hb) (mixed_byte hd ha hb hc)

pub add_packed : (a b : Column) (v w : ℕ) → Packed (get_or a 0 0) (get_or a 1 0) (get_or a 2 0) (get_or a 3 0) v
    → Packed (get_or b 0 0) (get_or b 1 0) (get_or b 2 0) (get_or b 3 0) w → le 4 (bit_xor v w) ≡ add_column a b
unfolding add_column
add_packed a b v w p q =
    ap₂ (λ (x y : ℕ). le 4 (bit_xor x y)) p.is q.is
    ∙ ap (le 4) (xor_words (get_or a 3 0) (get_or b 3 0) p.a_byte p.b_byte p.c_byte q.a_byte q.b_byte q.c_byte)
    ∙ le-word (xor_byte p.a_byte q.a_byte) (xor_byte p.b_byte q.b_byte) (xor_byte p.c_byte q.c_byte) (xor_byte p.d_byte q.d_byte)
