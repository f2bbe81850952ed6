-- Four lanes: what the loops of the checksum have done and have left.
use mathlib.Core.Path.{◌≡◌, refl, sym, ap, ap₂, subst, ◌∙◌}
use mathlib.Core.List.{List, [], ◌∷◌}
use Prim.Native.Nat.{ℕ, suc, ◌+◌, ◌-◌, ◌*◌, ◌/◌, ◌%◌, ◌^◌, ◌≤◌, ◌<◌}
use native.Mathlib.Nat.{add-zero}
use native.Mathlib.Omega.{arith}
use lib.Bits.{bit_xor, xor_comm, xor_shifted, xor_zero_l, xor_zero_r}
use lib.ListN.{length, take, drop, take-append-drop, length-drop}
use lib.Pow.{low, mod-pow-add, pow_pos, shl-shr}
use lib.Seq.{drop-drop, length-take-le, take_all}
use Rattle.buffer.specs.Le.{Bytes, le_of, number_at}
use Rattle.buffer.proofs.Parts.{rest, rest-is}
use Rattle.crc_steps.specs.Steps.{steps}
use Rattle.crc_steps.proofs.Linear.{at_zero, steps-add, steps-none, steps-shifted, steps-split, steps_xor}
use Rattle.bits.proofs.Xor.{xor_assoc, interchange}
use Rattle.crc32c.specs.Crc.{crc_byte, crc_of}
use Rattle.crc32c.specs.Lanes.{Left, lanes, whole}
use Rattle.crc32c.proofs.Laws.{crc-append}

-- ---- the checksum is linear

steps-zero : (n : ℕ) → steps n 0 ≡ 0
steps-zero n = at_zero (steps n) (steps_xor n)

crc_xor : (a b : ℕ) (bs : List ℕ) → crc_of (bit_xor a b) bs ≡ bit_xor (crc_of a bs) (steps (8 * length bs) b)
unfolding crc_of
crc_xor a b [] = ap (bit_xor a) (sym (steps-none b))
crc_xor a b (x ∷ bs) =
    let e : 8 * suc (length bs) ≡ 8 + 8 * length bs = omega arith in
    let right : bit_xor (bit_xor a b) x ≡ bit_xor (bit_xor a x) b = xor_assoc a b x ∙ ap (bit_xor a) (xor_comm b x) ∙ sym (xor_assoc a x b) in
    rw (right, steps_xor 8 (bit_xor a x) b, crc_xor (crc_byte a x) (steps 8 b) bs, e, steps-add 8 (8 * length bs) b)

-- the number of the bytes is xored in, and all its bits are shifted out
crc-number : (c : ℕ) (bs : List ℕ) → Bytes bs → steps (8 * length bs) (bit_xor c (le_of bs)) ≡ crc_of c bs
unfolding crc_of
crc-number c [] h = steps-none (bit_xor c 0) ∙ xor_zero_r c
crc-number c (b ∷ bs) h =
    let w : ℕ = le_of bs in
    let b_lt : b < 256 = h.at 0 in
    let e : 8 * suc (length bs) ≡ 8 + 8 * length bs = omega arith in
    rw (e, steps-add 8 (8 * length bs) (bit_xor c (w * 256 + b)), ← (xor_shifted w 8 b b_lt), xor_comm (w * 256) b, ← (xor_assoc c b (w * 256)), steps_xor 8 (bit_xor c b) (w * 256), steps-shifted 8 w)
    (crc-number (crc_byte c b) bs (record { at = λ i. h.at (suc i) }))

pub mixed_in : (c : ℕ) (g : List ℕ) → length g ≤ 4 → Bytes g → steps (8 * length g) (bit_xor c (number_at 4 0 g)) ≡ crc_of c g
unfolding number_at
mixed_in c g h bytes = ap (λ (l : List ℕ). steps (8 * length g) (bit_xor c (le_of l))) (take_all 4 g h) ∙ crc-number c g bytes

-- ---- fewer than four bytes

pub crc-none : (c : ℕ) (bs : List ℕ) → length bs ≡ 0 → c ≡ crc_of c bs
unfolding crc_of
crc-none c [] h = refl
crc-none c (b ∷ bs) h = absurd (omega arith)

shifted : (x s r : ℕ) → x * 2 ^ r % 2 ^ (s + r) ≡ x % 2 ^ s * 2 ^ r
shifted x s r =
    let none : x * 2 ^ r % 2 ^ r ≡ 0 = ap (λ (y : ℕ). y % 2 ^ r) (sym (add-zero (x * 2 ^ r))) ∙ low x r (pow_pos r) in
    mod-pow-add (x * 2 ^ r) s r
    ∙ ap₂ (λ (y z : ℕ). y % 2 ^ s * 2 ^ r + z) (shl-shr x r) none
    ∙ add-zero (x % 2 ^ s * 2 ^ r)

pub padded : (x s r : ℕ) → s + r ≡ 32 → bit_xor (steps 32 (x * 2 ^ r % 2 ^ 32)) (x / 2 ^ s) ≡ steps s x
padded x s r e =
    let k : r + s ≡ 32 = omega arith in
    rw (rw e at (shifted x s r), rw k at (steps-add r s (x % 2 ^ s * 2 ^ r)), steps-shifted r (x % 2 ^ s)) (sym (steps-split s x))

-- ---- four lanes

alone : (a : ℕ) (bs : List ℕ) → whole a 0 0 0 bs ≡ crc_of a bs
unfolding whole lanes
alone a bs = simp (steps-zero, xor_zero_r)

pub begins : (start : ℕ) (bs : List ℕ) → Left start bs start 0 0 0 0
begins start bs = record {
  within = omega arith;
  room = record { first = λ h. refl; second = λ h. refl; third = λ h. refl };
  same = alone start bs;
}

-- the bytes that the code lends for a word, and at the end
abbrev pub u32_at : ℕ → List ℕ → List ℕ
u32_at i bs = take (i + 4 - i) (drop i bs)

pub word-length : (i : ℕ) (bs : List ℕ) → i + 4 ≤ length bs → length (u32_at i bs) ≡ 4
word-length i bs h = length-take-le (i + 4 - i) (drop i bs) (omega (arith, length-drop i bs)) ∙ omega arith

pub rest-length : (i : ℕ) (bs : List ℕ) → length (rest bs i) ≡ length bs - i
rest-length i bs = ap length (rest-is bs i) ∙ length-drop i bs

-- a word, mixed in as m
module _ {start : ℕ} {bs : List ℕ} {a b c d i : ℕ} (m : ℕ) (l : Left start bs a b c d i) (word : i + 4 ≤ length bs)
    (mixed : steps (8 * length (u32_at i bs)) m ≡ crc_of a (u32_at i bs)) where
  abbrev r : List ℕ
  r = drop (i + 4) bs

  abbrev n : ℕ
  n = 8 * length r

  abbrev y : ℕ
  y = steps 32 m

  longer : 8 * length (drop i bs) ≡ 32 + n
  longer = omega (arith, length-drop i bs, length-drop (i + 4) bs)

  -- the checksum behind the word
  behind : crc_of a (drop i bs) ≡ crc_of y r
  behind =
      let e : i + 4 - i ≡ 4 = omega arith in
      ap (crc_of a) (sym (take-append-drop 4 (drop i bs)))
      ∙ crc-append a (take 4 (drop i bs)) (drop 4 (drop i bs))
      ∙ ap₂ crc_of
      (ap (λ (k : ℕ). crc_of a (take k (drop i bs))) (sym e) ∙ sym mixed ∙ ap (λ (k : ℕ). steps (8 * k) m) (word-length i bs word))
      (drop-drop 4 i bs)

  before : whole a b c d (drop i bs) ≡ bit_xor (crc_of y r) (bit_xor (steps n b) (bit_xor (steps (n - 32) c) (steps (n - 64) d)))
  unfolding whole lanes
  before =
      let e : 8 * length (drop i bs) - 32 ≡ n = omega (arith, longer) in
      let f : 8 * length (drop i bs) - 64 ≡ n - 32 = omega (arith, longer) in
      let g : 8 * length (drop i bs) - 96 ≡ n - 64 = omega (arith, longer) in
      rw (behind, e, f, g)

  near_same : whole (bit_xor y b) c d 0 r ≡ whole a b c d (drop i bs)
  unfolding whole lanes
  near_same =
      rw (crc_xor y b r, steps-zero (n - 96), xor_zero_r (steps (n - 64) d), xor_assoc (crc_of y r) (steps n b) (bit_xor (steps (n - 32) c) (steps (n - 64) d))) (sym before)

  from_zero : (x : ℕ) → crc_of x r ≡ bit_xor (crc_of 0 r) (steps n x)
  from_zero x = ap (λ (z : ℕ). crc_of z r) (sym (xor_zero_l x)) ∙ crc_xor 0 x r

  far-same : 96 ≤ n → whole b c d (steps 128 m) r ≡ whole a b c d (drop i bs)
  unfolding whole lanes
  far-same k =
      let B : ℕ = steps n b in
      let C : ℕ = steps (n - 32) c in
      let D : ℕ = steps (n - 64) d in
      let Y : ℕ = steps n y in
      let e : 128 + (n - 96) ≡ 32 + n = omega arith in
      let late : steps (n - 96) (steps 128 m) ≡ Y = sym (steps-add 128 (n - 96) m) ∙ ap (λ (j : ℕ). steps j m) e ∙ steps-add 32 n m in
      ap₂ bit_xor (from_zero b) (ap (λ (z : ℕ). bit_xor C (bit_xor D z)) late ∙ sym (xor_assoc C D Y) ∙ xor_comm (bit_xor C D) Y)
      ∙ interchange (crc_of 0 r) B Y (bit_xor C D)
      ∙ ap (λ (z : ℕ). bit_xor z (bit_xor B (bit_xor C D))) (sym (from_zero y))
      ∙ sym before

  -- 32 steps of it: into the next word
  pub near : {x : ℕ} → x ≡ steps 32 m → Left start bs (bit_xor x b) c d 0 (i + 4)
  near e = record {
    within = word;
    room = record { first = λ k. l.room.second (omega arith); second = λ k. l.room.third (omega arith); third = λ k. refl };
    same = ap (λ (z : ℕ). whole (bit_xor z b) c d 0 r) e ∙ near_same ∙ l.same;
  }

  -- 128 steps of it: into the word behind the next three
  pub far : {x : ℕ} → x ≡ steps 128 m → i + 20 ≤ length bs → Left start bs b c d x (i + 4)
  far e k = record {
    within = word;
    room = record { first = λ h. absurd (omega arith); second = λ h. absurd (omega arith); third = λ h. absurd (omega arith) };
    same = ap (λ (z : ℕ). whole b c d z r) e ∙ far-same (omega (arith, length-drop (i + 4) bs)) ∙ l.same;
  }

-- two words, mixed in as m and o
module _ {start : ℕ} {bs : List ℕ} {a b c d i : ℕ} (m o : ℕ) (l : Left start bs a b c d i) (words : i + 8 ≤ length bs)
    (first : steps (8 * length (u32_at i bs)) m ≡ crc_of a (u32_at i bs)) (second : steps (8 * length (u32_at (i + 4) bs)) o ≡ crc_of b (u32_at (i + 4) bs)) where
  pub pair : {x y : ℕ} → x ≡ steps 64 m → y ≡ steps 32 o → Left start bs (bit_xor x (bit_xor y c)) d 0 0 (i + 4 + 4)
  pair {x} {y} e f =
      let w : List ℕ = u32_at (i + 4) bs in
      let z : ℕ = steps 32 m in
      let one : Left start bs (bit_xor z b) c d 0 (i + 4) = near m l (omega arith) first refl in
      let both : steps (8 * length w) (bit_xor z o) ≡ crc_of (bit_xor z b) w =
      steps_xor (8 * length w) z o
      ∙ ap (bit_xor (steps (8 * length w) z)) second
      ∙ xor_comm (steps (8 * length w) z) (crc_of b w)
      ∙ sym (crc_xor b z w)
      ∙ ap (λ (q : ℕ). crc_of q w) (xor_comm b z) in
      let g : bit_xor x y ≡ steps 32 (bit_xor z o) = ap₂ bit_xor (e ∙ steps-add 32 32 m) f ∙ sym (steps_xor 32 z o) in
      subst (λ (q : ℕ). Left start bs q d 0 0 (i + 4 + 4)) (xor_assoc x y c)
      (near (bit_xor z o) one (omega arith) both g)

-- fewer than four bytes are left
pub ends : {start : ℕ} {bs : List ℕ} {a b c d i : ℕ} → Left start bs a b c d i → length bs - i < 4 → crc_of a (rest bs i) ≡ crc_of start bs
ends {start} {bs} {a} {b} {c} {d} {i} l h =
    rw (rest-is bs i, ← l.same, l.room.first h, l.room.second (omega arith), l.room.third (omega arith)) (sym (alone a (drop i bs)))
