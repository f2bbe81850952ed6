-- GHASH in a form that antt computes fast: the bits of a block stand sixteen places apart, so that one product of numbers counts, place by place, what the product of blocks adds up modulo 2.
use mathlib.Core.List.{List}
use mathlib.Core.Path.{◌≡◌, refl, sym, ap, ap₂, subst, subst₂, fun_ext, ◌∙◌}
use Prim.Native.Nat.{ℕ, zero, suc, ◌+◌, ◌*◌, ◌/◌, ◌%◌, ◌^◌, ◌≤◌, ◌<◌}
use native.Mathlib.Nat.{zero-mul, one-mul}
use native.Mathlib.Numerals.{add-one}
use native.Mathlib.Omega.{arith}
use lib.Arith.{lt-one}
use lib.Bits.{bit_xor, differ, xor_step, xor_zero_r, xor_shr}
use lib.Dec.{lit<}
use lib.ListN.{length}
use lib.Pow.{shr_lt, shr-shr}
use Rattle.bits.proofs.Xor.{digit}
use Rattle.ghash.specs.Ghash.{pair, reduction, step, mul_from, product, block_at, ghash_from, ghash}
use Rattle.ghash.specs.Tables.{steps}
use Rattle.ghash.proofs.Linear.{steps_xor, steps-zero}

-- ---- bits apart, and back

abbrev spaced : ℕ → ℕ → ℕ
spaced zero x = 0
spaced (suc n) x = spaced n (x / 2) * 65536 + x % 2

abbrev parities : ℕ → ℕ → ℕ
parities zero y = 0
parities (suc n) y = parities n (y / 65536) * 2 + y % 2

-- y counts up to m in each of k places, and its parities are v
abbrev Counts : ℕ → ℕ → ℕ → ℕ → Type 0
Counts m zero y v = (y ≡ 0) × (v ≡ 0)
Counts m (suc k) y v = (y % 65536 ≤ m) × (v % 2 ≡ y % 2) × Counts m k (y / 65536) (v / 2)

read : (m k y v : ℕ) → Counts m k y v → parities k y ≡ v
read m zero y v c = sym c.1
read m (suc k) y v c =
    let e : parities k (y / 65536) ≡ v / 2 = read m k (y / 65536) (v / 2) c.2 in
    let q : v % 2 ≡ y % 2 = c.1 in
    ap (λ (p : ℕ). p * 2 + y % 2) e ∙ omega arith

zeros : (m k : ℕ) → Counts m k 0 0
zeros m zero = (refl, refl)
zeros m (suc k) = (omega arith, refl, zeros m k)

-- a digit of a xor, from those of a sum
odd : (v u y z : ℕ) → v % 2 ≡ y % 2 → u % 2 ≡ z % 2 → bit_xor v u % 2 ≡ (y + z) % 2
odd v u y z p q =
    let e : differ (y % 2) (z % 2) ≡ (y % 2 + z % 2) % 2 =
    digit (λ (a : ℕ). differ a (z % 2) ≡ (a + z % 2) % 2)
    (digit (λ (b : ℕ). b ≡ (0 + b) % 2) refl refl z)
    (digit (λ (b : ℕ). differ 1 b ≡ (1 + b) % 2) refl refl z)
    y in
    ap (λ (x : ℕ). x % 2) (xor_step v u ∙ ap₂ (λ (a b : ℕ). bit_xor (v / 2) (u / 2) * 2 + differ a b) p q) ∙ omega arith

sum : (m n k y z v u : ℕ) → m + n < 65536 → Counts m k y v → Counts n k z u → Counts (m + n) k (y + z) (bit_xor v u)
sum m n zero y z v u h c d = (ap₂ ◌+◌ c.0 d.0, ap₂ bit_xor c.1 d.1)
sum m n (suc k) y z v u h c d =
    let p : y % 65536 ≤ m = c.0 in
    let q : z % 65536 ≤ n = d.0 in
    let e : y / 65536 + z / 65536 ≡ (y + z) / 65536 = omega arith in (
      omega arith,
      odd v u y z c.1 d.1,
      subst₂ (λ (a b : ℕ). Counts (m + n) k a b) e (sym (xor_shr v u 1))
          (sum m n k (y / 65536) (z / 65536) (v / 2) (u / 2) h c.2 d.2),
    )

shift : (m k y v : ℕ) → Counts m k y v → Counts m (suc k) (y * 65536) (v * 2)
shift m k y v c =
    let e : y ≡ y * 65536 / 65536 = omega arith in
    let q : v ≡ v * 2 / 2 = omega arith in
    (omega arith, omega arith, subst₂ (λ (a b : ℕ). Counts m k a b) e q c)

counts : (n k x : ℕ) → n ≤ k → x < 2 ^ n → Counts 1 k (spaced n x) x
counts zero k x l h = subst (λ (v : ℕ). Counts 1 k 0 v) (sym (lt-one h)) (zeros 1 k)
counts (suc n) zero x l h = absurd (omega arith)
counts (suc n) (suc k) x l h =
    let e : spaced n (x / 2) ≡ (spaced n (x / 2) * 65536 + x % 2) / 65536 = omega arith in (
      omega arith,
      omega arith,
      subst (λ (a : ℕ). Counts 1 k a (x / 2)) e
          (counts n k (x / 2) (omega arith) (shr_lt n 1 (subst (λ (i : ℕ). x < 2 ^ i) (sym (add-one n)) h))),
    )

-- the product of v and n bits of x, not reduced
abbrev wide : ℕ → ℕ → ℕ → ℕ
wide zero x v = 0
wide (suc n) x v = bit_xor (wide n (x / 2) v * 2) (x % 2 * v)

apart : (s d t : ℕ) → s * t * 65536 + d * t ≡ (s * 65536 + d) * t
apart s d t = omega arith

-- t has the bits of v apart
module _ (t v : ℕ) (c : (k : ℕ) → 128 ≤ k → Counts 1 k t v) where
  bit : (k x : ℕ) → 128 ≤ k → Counts 1 k (x % 2 * t) (x % 2 * v)
  bit k x l =
      digit (λ (d : ℕ). Counts 1 k (d * t) (d * v))
      (subst₂ (λ (y u : ℕ). Counts 1 k y u) (sym (zero-mul t)) (sym (zero-mul v)) (zeros 1 k))
      (subst₂ (λ (y u : ℕ). Counts 1 k y u) (sym (one-mul t)) (sym (one-mul v)) (c k l))
      x

  counted : (n k x : ℕ) → n + 128 ≤ k → n ≤ 128 → Counts n k (spaced n x * t) (wide n x v)
  counted zero k x l b = subst (λ (y : ℕ). Counts 0 k y 0) (sym (zero-mul t)) (zeros 0 k)
  counted (suc n) zero x l b = absurd (omega arith)
  counted (suc n) (suc k) x l b =
      subst₂ (λ (m y : ℕ). Counts m (suc k) y (wide (suc n) x v)) (add-one n) (apart (spaced n (x / 2)) (x % 2) t)
      (sum n 1 (suc k) (spaced n (x / 2) * t * 65536) (x % 2 * t) (wide n (x / 2) v * 2) (x % 2 * v) (omega arith)
      (shift n k (spaced n (x / 2) * t) (wide n (x / 2) v) (counted n k (x / 2) (omega arith) (omega arith)))
      (bit (suc k) x (omega arith)))

-- ---- the wide product, reduced

lowest-bit : (n x z v : ℕ) → mul_from (suc n) x z v ≡ bit_xor (mul_from n (x / 2) z v) (x % 2 * steps n v)
unfolding mul_from steps
lowest-bit zero x z v = ap (λ (y : ℕ). bit_xor z (y % 2 * v)) (omega arith)
lowest-bit (suc n) x z v =
    lowest-bit n x (bit_xor z (x / 2 ^ suc n % 2 * v)) (step v)
    ∙ ap (λ (y : ℕ). bit_xor (mul_from n (x / 2) (bit_xor z (y % 2 * v)) (step v)) (x % 2 * steps n (step v)))
    (ap (λ (i : ℕ). x / 2 ^ i) (omega arith) ∙ sym (shr-shr x 1 n))

double : (v : ℕ) → step (v * 2) ≡ v
unfolding step
double v =
    let p : v * 2 / 2 ≡ v = omega arith in
    let q : v * 2 % 2 ≡ 0 = omega arith in
    ap₂ (λ (x y : ℕ). bit_xor x (y * reduction)) p q ∙ xor_zero_r v

picked : (n x v : ℕ) → x % 2 * steps n v ≡ steps n (x % 2 * v)
picked n x v =
    digit (λ (d : ℕ). d * steps n v ≡ steps n (d * v))
    (zero-mul (steps n v) ∙ sym (ap (steps n) (zero-mul v) ∙ steps-zero n))
    (one-mul (steps n v) ∙ sym (ap (steps n) (one-mul v)))
    x

reduced : (n x v : ℕ) → mul_from n x 0 v ≡ steps n (wide n x v * 2)
unfolding mul_from steps
reduced zero x v = refl
reduced (suc n) x v =
    lowest-bit n x 0 v
    ∙ ap₂ bit_xor (reduced n (x / 2) v) (picked n x v)
    ∙ sym (steps_xor n (wide n (x / 2) v * 2) (x % 2 * v))
    ∙ ap (steps n) (sym (double (wide (suc n) x v)))

-- ---- steps on bits apart: q are those of R

wider : (m k y v : ℕ) → Counts m k y v → Counts m (suc k) y v
wider m zero y v c = subst₂ (λ (a b : ℕ). Counts m 1 a b) (sym c.0) (sym c.1) (zeros m 1)
wider m (suc k) y v c = (c.0, c.1, wider m k (y / 65536) (v / 2) c.2)

abbrev run : ℕ → ℕ → ℕ → ℕ
run q zero y = y
run q (suc n) y = run q n (y / 65536 + y % 2 * q)

module _ (q k : ℕ) (l : 127 ≤ k) (c : (j : ℕ) → 128 ≤ j → Counts 1 j q reduction) where
  runs : (n m y v : ℕ) → m + n < 65536 → Counts m (suc k) y v → Counts (m + n) (suc k) (run q n y) (steps n v)
  unfolding steps step
  runs zero m y v h d = subst (λ (i : ℕ). Counts i (suc k) y v) (omega arith) d
  runs (suc n) m y v h d =
      let e : m + 1 + n ≡ m + suc n = omega arith in
      subst (λ (i : ℕ). Counts i (suc k) (run q (suc n) y) (steps (suc n) v)) e
      (runs n (m + 1) (y / 65536 + y % 2 * q) (step v) (omega arith)
      (sum m 1 (suc k) (y / 65536) (y % 2 * q) (v / 2) (v % 2 * reduction) (omega arith)
      (wider m k (y / 65536) (v / 2) d.2)
      (subst (λ (i : ℕ). Counts 1 (suc k) (y % 2 * q) (i * reduction)) (sym d.1) (bit q reduction c (suc k) y (omega arith)))))

-- ---- the product, and GHASH by any product

abbrev times : ℕ → ℕ → ℕ
times x v = parities 257 (run (spaced 128 reduction) 128 (spaced 128 x * spaced 128 v * 65536))

times-is : (x v : ℕ) → v < 2 ^ 128 → product x v ≡ times x v
times-is x v h =
    reduced 128 x v
    ∙ sym
    (read 256 257 (run (spaced 128 reduction) 128 (spaced 128 x * spaced 128 v * 65536)) (steps 128 (wide 128 x v * 2))
    (runs (spaced 128 reduction) 256 (omega arith) (λ j l. counts 128 j reduction l (lit< tt)) 128 128 (spaced 128 x * spaced 128 v * 65536) (wide 128 x v * 2) (omega arith)
    (shift 128 256 (spaced 128 x * spaced 128 v) (wide 128 x v)
    (counted (spaced 128 v) v (λ k l. counts 128 k v l h) 128 256 x (omega arith) (omega arith)))))

module _ (f : ℕ → ℕ) where
  abbrev pub blocks_by : List ℕ → ℕ → ℕ → ℕ → ℕ
  blocks_by bs zero i y = y
  blocks_by bs (suc n) i y = blocks_by bs n (i + 16) (f (bit_xor y (block_at bs i)))

  abbrev pub hash_by : List ℕ → ℕ
  hash_by c = f (bit_xor (blocks_by c ((length c + 15) / 16) 0 0) (pair 0 (length c * 8 % 2 ^ 64)))

blocks_by_lem : (h : ℕ) (bs : List ℕ) (n i y : ℕ) → ghash_from h bs n i y ≡ blocks_by (λ x. product x h) bs n i y
unfolding ghash_from
blocks_by_lem h bs zero i y = refl
blocks_by_lem h bs (suc n) i y = blocks_by_lem h bs n (i + 16) (product (bit_xor y (block_at bs i)) h)

-- by the hash key h
abbrev pub hash : ℕ → List ℕ → ℕ
hash h = hash_by (λ x. times x h)

pub hash-is : (h : ℕ) (c : List ℕ) → h < 2 ^ 128 → ghash h c ≡ hash h c
unfolding ghash
hash-is h c l =
    ap (λ (y : ℕ). product (bit_xor y (pair 0 (length c * 8 % 2 ^ 64))) h) (blocks_by_lem h c ((length c + 15) / 16) 0 0)
    ∙ ap (λ (f : ℕ → ℕ). hash_by f c) (fun_ext (λ x. times-is x h l))
