-- GHASH block by block, and the block at the end of a text.
use mathlib.Core.List.{List, [], ◌∷◌, ◌++◌}
use mathlib.Core.Path.{◌≡◌, refl, ap, ap₂, ◌∙◌}
use Prim.Native.Nat.{ℕ, zero, suc, ◌+◌, ◌-◌, ◌*◌, ◌%◌, ◌^◌, ◌<◌, ◌≤◌}
use native.Mathlib.Numerals.{add-one}
use native.Mathlib.Omega.{arith}
use lib.Bits.{bit_xor}
use Rattle.buffer.specs.Splice.{overwrite}
use Rattle.std.specs.Int.{w128, from_be_bytes}
use Rattle.std.specs.Simd.{first_chunks}
use lib.ListN.{length, get_or, take, drop, replicate}
use lib.Seq.{get_or-drop, get_or-take, drop-drop}
use native.Mathlib.Nat.{not-suc-le-zero, le_of_suc-le-suc, zero-add, mul-zero, mul-suc}
use Rattle.ghash.specs.Ghash.{pair, product, quad_at, block_at, ghash_from}

-- a block, and the rest
pub ghash-next : (h : ℕ) (bs : List ℕ) (n i y : ℕ) → ghash_from h bs (n + 1) i y ≡ ghash_from h bs n (i + 16) (product (bit_xor y (block_at bs i)) h)
unfolding ghash_from
ghash-next h bs n i y = rw (add-one n)

-- ---- the same bytes make the same block

quad_same : (cs bs : List ℕ) (p i : ℕ) → get_or cs p 0 ≡ get_or bs i 0 → get_or cs (p + 1) 0 ≡ get_or bs (i + 1) 0
    → get_or cs (p + 2) 0 ≡ get_or bs (i + 2) 0 → get_or cs (p + 3) 0 ≡ get_or bs (i + 3) 0 → quad_at cs p ≡ quad_at bs i
unfolding quad_at
quad_same cs bs p i a b c d = ap₂ (λ (x y : ℕ). x * 256 + y) (ap₂ (λ (x y : ℕ). x * 256 + y) (ap₂ (λ (x y : ℕ). x * 256 + y) a b) c) d

same_block : (cs bs : List ℕ) (i : ℕ) → ((k : ℕ) → k < 16 → get_or cs k 0 ≡ get_or bs (i + k) 0) → block_at cs 0 ≡ block_at bs i
unfolding block_at
same_block cs bs i f =
    ap₂ pair
    (ap₂ (λ (x y : ℕ). x * 2 ^ 32 + y)
    (quad_same cs bs 0 i (g 0 i (omega arith) (omega arith)) (g 1 (i + 1) (omega arith) refl) (g 2 (i + 2) (omega arith) refl) (g 3 (i + 3) (omega arith) refl))
    (quad_same cs bs 4 (i + 4) (g 4 (i + 4) (omega arith) refl) (g 5 (i + 4 + 1) (omega arith) (omega arith)) (g 6 (i + 4 + 2) (omega arith) (omega arith)) (g 7 (i + 4 + 3) (omega arith) (omega arith))))
    (ap₂ (λ (x y : ℕ). x * 2 ^ 32 + y)
    (quad_same cs bs 8 (i + 8) (g 8 (i + 8) (omega arith) refl) (g 9 (i + 8 + 1) (omega arith) (omega arith)) (g 10 (i + 8 + 2) (omega arith) (omega arith)) (g 11 (i + 8 + 3) (omega arith) (omega arith)))
    (quad_same cs bs 12 (i + 12) (g 12 (i + 12) (omega arith) refl) (g 13 (i + 12 + 1) (omega arith) (omega arith)) (g 14 (i + 12 + 2) (omega arith) (omega arith)) (g 15 (i + 12 + 3) (omega arith) (omega arith))))
  where
    g : (k j : ℕ) → k < 16 → i + k ≡ j → get_or cs k 0 ≡ get_or bs j 0
    g k j h e = f k h ∙ ap (λ (n : ℕ). get_or bs n 0) e

-- ---- a block as code reads it

pub number_is : (bs : List ℕ) → from_be_bytes w128 bs ≡ block_at bs 0
unfolding block_at quad_at
number_is bs = omega arith

-- chunk j of a list
pub chunk_at : (n k j : ℕ) (xs : List ℕ) → j < k → get_or (first_chunks n k xs) j [] ≡ take n (drop (n * j) xs)
chunk_at n zero j xs h = absurd (not-suc-le-zero h)
chunk_at n (suc k) zero xs h = rw (mul-zero n)
chunk_at n (suc k) (suc j) xs h =
    let e : n + n * j ≡ n * suc j = omega (arith, mul-suc n j) in
    chunk_at n k j (drop n xs) (le_of_suc-le-suc h) ∙ ap (take n) (drop-drop (n * j) n xs ∙ ap (λ (i : ℕ). drop i xs) e)

pub block_is : (s : List ℕ) (i : ℕ) → block_at (take 16 (drop i s)) 0 ≡ block_at s i
block_is s i = same_block (take 16 (drop i s)) s i (λ k h. get_or-take 16 (drop i s) k 0 h ∙ get_or-drop i s k 0)

pub rest_is : (s : List ℕ) (i : ℕ) → block_at (drop i s) 0 ≡ block_at s i
rest_is s i = same_block (drop i s) s i (λ k h. get_or-drop i s k 0)

-- the blocks of s one by one: i of the n are done
pub next_block : (v : ℕ) (s : List ℕ) (bs : List (List ℕ)) (n i more y z : ℕ) → bs ≡ first_chunks 16 n s → i < n
    → z ≡ product (bit_xor y (from_be_bytes w128 (get_or bs i []))) v
    → ghash_from v s (n - i + more) (16 * i) y ≡ ghash_from v s (n - (i + 1) + more) (16 * (i + 1)) z
next_block v s bs n i more y z e h q =
    let a : n - i + more ≡ n - (i + 1) + more + 1 = omega arith in
    let b : 16 * i + 16 ≡ 16 * (i + 1) = omega arith in
    let x : from_be_bytes w128 (get_or bs i []) ≡ block_at s (16 * i) =
    number_is (get_or bs i []) ∙ ap (λ (l : List ℕ). block_at l 0) (ap (λ (t : List (List ℕ)). get_or t i []) e ∙ chunk_at 16 n i s h) ∙ block_is s (16 * i) in
    rw (a, ghash-next v s (n - (i + 1) + more) (16 * i) y, b, q, x)

pub no_more : (v : ℕ) (s : List ℕ) (n i k y : ℕ) → n ≤ i → ghash_from v s (n - i + 0) k y ≡ y
unfolding ghash_from
no_more v s n i k y h =
    let e : n - i + 0 ≡ 0 = omega arith in
    rw e

pub one_more : (v : ℕ) (s rest : List ℕ) (n i y z : ℕ) → i ≡ n → rest ≡ drop (n * 16) s → z ≡ product (bit_xor y (block_at rest 0)) v
    → ghash_from v s (n - i + 1) (16 * i) y ≡ z
unfolding ghash_from
one_more v s rest n i y z e r q =
    let a : n - i + 1 ≡ 1 = omega arith in
    let b : n * 16 ≡ 16 * i = omega arith in
    rw (a, q, r, b, rest_is s (16 * i))

-- ---- bytes laid over 16 zeros

zeros-at : (n j : ℕ) → get_or (replicate {A = ℕ} n 0) j 0 ≡ 0
zeros-at zero j = refl
zeros-at (suc n) zero = refl
zeros-at (suc n) (suc j) = zeros-at n j

-- zeros behind a list are what it has there without them
zeros-behind : (xs zs : List ℕ) → ((j : ℕ) → get_or zs j 0 ≡ 0) → (k : ℕ) → get_or (xs ++ zs) k 0 ≡ get_or xs k 0
zeros-behind [] zs z k = z k
zeros-behind (x ∷ xs) zs z zero = refl
zeros-behind (x ∷ xs) zs z (suc k) = zeros-behind xs zs z k

padded : (s : List ℕ) (k : ℕ) → k < 16 → get_or (overwrite s (replicate 16 0)) k 0 ≡ get_or s (0 + k) 0
unfolding overwrite
padded s k h =
    let n = length s in
    rw (get_or-take 16 (s ++ drop n (replicate 16 0)) k 0 h, zero-add)
    (zeros-behind s (drop n (replicate 16 0)) (λ j. get_or-drop n (replicate 16 0) j 0 ∙ zeros-at 16 (n + j)) k)

pub last_is : (s : List ℕ) → block_at (overwrite s (replicate 16 0)) 0 ≡ block_at s 0
last_is s = same_block (overwrite s (replicate 16 0)) s 0 (padded s)

-- ---- the length in bits
pub bits_of : (n : ℕ) → n % 2305843009213693952 * 8 ≡ pair 0 (n * 8 % 2 ^ 64)
bits_of n = omega arith
