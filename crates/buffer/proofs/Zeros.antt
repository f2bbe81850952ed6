-- Lists of zeros, and zeros behind so many bytes of a list, told from the numbers that its bytes make.
use mathlib.Core.Path.{◌≡◌, refl, sym, ap, ap₂, ◌∙◌}
use mathlib.Core.List.{List, [], ◌∷◌, ◌++◌}
use mathlib.Core.Bool.{Bool, true, false, ◌&&◌, ◌||◌, and_assoc, and-true}
use Prim.Native.Nat.{ℕ, zero, suc, ◌+◌, ◌-◌, ◌*◌, ◌^◌, ◌≤◌, ◌<◌}
use native.Mathlib.Nat.{pow-suc}
use native.Mathlib.Omega.{arith}
use borrow.Author.Tests.{eqb-true, eq-eqb, ne_eqb, ltb-true, lt-ltb}
use lib.Dec.{leb, ltb, eqb, leb-zero, leb-suc-zero, leb-suc-suc}
use lib.ListN.{length, take, drop, get_or, replicate, length-drop, drop_of_length-le}
use lib.Seq.{drop-nil, drop-drop, length-take-le}
use Rattle.buffer.specs.Le.{le_of, number_at, Bytes}
use Rattle.buffer.specs.Zeros.{all_zero}
use Rattle.buffer.proofs.Numbers.{bytes_take, bytes_drop}

same : (a b : Bool) → (a ≡ true → b ≡ true) → (b ≡ true → a ≡ true) → a ≡ b
same true b f g = sym (f refl)
same false true f g = g refl
same false false f g = refl

both : (a b : Bool) → (a && b) ≡ true → (a ≡ true) × (b ≡ true)
both true b e = (refl, e)
both false b e = (e, cc)

pub only-zeros : (l : List ℕ) → all_zero l ≡ true → l ≡ replicate (length l) 0
only-zeros [] e = refl
only-zeros (x ∷ l) e =
    ap₂ (λ (a : ℕ) (t : List ℕ). a ∷ t) (eqb-true x 0 (both (eqb x 0) (all_zero l) e).0) (only-zeros l (both (eqb x 0) (all_zero l) e).1)

pub zeros-append : (xs ys : List ℕ) → all_zero (xs ++ ys) ≡ (all_zero xs && all_zero ys)
zeros-append [] ys = refl
zeros-append (x ∷ xs) ys = ap (λ (b : Bool). eqb x 0 && b) (zeros-append xs ys) ∙ sym (and_assoc (eqb x 0) (all_zero xs) (all_zero ys))

pub zeros-both : (xs ys : List ℕ) → all_zero xs ≡ true → all_zero ys ≡ true → all_zero (xs ++ ys) ≡ true
zeros-both xs ys e f = zeros-append xs ys ∙ ap₂ ◌&&◌ e f

pub zeros_are : (n : ℕ) → all_zero (replicate n 0) ≡ true
zeros_are zero = refl
zeros_are (suc n) = zeros_are n

-- one by one
pub zeros-each : (l : List ℕ) → all_zero l ≡ true → (k : ℕ) → get_or l k 0 ≡ 0
zeros-each [] e k = refl
zeros-each (x ∷ l) e zero = eqb-true x 0 (both (eqb x 0) (all_zero l) e).0
zeros-each (x ∷ l) e (suc k) = zeros-each l (both (eqb x 0) (all_zero l) e).1 k

pub each-zeros : (l : List ℕ) → ((k : ℕ) → k < length l → get_or l k 0 ≡ 0) → all_zero l ≡ true
each-zeros [] e = refl
each-zeros (x ∷ l) e = ap₂ ◌&&◌ (eq-eqb x 0 (e 0 (omega arith))) (each-zeros l (λ k h. e (suc k) (omega arith)))

-- zeros from a place on are zeros from a later one on
zeros-drop : (l : List ℕ) (k : ℕ) → all_zero l ≡ true → all_zero (drop k l) ≡ true
zeros-drop l zero e = e
zeros-drop [] (suc k) e = refl
zeros-drop (x ∷ l) (suc k) e = zeros-drop l k (both (eqb x 0) (all_zero l) e).1

pub zeros-later : (l : List ℕ) (i k : ℕ) → all_zero (drop i l) ≡ true → all_zero (drop (i + k) l) ≡ true
zeros-later l i k e = ap all_zero (sym (drop-drop k i l)) ∙ zeros-drop (drop i l) k e

-- one byte further on, past a zero
pub zero-step : (l : List ℕ) (i : ℕ) → i < length l → get_or l i 0 ≡ 0 → all_zero (drop (suc i) l) ≡ all_zero (drop i l)
zero-step [] i h e = absurd (omega arith)
zero-step (x ∷ l) zero h e = rw (eq-eqb x 0 e)
zero-step (x ∷ l) (suc i) h e = zero-step l i (omega arith) e

-- and a byte that is none
pub zero_stop : (l : List ℕ) (i : ℕ) → i < length l → (get_or l i 0 ≡ 0 → ⊥) → all_zero (drop i l) ≡ false
zero_stop [] i h e = absurd (omega arith)
zero_stop (x ∷ l) zero h e = rw (ne_eqb x 0 e)
zero_stop (x ∷ l) (suc i) h e = zero_stop l i (omega arith) e

-- all bytes are zero where their number is
none : (l : List ℕ) → all_zero l ≡ ltb (le_of l) 1
none [] = refl
none (b ∷ l) =
    ap (λ (x : Bool). eqb b 0 && x) (none l)
    ∙ same (eqb b 0 && ltb (le_of l) 1) (ltb (le_of l * 256 + b) 1)
    (λ e. lt-ltb (le_of l * 256 + b) 1 (omega (arith, eqb-true b 0 (both (eqb b 0) (ltb (le_of l) 1) e).0, ltb-true (le_of l) 1 (both (eqb b 0) (ltb (le_of l) 1) e).1)))
    (λ e.
    let h : le_of l * 256 + b < 1 = ltb-true (le_of l * 256 + b) 1 e in
    ap₂ ◌&&◌ (eq-eqb b 0 (let z : b ≡ 0 = omega (arith, h) in z)) (lt-ltb (le_of l) 1 (omega (arith, h))))

-- zeros from byte n on: there is none, or the number is below the n-th power
below : (l : List ℕ) (n : ℕ) → Bytes l → all_zero (drop n l) ≡ (leb (length l) n || ltb (le_of l) (256 ^ n))
below [] n h = ap all_zero (drop-nil n) ∙ rw (leb-zero n)
below (b ∷ l) zero h = rw (leb-suc-zero (length l)) (none (b ∷ l))
below (b ∷ l) (suc n) h =
    let e : ltb (le_of l) (256 ^ n) ≡ ltb (le_of l * 256 + b) (256 ^ n * 256) =
    same (ltb (le_of l) (256 ^ n)) (ltb (le_of l * 256 + b) (256 ^ n * 256))
    (λ f. lt-ltb (le_of l * 256 + b) (256 ^ n * 256) (omega (arith, ltb-true (le_of l) (256 ^ n) f, h.at 0)))
    (λ f. lt-ltb (le_of l) (256 ^ n) (omega (arith, ltb-true (le_of l * 256 + b) (256 ^ n * 256) f))) in
    below l n (bytes_drop 1 h) ∙ rw (leb-suc-suc (length l) n, pow-suc 256 n) (ap (λ (x : Bool). leb (length l) n || x) e)

-- the first k bytes, and those behind them
split : (k : ℕ) (l : List ℕ) (n : ℕ) → all_zero (drop n l) ≡ (all_zero (drop n (take k l)) && all_zero (drop (n - k) (drop k l)))
split zero l n =
    let e : n - 0 ≡ n = omega arith in
    rw (drop-nil {A = ℕ} n, e)
split (suc k) [] n = rw (drop-nil {A = ℕ} n, drop-nil {A = ℕ} (n - suc k))
split (suc k) (x ∷ l) zero =
    let e : 0 - suc k ≡ 0 = omega arith in
    let f : 0 - k ≡ 0 = omega arith in
    let i : all_zero l ≡ (all_zero (take k l) && all_zero (drop (0 - k) (drop k l))) = split k l zero in
    rw e (ap (λ (y : Bool). eqb x 0 && y) (rw f at i) ∙ sym (and_assoc (eqb x 0) (all_zero (take k l)) (all_zero (drop k l))))
split (suc k) (x ∷ l) (suc n) =
    let e : suc n - suc k ≡ n - k = omega arith in
    rw e (split k l n)

-- the number of eight bytes from a place on has none but its n lowest
abbrev pub within : List ℕ → ℕ → ℕ → Bool
within l i n = leb 8 n || ltb (number_at 8 i l) (256 ^ n)

-- eight bytes from a place on, and those behind them
word : (l : List ℕ) → Bytes l → length l ≡ 32 → (i m k : ℕ) → i + 8 ≤ 32 → m - 8 ≡ k → all_zero (drop m (drop i l)) ≡ (within l i m && all_zero (drop k (drop (i + 8) l)))
unfolding number_at
word l h e i m k r d =
    let n : length (take 8 (drop i l)) ≡ 8 = length-take-le 8 (drop i l) (rw (length-drop i l) (omega arith)) in
    split 8 (drop i l) m ∙ rw (below (take 8 (drop i l)) m (bytes_take 8 (bytes_drop i h)), n, d, drop-drop 8 i l)

-- ZEROS FROM A PLACE ON, of 32 bytes as four numbers
pub four-words : (l : List ℕ) (n : ℕ) → Bytes l → length l ≡ 32
    → (within l 0 n && (within l 8 (n - 8) && (within l 16 (n - 16) && within l 24 (n - 24)))) ≡ all_zero (drop n l)
four-words l n h e =
    let end : drop 32 l ≡ [] = drop_of_length-le l {i = 32} (omega arith) in
    let w = word l h e in
    rw (w 0 n (n - 8) (omega arith) refl, w 8 (n - 8) (n - 16) (omega arith) (omega arith), w 16 (n - 16) (n - 24) (omega arith) (omega arith), w 24 (n - 24) (n - 32) (omega arith) (omega arith), end, drop-nil {A = ℕ} (n - 32), and-true)
