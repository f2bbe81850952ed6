-- Numbers written and read back, numbers of a part of a list, and lists of bytes.
use mathlib.Core.Path.{◌≡◌, refl, sym, ap, subst, ◌∙◌}
use mathlib.Core.List.{List, [], ◌∷◌, ◌++◌}
use Prim.Native.Nat.{ℕ, zero, suc, ◌+◌, ◌-◌, ◌*◌, ◌%◌, ◌/◌, ◌^◌, ◌<◌, ◌≤◌}
use native.Mathlib.Nat.{pow-suc, div-lt_iff_lt-mul}
use native.Mathlib.Omega.{arith}
use lib.Dec.{lit<}
use lib.Arith.{lt-one}
use lib.ListN.{length, take, drop, take-append-drop, replicate, length-drop}
use lib.Seq.{take_at, take-take, drop-append_seam, length-take-le, take-append-le, drop-append-le, drop-drop, get_or-drop}
use Rattle.std.specs.Int.{w16, w32, w64, from_le_bytes}
use Rattle.buffer.specs.Splice.{overwrite}
use Rattle.buffer.specs.Le.{le, le_of, number_at, Bytes}
use Rattle.buffer.proofs.Parts.{drop-take}

pub length-le : (w n : ℕ) → length (le w n) ≡ w
length-le zero n = refl
length-le (suc w) n = ap suc (length-le w (n / 256))

-- reading what was written gives the number back, where it fits
pub le_of-le : (w n : ℕ) → n < 256 ^ w → le_of (le w n) ≡ n
le_of-le zero n h = sym (lt-one h)
le_of-le (suc w) n h =
    let h' : n < 256 ^ w * 256 = rw pow-suc at h in
    let r : le_of (le w (n / 256)) ≡ n / 256 = le_of-le w (n / 256) ((div-lt_iff_lt-mul (lit< tt)).1 h') in
    omega arith

-- a number as code reads it: from its bytes, where those that are not there are 0
read_2 : (l : List ℕ) → from_le_bytes w16 (overwrite (take 2 l) (replicate 2 0)) ≡ le_of (take 2 l)
unfolding overwrite
read_2 [] = refl
read_2 (a ∷ []) = omega arith
read_2 (a ∷ b ∷ l) = omega arith

read_4 : (l : List ℕ) → from_le_bytes w32 (overwrite (take 4 l) (replicate 4 0)) ≡ le_of (take 4 l)
unfolding overwrite
read_4 [] = refl
read_4 (a ∷ []) = omega arith
read_4 (a ∷ b ∷ []) = omega arith
read_4 (a ∷ b ∷ c ∷ []) = omega arith
read_4 (a ∷ b ∷ c ∷ d ∷ l) = omega arith

read_8 : (l : List ℕ) → from_le_bytes w64 (overwrite (take 8 l) (replicate 8 0)) ≡ le_of (take 8 l)
unfolding overwrite
read_8 [] = refl
read_8 (a ∷ []) = omega arith
read_8 (a ∷ b ∷ []) = omega arith
read_8 (a ∷ b ∷ c ∷ []) = omega arith
read_8 (a ∷ b ∷ c ∷ d ∷ []) = omega arith
read_8 (a ∷ b ∷ c ∷ d ∷ e ∷ []) = omega arith
read_8 (a ∷ b ∷ c ∷ d ∷ e ∷ f ∷ []) = omega arith
read_8 (a ∷ b ∷ c ∷ d ∷ e ∷ f ∷ g ∷ []) = omega arith
read_8 (a ∷ b ∷ c ∷ d ∷ e ∷ f ∷ g ∷ h ∷ l) = omega arith

pub u16_read : (s : List ℕ) (i : ℕ) → from_le_bytes w16 (overwrite (take 2 (drop i s)) (replicate 2 0)) ≡ number_at 2 i s
unfolding number_at
u16_read s i = read_2 (drop i s)

pub u32_read : (s : List ℕ) (i : ℕ) → from_le_bytes w32 (overwrite (take 4 (drop i s)) (replicate 4 0)) ≡ number_at 4 i s
unfolding number_at
u32_read s i = read_4 (drop i s)

pub u64_read : (s : List ℕ) (i : ℕ) → from_le_bytes w64 (overwrite (take 8 (drop i s)) (replicate 8 0)) ≡ number_at 8 i s
unfolding number_at
u64_read s i = read_8 (drop i s)

-- a number in the first bytes of a list
pub number-take : (w i n : ℕ) (l : List ℕ) → i + w ≤ n → number_at w i (take n l) ≡ number_at w i l
unfolding number_at
number-take w i n l h =
    let e : n ≡ i + (n - i) = omega arith in
    rw (e, drop-take i (n - i) l, take-take w (n - i) (drop i l) (omega arith))

-- a number further on
pub number-drop : (w i n : ℕ) (l : List ℕ) → number_at w i (drop n l) ≡ number_at w (n + i) l
unfolding number_at
number-drop w i n l = ap (λ (t : List ℕ). le_of (take w t)) (drop-drop i n l)

pub number_append : (w i : ℕ) (xs ys : List ℕ) → i + w ≤ length xs → number_at w i (xs ++ ys) ≡ number_at w i xs
unfolding number_at
number_append w i xs ys h =
    let l = length-drop i xs in
    ap (λ (t : List ℕ). le_of (take w t)) (drop-append-le i xs ys (omega arith)) ∙ ap le_of (take-append-le w (drop i xs) ys (omega arith))

pub bytes-nil : Bytes []
bytes-nil = record { at = λ i. lit< tt }

pub bytes-cons : {b : ℕ} {bs : List ℕ} → b < 256 → Bytes bs → Bytes (b ∷ bs)
bytes-cons hb hs = record { at = elim [ zero ↦ hb | suc i ↦ hs.at i ] }

pub bytes_drop : (n : ℕ) {l : List ℕ} → Bytes l → Bytes (drop n l)
bytes_drop n {l} h = record { at = λ i. rw (get_or-drop n l i 0) (h.at (n + i)) }

pub bytes-append : {xs ys : List ℕ} → Bytes xs → Bytes ys → Bytes (xs ++ ys)
bytes-append {xs = []} hx hy = hy
bytes-append {xs = x ∷ xs} hx hy = bytes-cons (hx.at 0) (bytes-append {xs = xs} (bytes_drop 1 hx) hy)

pub le_bytes : (w n : ℕ) → Bytes (le w n)
le_bytes zero n = bytes-nil
le_bytes (suc w) n = bytes-cons (omega arith) (le_bytes w (n / 256))

pub bytes_take : (n : ℕ) {l : List ℕ} → Bytes l → Bytes (take n l)
bytes_take zero h = bytes-nil
bytes_take (suc n) {l = []} h = h
bytes_take (suc n) {l = x ∷ l} h = bytes-cons (h.at 0) (bytes_take n {l = l} (bytes_drop 1 h))

pub bytes-zeros : (n : ℕ) → Bytes (replicate n 0)
bytes-zeros zero = bytes-nil
bytes-zeros (suc n) = bytes-cons (lit< tt) (bytes-zeros n)

-- bytes that were read, written again
pub le-le_of : (bs : List ℕ) → Bytes bs → le (length bs) (le_of bs) ≡ bs
le-le_of [] h = refl
le-le_of (b ∷ bs) h =
    let k : b < 256 = h.at 0 in
    let x : (le_of bs * 256 + b) % 256 ≡ b = omega arith in
    let y : (le_of bs * 256 + b) / 256 ≡ le_of bs = omega arith in
    rw (x, y) (ap (λ (l : List ℕ). b ∷ l) (le-le_of bs (bytes_drop 1 h)))

pub number-again : (w at : ℕ) (s : List ℕ) → Bytes s → w ≤ length s - at → le w (number_at w at s) ≡ take w (drop at s)
unfolding number_at
number-again w at s h k =
    let e : length (take w (drop at s)) ≡ w = length-take-le w (drop at s) (rw (length-drop at s) k) in
    subst (λ (n : ℕ). le n (le_of (take w (drop at s))) ≡ take w (drop at s)) e (le-le_of (take w (drop at s)) (bytes_take w (bytes_drop at h)))

-- and what stands behind it
pub number-on : (w at : ℕ) (s : List ℕ) {t : List ℕ} → Bytes s → w ≤ length s - at → t ≡ drop (at + w) s → le w (number_at w at s) ++ t ≡ drop at s
number-on w at s {t} h k e = rw (e, number-again w at s h k, ← (drop-drop w at s)) (take-append-drop w (drop at s))

-- a number that stands behind pre and before post
pub number-there : (w n : ℕ) (pre post : List ℕ) → n < 256 ^ w → number_at w (length pre) (pre ++ (le w n ++ post)) ≡ n
unfolding number_at
number-there w n pre post h = rw (drop-append_seam pre (le w n ++ post), take_at (le w n) post w (length-le w n)) (le_of-le w n h)

-- four bytes make no more than 32 bits
pub number-few : (l : List ℕ) → Bytes l → number_at 4 0 l ≤ 4294967295
unfolding number_at
number-few [] h = omega arith
number-few (a ∷ []) h = omega (arith, h.at 0)
number-few (a ∷ b ∷ []) h = omega (arith, h.at 0, h.at 1)
number-few (a ∷ b ∷ c ∷ []) h = omega (arith, h.at 0, h.at 1, h.at 2)
number-few (a ∷ b ∷ c ∷ d ∷ l) h = omega (arith, h.at 0, h.at 1, h.at 2, h.at 3)
