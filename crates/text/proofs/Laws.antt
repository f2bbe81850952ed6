-- The laws of lines.
use mathlib.Core.Path.{◌≡◌, refl, sym, ap, ap₂, ◌∙◌}
use mathlib.Core.Bool.{Bool, true, false, cond}
use mathlib.Core.List.{List, [], ◌∷◌, ◌++◌, append_assoc}
use Prim.Native.Nat.{ℕ, zero, suc, ◌+◌, ◌-◌, ◌*◌, ◌/◌, ◌%◌, ◌^◌, ◌≤◌, ◌<◌, min}
use native.Mathlib.Nat.{pow-suc, div-lt_iff_lt-mul, pow-le-pow_right, not-suc-le-zero, le_of_suc-le-suc}
use native.Mathlib.Omega.{arith}
use borrow.Author.Tests.{lt-ltb, le-ltb, leb-true, leb-false}
use lib.Dec.{ltb, leb, lit<, lit≤}
use lib.ListN.{length, take, drop, length-append}
use lib.Seq.{sets, sets-eq, length-sets, take_at}
use Rattle.io.specs.Digits.{last_digits, hex_digit_ascii, IsDigitCount}
use Rattle.buffer.proofs.Sets.{sets-append, sets-out, sets-past}
use Rattle.text.specs.Line.{Piece, raw, decimal, number, hex, decimal_by, bytes_of, text_of, width_of, width}
use Rattle.text.specs.Page.{Page, page, IsWithin, write, put, puts}
use Rattle.text.specs.Law.{EveryLine}

-- ---- pages

-- one text behind another
pub write-next : (xs ys : List ℕ) (p : Page) → write ys (write xs p) ≡ write (xs ++ ys) p
unfolding write page
write-next xs ys p = ap₂ page (go (leb (length xs) (length p.bytes - p.at)) refl) ends
  where
    go : (b : Bool) → leb (length xs) (length p.bytes - p.at) ≡ b → sets (sets p.bytes p.at xs) (p.at + min (length xs) (length p.bytes - p.at)) ys ≡ sets p.bytes p.at (xs ++ ys)
    go true t =
        let h = leb-true (length xs) (length p.bytes - p.at) t in
        let e : min (length xs) (length p.bytes - p.at) ≡ length xs = omega arith in
        rw e (sets-append p.bytes p.at xs ys)
    go false t =
        let h = leb-false (length xs) (length p.bytes - p.at) t in
        sets-out ys (sets p.bytes p.at xs) (p.at + min (length xs) (length p.bytes - p.at)) (rw length-sets (omega arith))
        ∙ sym (sets-past xs ys p.bytes p.at (omega arith))

    ends : p.at + min (length xs) (length p.bytes - p.at) + min (length ys) (length (sets p.bytes p.at xs) - (p.at + min (length xs) (length p.bytes - p.at))) ≡ p.at + min (length (xs ++ ys)) (length p.bytes - p.at)
    ends = rw (length-sets, length-append) (omega arith)

write-none : (p : Page) → p ≡ write [] p
unfolding write page
write-none p = ap₂ page refl (omega arith)

pub puts-append : (xs ys : List Piece) (p : Page) → puts (xs ++ ys) p ≡ puts ys (puts xs p)
puts-append [] ys p = refl
puts-append (x ∷ xs) ys p = puts-append xs ys (put x p)

pub puts-text : (xs : List Piece) (p : Page) → puts xs p ≡ write (text_of xs) p
unfolding text_of put
puts-text [] p = write-none p
puts-text (x ∷ xs) p = puts-text xs (put x p) ∙ write-next (bytes_of x) (text_of xs) p

pub write-whole : (xs l : List ℕ) (i : ℕ) → i + length xs ≤ length l → write xs (page l i) ≡ page (take i l ++ xs ++ drop (i + length xs) l) (i + length xs)
unfolding write page
write-whole xs l i h = ap₂ page (sets-eq xs l i h) (omega arith)

-- ---- widths

shorter : (f n : ℕ) (b : Bool) (xs : List ℕ) → length xs ≤ f → length (cond b [] xs ++ (hex_digit_ascii (n % 10) ∷ [])) ≤ suc f
shorter f n true xs h = omega arith
shorter f n false xs h = rw length-append (omega arith)

decimal-within : (f n : ℕ) → length (decimal_by f n) ≤ f
unfolding decimal_by
decimal-within zero n = omega arith
decimal-within (suc f) n = shorter f n (ltb n 10) (decimal_by f (n / 10)) (decimal-within f (n / 10))

piece-within : (x : Piece) → length (bytes_of x) ≤ width_of x
piece-within (raw w) = omega arith
piece-within (decimal n) = decimal-within 20 n
piece-within (number n) = let h = decimal-within 20 n in omega arith
piece-within (hex n) = lit≤ tt

pub text-within : (xs : List Piece) → length (text_of xs) ≤ width xs
unfolding text_of
text-within [] = omega arith
text-within (x ∷ xs) = let h = piece-within x in let k = text-within xs in rw length-append (omega arith)

-- `place-within`: no more is stored than there is room for
pub every-line : EveryLine
unfolding write page
every-line = record { text = puts-text; whole = write-whole; within = text-within; place-within = λ xs p h. rw length-sets (omega arith) }

pub puts-within : (xs : List Piece) (p : Page) → IsWithin p → IsWithin (puts xs p)
puts-within xs p h = rw (puts-text xs p) (every-line.place-within (text_of xs) p h)

-- ---- digits

-- no more digits than hold the number
pub fewest_within : (b least n k m : ℕ) → 0 < b → IsDigitCount b least n k → n < b ^ m → least ≤ m → k ≤ m
fewest_within b least n k m hb w h l = go (leb k m) refl
  where
    go : (t : Bool) → leb k m ≡ t → k ≤ m
    go true e = leb-true k m e
    go false e =
        let g : m < k = leb-false k m e in
        let p : b ^ m ≤ b ^ (k - 1) = pow-le-pow_right hb (omega arith) in
        let q : b ^ (k - 1) ≤ n = w.2 (omega arith) in
        omega arith

-- the fewest digits that hold a number are its decimal
decimal-is : (f k n : ℕ) → IsDigitCount 10 1 n k → k ≤ f → last_digits 10 k n ≡ decimal_by f n
unfolding decimal_by
decimal-is f zero n w h = absurd (not-suc-le-zero w.0)
decimal-is zero (suc k) n w h = absurd (not-suc-le-zero h)
decimal-is (suc f) (suc zero) n w h = rw (lt-ltb n 10 w.1)
decimal-is (suc f) (suc (suc j)) n w h =
    let s : suc (suc j) - 1 ≡ suc j = omega arith in
    let t : suc j - 1 ≡ j = omega arith in
    let least : 10 ^ suc j ≤ n = rw s at (w.2 (omega arith)) in
    let least' : 10 ^ j * 10 ≤ n = rw pow-suc at least in
    let most : n < 10 ^ suc j * 10 = rw pow-suc at w.1 in
    let ten : 10 ≤ n = let one : 1 ≤ 10 ^ j = pow-le-pow_right {n = 10} (lit< tt) {i = 0} {j = j} (omega arith) in omega arith in
    let w' : IsDigitCount 10 1 (n / 10) (suc j) = (omega arith, (div-lt_iff_lt-mul (lit< tt)).1 most, λ _. rw t (omega arith)) in
    rw (le-ltb n 10 ten) (ap (λ (l : List ℕ). l ++ (hex_digit_ascii (n % 10) ∷ [])) (decimal-is f (suc j) (n / 10) w' (le_of_suc-le-suc h)))

-- a 64-bit number's digits
pub decimal_of : (n k : ℕ) → n < 18446744073709551616 → IsDigitCount 10 1 n k → last_digits 10 k n ≡ decimal_by 20 n
decimal_of n k h w =
    decimal-is 20 k n w
    (fewest_within 10 1 n k 20 (lit< tt) w (let t : 18446744073709551616 ≤ 10 ^ 20 = lit≤ tt in omega arith) (lit≤ tt))

-- a 32-bit number's hexadecimal ones
pub hex_of : (n k : ℕ) → n < 4294967296 → IsDigitCount 16 8 n k → last_digits 16 k n ≡ last_digits 16 8 n
hex_of n k h w =
    let t : k ≤ 8 = fewest_within 16 8 n k 8 (lit< tt) w (let t : 4294967296 ≤ 16 ^ 8 = lit≤ tt in omega arith) (lit≤ tt) in
    let e : k ≡ 8 = omega arith in
    ap (λ (j : ℕ). last_digits 16 j n) e

-- ---- lines one behind the other, and what stands of them on a page

pub text-append : (xs ys : List Piece) → text_of (xs ++ ys) ≡ text_of xs ++ text_of ys
unfolding text_of
text-append [] ys = refl
text-append (x ∷ xs) ys = rw (text-append xs ys) (sym (append_assoc (bytes_of x) (text_of xs) (text_of ys)))

pub width-append : (xs ys : List Piece) → width (xs ++ ys) ≡ width xs + width ys
width-append [] ys = omega arith
width-append (x ∷ xs) ys = omega (arith, width-append xs ys)

split : (a b : List ℕ) (i j : ℕ) → page a i ≡ page b j → take i a ≡ take j b
unfolding page
split a b i j q = ap (λ (p : Page). take p.at p.bytes) q

-- with room, all of it is there
pub text_of_lem : EveryLine → (xs : List Piece) (lent text : List ℕ) (k : ℕ) {room : ℕ} → width xs ≤ room → room ≤ length lent → page text k ≡ puts xs (page lent 0) → take k text ≡ text_of xs
text_of_lem law xs lent text k h g e =
    let n = length (text_of xs) in
    let w : 0 + n ≤ length lent = omega (arith, law.within xs) in
    let q : page text k ≡ page (text_of xs ++ drop (0 + n) lent) (0 + n) = e ∙ law.text xs (page lent 0) ∙ law.whole (text_of xs) lent 0 w in
    split text (text_of xs ++ drop (0 + n) lent) k (0 + n) q
    ∙ take_at (text_of xs) (drop (0 + n) lent) (0 + n) (omega arith)

pub page_text : EveryLine → (xs : List Piece) (lent : List ℕ) (p : Page) {room : ℕ} → width xs ≤ room → room ≤ length lent → p ≡ puts xs (page lent 0) → take p.at p.bytes ≡ text_of xs
unfolding page
page_text law xs lent p h g e = text_of_lem law xs lent p.bytes p.at h g e
