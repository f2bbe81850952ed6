-- Elements set one after the other, as a front or a splice that is replaced.
use Prim.Native.Nat.{ℕ, zero, suc, ◌+◌, ◌-◌, ◌≤◌, ◌<◌, min}
use mathlib.Core.List.{List, [], ◌∷◌, ◌++◌, append-nil}
use mathlib.Core.Path.{◌≡◌, refl, sym, subst, ap, ◌∙◌}
use native.Mathlib.Omega.{arith}
use native.Mathlib.Numerals.{add-one}
use native.Mathlib.Nat.{zero-add, add-zero, add-suc, suc-add}
use lib.ListN.{length, take, drop, set, get_or, drop_of_length-le, length-set}
use lib.Seq.{sets, sets-eq, length-sets, set_out, take_at, take-nil, take-suc, length-take-le, drop-set-lt}
use Rattle.buffer.specs.Splice.{replace_front, splice, overwrite}
use Rattle.buffer.proofs.Parts.{rest, back, replace_front-next, length-replace_front, placed-overwrite}

-- one behind the other
pub sets-append : (l : List ℕ) (i : ℕ) (xs ys : List ℕ) → sets (sets l i xs) (i + length xs) ys ≡ sets l i (xs ++ ys)
sets-append l i [] ys = rw add-zero
sets-append l i (x ∷ xs) ys = rw (add-suc i (length xs), ← (suc-add i (length xs))) (sets-append (set l i x) (suc i) xs ys)

-- behind the end nothing is set
pub sets-out : (xs l : List ℕ) (i : ℕ) → length l ≤ i → sets l i xs ≡ l
sets-out [] l i h = refl
sets-out (x ∷ xs) l i h = rw (set_out l i x h) (sets-out xs l (suc i) (omega arith))

-- one more
pub sets_more : (xs l : List ℕ) (i k : ℕ) → k < length xs → set (sets l i (take k xs)) (i + k) (get_or xs k 0) ≡ sets l i (take (k + 1) xs)
sets_more xs l i k h =
    let n : length (take k xs) ≡ k = length-take-le k xs (omega arith) in
    let e : set (sets l i (take k xs)) (i + length (take k xs)) (get_or xs k 0) ≡ sets l i (take k xs ++ (get_or xs k 0 ∷ [])) = sets-append l i (take k xs) (get_or xs k 0 ∷ []) in
    rw (add-one, take-suc xs k 0 h) (rw n at e)

-- as many as there is room for
pub sets-past : (xs ys l : List ℕ) (i : ℕ) → length l ≤ i + length xs → sets l i (xs ++ ys) ≡ sets l i xs
sets-past xs ys l i h = sym (sets-append l i xs ys) ∙ sets-out ys (sets l i xs) (i + length xs) (rw length-sets h)

pub sets-room : (xs l : List ℕ) (i n : ℕ) → n ≡ min (length xs) (length l - i) → sets l i (take n xs) ≡ sets l i xs
sets-room [] l i n e = rw take-nil
sets-room (x ∷ xs) l i zero e = sym (sets-out (x ∷ xs) l i (omega arith))
sets-room (x ∷ xs) l i (suc n) e = sets-room xs (set l i x) (suc i) n (rw length-set (omega arith))

-- behind them, the list is as it was
pub drop-sets : (l : List ℕ) (i : ℕ) (xs : List ℕ) → drop (i + length xs) (sets l i xs) ≡ drop (i + length xs) l
drop-sets l i [] = refl
drop-sets l i (x ∷ xs) =
    rw (add-suc i (length xs), ← (suc-add i (length xs))) (drop-sets (set l i x) (suc i) xs ∙ drop-set-lt (suc i + length xs) l i x (omega arith))

-- at the front
pub sets-front : (s xs : List ℕ) → length xs ≤ length s → sets s 0 xs ≡ replace_front xs s
sets-front s xs h = sets-eq xs s 0 (omega arith) ∙ ap (λ (n : ℕ). xs ++ drop n s) (zero-add (length xs))

-- behind what stands at the front
pub sets_behind : (s xs ys : List ℕ) (n : ℕ) → length xs ≡ n → n + length ys ≤ length s → sets (replace_front xs s) n ys ≡ replace_front (xs ++ ys) s
sets_behind s xs ys n e h =
    let l : length (replace_front xs s) ≡ length s = length-replace_front xs s (omega arith) in
    sets-eq ys (replace_front xs s) n (omega arith) ∙ ap (λ (k : ℕ). splice (replace_front xs s) k ys) (sym e) ∙ replace_front-next s xs ys

-- a list that is filled from its start
pub sets-whole : (l xs : List ℕ) → length xs ≡ length l → sets l 0 xs ≡ xs
sets-whole l xs e =
    sets-front l xs (omega arith) ∙ ap (λ (t : List ℕ). xs ++ t) (drop_of_length-le l {i = length xs} (omega arith)) ∙ append-nil xs

pub take-sets : (l xs : List ℕ) (n : ℕ) → length xs ≡ n → n ≤ length l → take n (sets l 0 xs) ≡ xs
take-sets l xs n e h = ap (take n) (sets-front l xs (omega arith)) ∙ take_at xs (drop (length xs) l) n e

-- put into the part from n on, which was lent
pub part-put : (l xs ys : List ℕ) (n : ℕ) → ys ≡ overwrite xs (rest l n) → n + length xs ≤ length l → back l n ys ≡ sets l n xs
part-put l xs ys n h k = placed-overwrite l xs ys n k h ∙ sym (sets-eq xs l n k)

-- and of an array, of which the length is known as N
pub array_put : (l xs ys : List ℕ) (n N : ℕ) → length l ≡ N → ys ≡ overwrite xs (take (N - n) (drop n l)) → n + length xs ≤ N
    → take n l ++ (ys ++ drop (N - n) (drop n l)) ≡ sets l n xs
array_put l xs ys n N e =
    subst (λ (M : ℕ). ys ≡ overwrite xs (take (M - n) (drop n l)) → n + length xs ≤ M → take n l ++ (ys ++ drop (M - n) (drop n l)) ≡ sets l n xs) e
    (λ h k. part-put l xs ys n h k)
