-- What a splice leaves in front of it, at its place and behind it; elements moved towards the front are one.
use mathlib.Core.Path.{◌≡◌, sym, ap, ap₂, ◌∙◌}
use mathlib.Core.List.{List, ◌++◌, append_assoc}
use Prim.Native.Nat.{ℕ, ◌+◌, ◌-◌, ◌≤◌, ◌<◌}
use native.Mathlib.Numerals.{add-one}
use native.Mathlib.Omega.{arith}
use lib.ListN.{length, take, drop, get_or, set, length-append, length-drop}
use lib.Seq.{take_at, drop_at, drop-append-add, drop-drop, length-take-le, get_or-drop, paste, paste-suc, drop-paste}
use Rattle.buffer.specs.Splice.{replace_front, splice}

module _ (l : List ℕ) (i : ℕ) (xs : List ℕ) (h : i ≤ length l) where
  front_length : length (take i l ++ xs) ≡ i + length xs
  front_length = length-append (take i l) xs ∙ ap (λ (k : ℕ). k + length xs) (length-take-le i l h)

  pub splice-before : take i (splice l i xs) ≡ take i l
  splice-before =
      ap (take i) (append_assoc (take i l) xs (drop (i + length xs) l))
      ∙ take_at (take i l) (xs ++ drop (i + length xs) l) i (length-take-le i l h)

  pub splice-from : drop i (splice l i xs) ≡ xs ++ drop (i + length xs) l
  splice-from =
      ap (drop i) (append_assoc (take i l) xs (drop (i + length xs) l))
      ∙ drop_at (take i l) (xs ++ drop (i + length xs) l) i (length-take-le i l h)

  pub splice_at : (n : ℕ) → length xs ≡ n → take n (drop i (splice l i xs)) ≡ xs
  splice_at n e = ap (take n) splice-from ∙ take_at xs (drop (i + length xs) l) n e

  pub splice_upto : take (i + length xs) (splice l i xs) ≡ take i l ++ xs
  splice_upto = take_at (take i l ++ xs) (drop (i + length xs) l) (i + length xs) front_length

  pub splice-behind : (k : ℕ) → i + length xs ≤ k → drop k (splice l i xs) ≡ drop k l
  splice-behind k f =
      let e : k ≡ length (take i l ++ xs) + (k - (i + length xs)) = omega (arith, front_length) in
      rw (e, drop-append-add, drop-drop, front_length)

  -- a front that covers it
  pub splice-covered : (ys : List ℕ) → i + length xs ≤ length ys → replace_front ys (splice l i xs) ≡ replace_front ys l
  splice-covered ys f = ap (λ (t : List ℕ). ys ++ t) (splice-behind (length ys) f)

-- replaced again by as many
pub splice-again : (l : List ℕ) (i : ℕ) (xs ys : List ℕ) → i ≤ length l → length xs ≡ length ys → splice (splice l i xs) i ys ≡ splice l i ys
splice-again l i xs ys h e =
    ap₂ (λ (a b : List ℕ). a ++ ys ++ b) (splice-before l i xs h) (splice-behind l i xs h (i + length ys) (omega arith))

-- the n elements from i on, which were lent, came back as ys
pub given_back : (l ys : List ℕ) (i n : ℕ) → length ys ≡ n → take i l ++ (ys ++ drop n (drop i l)) ≡ splice l i ys
given_back l ys i n e =
    ap (λ (t : List ℕ). take i l ++ (ys ++ t)) (drop-drop n i l ∙ ap (λ (k : ℕ). drop (i + k) l) (sym e))
    ∙ sym (append_assoc (take i l) ys (drop (i + length ys) l))

-- ---- n elements moved towards the front, the first one first

module _ (l : List ℕ) (to from n : ℕ) (h : to ≤ from) (k : from + n ≤ length l) where
  -- what is read was not moved yet
  source-at : (s : List ℕ) (i : ℕ) → i < n → s ≡ paste l to (drop from l) i → get_or s (from + i) 0 ≡ get_or (drop from l) i 0
  source-at s i f e =
      let d : drop (to + i) s ≡ drop (to + i) l =
      ap (drop (to + i)) e ∙ drop-paste l to (drop from l) i (omega arith) (omega (arith, length-drop from l)) in
      let j : from + i ≡ to + i + (from - to) = omega arith in
      rw (get_or-drop from l i 0, j, ← (get_or-drop (to + i) s (from - to) 0), d, get_or-drop (to + i) l (from - to) 0)

  pub moved_more : (s : List ℕ) (i : ℕ) → i < n → s ≡ paste l to (drop from l) i
      → set s (to + i) (get_or s (from + i) 0) ≡ paste l to (drop from l) (i + 1)
  moved_more s i f e =
      ap₂ (λ (t : List ℕ) (x : ℕ). set t (to + i) x) e (source-at s i f e)
      ∙ paste-suc l to (drop from l) i 0 (omega arith) (omega (arith, length-drop from l))
      ∙ ap (paste l to (drop from l)) (sym (add-one i))

  pub moved_all : paste l to (drop from l) n ≡ splice l to (take n (drop from l))
  moved_all =
      ap (λ (m : ℕ). take to l ++ take n (drop from l) ++ drop (to + m) l)
      (sym (length-take-le n (drop from l) (omega (arith, length-drop from l))))
