-- Where the cursor's steps read: places up to the body's end, and the words of a list.
use mathlib.Core.Path.{◌≡◌, refl, sym, ap, ◌∙◌}
use mathlib.Core.List.{List, [], ◌∷◌}
use Prim.Native.Nat.{ℕ, zero, suc, ◌+◌, ◌*◌, ◌≤◌, ◌<◌, min}
use native.Mathlib.Omega.{arith}
use lib.ListN.{length, take, drop, get_or, drop_of_length-le, get_or-eq_default}
use lib.Seq.{drop-drop}
use Rattle.buffer.specs.Le.{number_at, le_of}
use Rattle.refusal.proofs.Booleans.{by_less}
use Rattle.fields.specs.Field.{words_of}

-- a place past the end drops as much as the end itself
pub behind : (s : List ℕ) (at r k : ℕ) → r ≡ min at (length s) → drop (r + k) s ≡ drop (at + k) s
behind s at r k e =
    by_less (length s) at (λ h. drop_of_length-le s {i = r + k} (omega arith) ∙ sym (drop_of_length-le s {i = at + k} (omega arith)))
    (λ h. let f : r ≡ at = omega arith in rw f)

-- one byte is its own number
pub byte_there : (s : List ℕ) (at : ℕ) → get_or s at 0 ≡ number_at 1 at s
unfolding number_at
byte_there [] zero = refl
byte_there [] (suc at) = refl
byte_there (x ∷ s) zero = omega arith
byte_there (x ∷ s) (suc at) = byte_there s at

-- a number of a list, at its place
words-get : (n i : ℕ) (t : List ℕ) → i < n → le_of (take 4 (drop (4 * i) t)) ≡ get_or (words_of n t) i 0
unfolding words_of
words-get zero i t h = absurd (omega arith)
words-get (suc n) zero t h = refl
words-get (suc n) (suc i) t h =
    let e : 4 * suc i ≡ 4 + 4 * i = omega arith in
    rw (e, ← (drop-drop (4 * i) 4 t)) (words-get n i (drop 4 t) (omega arith))

pub number-got : (s : List ℕ) (at r n i : ℕ) → r ≡ min at (length s) → i < n → number_at 4 (r + 4 * i) s ≡ get_or (words_of n (drop at s)) i 0
unfolding number_at
number-got s at r n i e h =
    rw (behind s at r (4 * i) e, ← (drop-drop (4 * i) at s)) (words-get n i (drop at s) h)

-- a list has as many numbers as it says
pub length-words : (n : ℕ) (t : List ℕ) → length (words_of n t) ≡ n
unfolding words_of
length-words zero t = refl
length-words (suc n) t = ap suc (length-words n (drop 4 t))

pub beyond_list : (s : List ℕ) (at n i : ℕ) → n ≤ i → 0 ≡ get_or (words_of n (drop at s)) i 0
beyond_list s at n i h = sym (get_or-eq_default (words_of n (drop at s)) 0 {n = i} (rw (length-words n (drop at s)) h))
