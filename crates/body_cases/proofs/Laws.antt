-- Laws of the fields that are printed.
use mathlib.Core.Path.{◌≡◌, sym, ap, ◌∙◌}
use mathlib.Core.List.{List, [], ◌∷◌, ◌++◌, append-nil}
use Prim.Native.Nat.{ℕ, ◌+◌, ◌≤◌, ◌<◌}
use native.Mathlib.Numerals.{add-one}
use lib.ListN.{length, drop, get_or, drop_of_length-le}
use lib.Seq.{drop-cons}
use Rattle.io.specs.Digits.{last_digits}
use Rattle.text.specs.Line.{Piece, raw}
use Rattle.text.specs.Line as line
use Rattle.text.specs.Page.{Page, put, puts}
use Rattle.text.proofs.Laws.{puts-append}
use Rattle.body_cases.specs.Reading.{each_number, each_byte}

-- one more number of a list
pub each_more : (ns : List ℕ) (i n : ℕ) (p : Page) {q : Page} → i < length ns → n ≡ get_or ns i 0 → q ≡ put (line.number n) p
    → puts (each_number (drop (i + 1) ns)) q ≡ puts (each_number (drop i ns)) p
unfolding each_number
each_more ns i n p h e k = rw (add-one, drop-cons ns i 0 h, k, e)

pub each_none : (ns : List ℕ) (i : ℕ) (p : Page) → length ns ≤ i → puts (each_number (drop i ns)) p ≡ p
unfolding each_number
each_none ns i p h = rw (drop_of_length-le ns {i = i} h)

-- and one more byte of a stamp
pub stamp-more : (bs : List ℕ) (i : ℕ) (p : Page) {q : Page} → i < length bs → q ≡ put (raw (last_digits 16 2 (get_or bs i 0))) p
    → puts (each_byte (drop (i + 1) bs)) q ≡ puts (each_byte (drop i bs)) p
unfolding each_byte
stamp-more bs i p h k = rw (add-one, drop-cons bs i 0 h, k)

pub stamp-none : (bs : List ℕ) (i : ℕ) (p : Page) → length bs ≤ i → puts (each_byte (drop i bs)) p ≡ p
unfolding each_byte
stamp-none bs i p h = rw (drop_of_length-le bs {i = i} h)

-- ---- pieces behind a list of which nothing is known

pub two-parts : (xs ys zs : List Piece) (p : Page) → puts zs (puts ys (puts xs p)) ≡ puts ((xs ++ ys) ++ zs) p
two-parts xs ys zs p = sym (puts-append (xs ++ ys) zs p ∙ ap (puts zs) (puts-append xs ys p))

pub two-lists : (xs : List Piece) (x y : Piece) (ys zs : List Piece) (p : Page) → puts zs (puts ys (put y (put x (puts xs p)))) ≡ puts ((xs ++ (x ∷ y ∷ (ys ++ []))) ++ zs) p
two-lists xs x y ys zs p = rw append-nil (two-parts xs (x ∷ y ∷ ys) zs p)
