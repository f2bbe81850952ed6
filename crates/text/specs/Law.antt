-- What holds of every line.
use Rattle.std.specs.Prelude.{◌≡◌, List, ◌++◌, ℕ, ◌+◌, ◌≤◌, length, take, drop}
use Rattle.text.specs.Line.{Piece, text_of, width}
use Rattle.text.specs.Page.{Page, page, IsWithin, write, puts}

pub record EveryLine : Type 0 where
  -- pieces that are put one behind the other are the line's text
  pub text : (xs : List Piece) (p : Page) → puts xs p ≡ write (text_of xs) p
  -- with room all of it is there, and nothing else is changed
  pub whole : (xs l : List ℕ) (i : ℕ) → i + length xs ≤ length l → write xs (page l i) ≡ page (take i l ++ xs ++ drop (i + length xs) l) (i + length xs)
  -- no line is longer than its width
  pub within : (xs : List Piece) → length (text_of xs) ≤ width xs
  -- a text that ends within its buffer still does, whatever is stored
  pub place-within : (xs : List ℕ) (p : Page) → IsWithin p → IsWithin (write xs p)
