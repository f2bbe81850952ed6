-- A lent buffer and the place where its text ends, and what is written there.
use Rattle.std.specs.Prelude.{List, [], ◌∷◌, ℕ, ◌+◌, ◌-◌, ◌≤◌, min, length}
use Rattle.std.proofs.lemmas.List.Edits.{sets}
use Rattle.text.specs.Line.{Piece, bytes_of}

pub record Page : Type 0 where
  pub bytes : List ℕ
  pub at : ℕ

unfoldable pub page : List ℕ → ℕ → Page
page l i = record { bytes = l; at = i }

-- the text ends within the buffer, as one that is begun at place 0
abbrev pub IsWithin : Page → Type 0
IsWithin p = p.at ≤ length p.bytes

-- THE BYTES xs are stored from the place on, as far as there is room
unfoldable pub write : List ℕ → Page → Page
write xs p = page (sets p.bytes p.at xs) (p.at + min (length xs) (length p.bytes - p.at))

unfoldable pub put : Piece → Page → Page
put x p = write (bytes_of x) p

-- pieces, one behind the other
abbrev pub puts : List Piece → Page → Page
puts [] p = p
puts (x ∷ xs) p = puts xs (put x p)
