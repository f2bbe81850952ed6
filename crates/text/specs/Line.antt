-- A line as the pieces that it is written in, and its text.
use Rattle.std.specs.Prelude.{cond, List, [], ◌∷◌, ◌++◌, ℕ, zero, suc, ◌+◌, ◌/◌, ◌%◌, ltb, length}
use Prim.Native.Char.{code}
use Prim.Native.String.{String, [] as end, ◌∷◌ as ◌before◌}
use Rattle.io.specs.Digits.{last_digits, hex_digit_ascii}

-- the codes of a text's characters
abbrev pub codes : String → List ℕ
codes end = []
codes (c before s) = code c ∷ codes s

-- n in decimal, with at most f digits
unfoldable pub decimal_by : ℕ → ℕ → List ℕ
decimal_by zero n = []
decimal_by (suc f) n = cond (ltb n 10) [] (decimal_by f (n / 10)) ++ (hex_digit_ascii (n % 10) ∷ [])

-- bytes as they are; a number in decimal, without and with a space in front; a number in hexadecimal
pub data Piece : Type 0 where
  raw : List ℕ → Piece
  decimal : ℕ → Piece
  number : ℕ → Piece
  hex : ℕ → Piece

abbrev pub word : String → Piece
word s = raw (codes s)

abbrev pub newline : Piece
newline = word "\n"

-- a word and a number
abbrev pub field : String → ℕ → List Piece
field s n = word s ∷ number n ∷ []

-- a number of 64 bits has at most 20 digits, one of 32 bits eight hexadecimal ones
abbrev pub bytes_of : Piece → List ℕ
bytes_of (raw w) = w
bytes_of (decimal n) = decimal_by 20 n
bytes_of (number n) = 32 ∷ decimal_by 20 n
bytes_of (hex n) = last_digits 16 8 n

-- THE TEXT of a line
unfoldable pub text_of : List Piece → List ℕ
text_of [] = []
text_of (x ∷ xs) = bytes_of x ++ text_of xs

-- the most bytes that it can have
abbrev pub width_of : Piece → ℕ
width_of (raw w) = length w
width_of (decimal n) = 20
width_of (number n) = 21
width_of (hex n) = 8

abbrev pub width : List Piece → ℕ
width [] = 0
width (x ∷ xs) = width_of x + width xs
