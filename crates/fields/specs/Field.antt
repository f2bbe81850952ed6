-- Filled fields: their bytes, and of a field that starts at a place of a segment what it holds and where that stands.
use Rattle.std.specs.Prelude.{List, [], ◌∷◌, ◌++◌, ℕ, zero, suc, ◌+◌, ◌-◌, ◌^◌, ◌<◌, ℤ, pos, negsuc, length, take, drop, get_or}
use Rattle.buffer.specs.Le.{le, le_of, number_at, words}
use Rattle.fields.specs.declared.Span.{Span}
use Rattle.fields.specs.declared.NumberList.{NumberList}
use Rattle.fields.specs.Layout.{Kind}
use Rattle.fields.specs.Layout as kind

pub data Field : Type 0 where
  -- its width in bytes, and the number
  number : ℕ → ℕ → Field
  -- its 32 bits
  negative : ℕ → Field
  numbers : List ℕ → Field
  payload : List ℕ → Field
  -- how many closing bytes follow, and the bytes
  opaque : ℕ → List ℕ → Field
  -- how many bytes there are to be, and the bytes
  fixed : ℕ → List ℕ → Field

abbrev pub kind_of : Field → Kind
kind_of (number w n) = kind.number w
kind_of (negative n) = kind.negative
kind_of (numbers ns) = kind.numbers
kind_of (payload bs) = kind.payload
kind_of (opaque k bs) = kind.opaque k
kind_of (fixed w bs) = kind.fixed w

-- the 32 bits of a signed number
abbrev pub bits_of : ℤ → ℕ
bits_of (pos n) = n
bits_of (negsuc n) = 4294967295 - n

-- so many 32-bit numbers at the front of a list of bytes
unfoldable pub words_of : ℕ → List ℕ → List ℕ
words_of zero t = []
words_of (suc n) t = le_of (take 4 t) ∷ words_of n (drop 4 t)

abbrev pub field_bytes : Field → List ℕ
field_bytes (number w n) = le w n
field_bytes (negative n) = le 4 n
field_bytes (numbers ns) = le 4 (length ns) ++ words ns
field_bytes (payload bs) = le 4 (length bs) ++ bs
field_bytes (opaque k bs) = bs
field_bytes (fixed w bs) = bs

abbrev pub field_at : Kind → List ℕ → ℕ → Field
field_at (kind.number w) s at = number w (number_at w at s)
field_at kind.negative s at = negative (number_at 4 at s)
field_at kind.numbers s at = numbers (words_of (number_at 4 at s) (drop (at + 4) s))
field_at kind.payload s at = payload (take (number_at 4 at s) (drop (at + 4) s))
field_at (kind.opaque k) s at = opaque k (take (length s - k - at) (drop at s))
field_at (kind.fixed w) s at = fixed w (take w (drop at s))

-- ---- where it stands: a number is not looked up, a list is so many numbers from a place on, all else so many bytes

pub data Place : Type 0 where
  nowhere : Place
  numbers_at : NumberList → Place
  bytes_at : Span → Place

abbrev pub numbers_from : ℕ → ℕ → NumberList
numbers_from at count = record { at = at; count = count }

abbrev pub bytes_from : ℕ → ℕ → Span
bytes_from at len = record { at = at; len = len }

-- (02, K6; 000, "Hello" to "Message exchange") a list stands behind its 32-bit count, a payload behind its 32-bit length, and opaque bytes reach up to the closing ones
abbrev pub place_at : Kind → List ℕ → ℕ → Place
place_at (kind.number w) s at = nowhere
place_at kind.negative s at = nowhere
place_at kind.numbers s at = numbers_at (numbers_from (at + 4) (number_at 4 at s))
place_at kind.payload s at = bytes_at (bytes_from (at + 4) (number_at 4 at s))
place_at (kind.opaque k) s at = bytes_at (bytes_from at (length s - k - at))
place_at (kind.fixed w) s at = bytes_at (bytes_from at w)

-- each of the numbers is one of 32 bits
pub record WordsFit (ns : List ℕ) : Type 0 where
  pub at : (i : ℕ) → i < length ns → get_or ns i 0 < 4294967296

-- values of the types that the code has for them
unfoldable pub Fits : Field → Type 0
Fits (number w n) = n < 256 ^ w
Fits (negative n) = n < 4294967296
Fits (numbers ns) = WordsFit ns
Fits (payload bs) = Unit {0}
Fits (opaque k bs) = Unit {0}
Fits (fixed w bs) = Unit {0}
