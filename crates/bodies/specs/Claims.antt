-- What the calls promise, and the round trips that follow from their promises.
use Rattle.std.specs.Prelude.{◌≡◌, true, Result, Ok, List, [], ◌∷◌, ℕ, ◌≤◌, length, take}
use Rattle.buffer.specs.Le.{Bytes}
use Rattle.buffer.specs.Splice.{replace_front}
use Rattle.preamble.specs.Judge.{segment_limit}
use Rattle.fields.specs.Field.{Field, Fits}
use Rattle.fields.specs.Writing.{sound}
use Rattle.bodies.specs.declared.Body.{Body}
use Rattle.bodies.specs.declared.Request.{Request}
use Rattle.refusal.specs.declared.Refusal.{Refusal}
use Rattle.refusal.specs.Writes.{done, outcome_of}
use Rattle.bodies.specs.Rows.{requested}
use Rattle.bodies.specs.Read.{whole, read_body, answer_of}
use Rattle.bodies.specs.ByTag.{body_of}
use Rattle.bodies.specs.Write.{bytes_of, write_body, writes}

-- THE PROMISE of `read`
pub record Reads (tag : ℕ) (s : List ℕ) (b : Result Body Refusal) : Type 0 where
  -- its numbers, and the places of its lists and bytes
  pub body : b ≡ body_of tag s
  -- what stands there
  pub answer : answer_of s b ≡ read_body tag s

pub data AllFit : List Field → Type 0 where
  none : AllFit []
  one : {f : Field} {fs : List Field} → Fits f → AllFit fs → AllFit (f ∷ fs)

-- THE PROMISE of `write`, with the fields that a request holds: l is the buffer then
pub record Writes (tag : ℕ) (fs : List Field) (out : List ℕ) (w : Result ℕ Refusal) (l : List ℕ) : Type 0 where
  pub outcome : done (outcome_of w) l ≡ write_body tag fs out
  -- the values are of the code's types
  pub fits : AllFit fs

-- a request that is no malformed one: its lists hold at most 32 numbers, its error is below zero, its stamp has eight bytes
unfoldable pub AllSound : List Field → Type 0
AllSound [] = Unit {0}
AllSound (f ∷ fs) = (sound f ≡ true) × AllSound fs

-- fields that some request holds
pub data Requested (fs : List Field) : Type 0 where
  holds : (r : Request) (ms ns bs : List ℕ) → requested r ms ns bs ≡ fs → Requested fs

-- THE CLAIM, of a request r with its two lists ms and ns and its bytes bs
unfoldable pub RoundTrips : Type 0
RoundTrips =
    -- every request of a tag's body is written, byte for byte, that is no malformed one, no longer than a segment, and has room
    ((tag : ℕ) (r : Request) (ms ns bs out l : List ℕ) (w : Result ℕ Refusal)
    → writes tag r ≡ true → AllSound (requested r ms ns bs) → length (bytes_of (requested r ms ns bs)) ≤ segment_limit → length (bytes_of (requested r ms ns bs)) ≤ length out
    → Writes tag (requested r ms ns bs) out w l
    → (w ≡ Ok (length (bytes_of (requested r ms ns bs)))) × (l ≡ replace_front (bytes_of (requested r ms ns bs)) out))
    -- reading what was written gives it back
    × ((tag n : ℕ) (r : Request) (ms ns bs out l : List ℕ) (b : Result Body Refusal)
    → Writes tag (requested r ms ns bs) out (Ok n) l → Reads tag (take n l) b → answer_of (take n l) b ≡ whole (requested r ms ns bs))
    -- every body that is not refused holds some request's fields
    × ((s : List ℕ) (b : Result Body Refusal) (fs : List Field) → answer_of s b ≡ whole fs → Requested fs)
    -- and what is read and written again, where there is room, is the same bytes
    × ((tag : ℕ) (s : List ℕ) (b : Result Body Refusal) (r : Request) (ms ns bs out l : List ℕ) (w : Result ℕ Refusal)
    → Bytes s → Reads tag s b → answer_of s b ≡ whole (requested r ms ns bs) → length s ≤ length out → Writes tag (requested r ms ns bs) out w l
    → (w ≡ Ok (length s)) × (l ≡ replace_front s out))
