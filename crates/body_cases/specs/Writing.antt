-- W records: a body is written at a buffer's front.
use Rattle.std.specs.Prelude.{◌≡◌, Bool, not, ◌&&◌, ◌||◌, Result, Ok, Err, IfOk, List, [], ◌∷◌, ℕ, ◌+◌, ◌*◌, ◌≤◌, min, leb, take, drop, get_or}
use Rattle.refusal.specs.Writes.{Done}
use Rattle.buffer.specs.Le.{number_at}
use Rattle.fields.specs.declared.Fault.{Fault}
use Rattle.fields.specs.declared.Span.{Span}
use Rattle.fields.specs.declared.NumberList.{NumberList}
use Rattle.fields.specs.Layout.{Kind, Cursor, good, fault, step_of}
use Rattle.fields.specs.Layout as kind
use Rattle.fields.specs.Field.{Field, number, negative, numbers, payload, opaque, fixed, words_of, numbers_from, bytes_from}
use Rattle.fields.specs.Reading.{span_in, numbers_in}
use Rattle.bodies.specs.declared.Request.{Request}
use Rattle.bodies.specs.Table.{Found, listed, unlisted, layout_of}
use Rattle.bodies.specs.Rows.{requested}
use Rattle.bodies.specs.Write.{write_body}
use Rattle.records.specs.Records.{done_line, Record, allowed, whole, counted}
use Rattle.records.specs.Records as records
use Rattle.body_cases.specs.declared.writing.Asked.{Asked}

-- ---- fields as a record gives them: each number as in the body, the error as its 32 bits, a stamp as 8 bytes; a list is count u8,
-- at most 64, and that many u32; an address, block or payload is length u32, at most 65,536, and bytes

abbrev pub field_given : Kind → List ℕ → ℕ → Field
field_given (kind.number w) s i = number w (number_at w i s)
field_given kind.negative s i = negative (number_at 4 i s)
field_given kind.numbers s i = numbers (words_of (min (number_at 1 i s) 64) (drop (i + 1) s))
field_given kind.payload s i = payload (take (number_at 4 i s) (drop (i + 4) s))
field_given (kind.opaque k) s i = opaque k (take (number_at 4 i s) (drop (i + 4) s))
field_given (kind.fixed w) s i = fixed w (take w (drop i s))

-- a limit that is broken fails
abbrev pub limited : Bool → Cursor → Cursor
limited ok c = record { at = c.at; failed = c.failed || not ok }

-- where a field ends that starts at the cursor; one that is cut off by the record's end fails
abbrev pub past_given : Kind → List ℕ → Cursor → Cursor
past_given (kind.number w) s c = step_of (kind.number w) s c
past_given kind.negative s c = step_of (kind.number 4) s c
past_given kind.numbers s c = limited (leb (number_at 1 c.at s) 64) (step_of (kind.fixed (4 * number_at 1 c.at s)) s (step_of (kind.number 1) s c))
past_given kind.payload s c = limited (allowed (number_at 4 c.at s)) (step_of kind.payload s c)
past_given (kind.opaque k) s c = limited (allowed (number_at 4 c.at s)) (step_of kind.payload s c)
past_given (kind.fixed w) s c = step_of (kind.fixed w) s c

unfoldable pub fields_given : List Kind → List ℕ → Cursor → List Field
fields_given [] s c = []
fields_given (k ∷ ks) s c = field_given k s c.at ∷ fields_given ks s (past_given k s c)

unfoldable pub all_given : List Kind → List ℕ → Cursor → Cursor
all_given [] s c = c
all_given (k ∷ ks) s c = all_given ks s (past_given k s c)

-- a tag that is not listed has no fields
abbrev pub kinds_in : Found → List Kind
kinds_in (listed ks) = ks
kinds_in unlisted = []

abbrev pub kinds_for : ℕ → List Kind
kinds_for tag = kinds_in (layout_of tag)

-- ---- the record: tag u8, buffer length u32, fill u8, the tag's fields

abbrev pub given_end : List ℕ → Cursor
given_end s = all_given (kinds_for (get_or s 1 0)) s (good 7)

-- there is room for so long a buffer
unfoldable pub write_size : ℕ → List ℕ → ℕ
write_size room s = records.sized (leb (number_at 4 2 s) room && not (given_end s).failed) (given_end s).at

unfoldable pub write_of : List ℕ → Done
write_of s = write_body (get_or s 1 0) (fields_given (kinds_for (get_or s 1 0)) s (good 7)) (counted (get_or s 6 0) (number_at 4 2 s))

unfoldable pub write_record : ℕ → List ℕ → Record
write_record room s = whole (write_size room s) s (done_line (write_of s) ∷ [])

-- ---- as the code goes

-- a request with no lists and no bytes
abbrev pub alone : Request → ℕ → Asked
alone r end = record { request = r; first = numbers_from 0 0; second = numbers_from 0 0; bytes = bytes_from 0 0; end = end }

-- a field read: its value and the cursor behind it
pub record Given (k : Kind) (s : List ℕ) (c : Cursor) (f : Field) (d : Cursor) : Type 0 where
  pub next : d ≡ past_given k s c
  pub value : f ≡ field_given k s c.at

-- a list, or where it fails
abbrev pub ListGiven : List ℕ → ℕ → Result (NumberList × ℕ) Fault → Type 0
ListGiven s at (Ok x) = Given kind.numbers s (good at) (numbers (numbers_in s x.0)) (good x.1)
ListGiven s at (Err e) = fault e.at ≡ past_given kind.numbers s (good at)

-- an address, block or payload, or where it fails
pub record BytesAt (s : List ℕ) (c : Cursor) (bs : List ℕ) (d : Cursor) : Type 0 where
  pub next : d ≡ past_given kind.payload s c
  pub value : bs ≡ take (number_at 4 c.at s) (drop (c.at + 4) s)

abbrev pub BytesGiven : List ℕ → ℕ → Result (Span × ℕ) Fault → Type 0
BytesGiven s at (Ok x) = BytesAt s (good at) (span_in s x.0) (good x.1)
BytesGiven s at (Err e) = fault e.at ≡ past_given kind.payload s (good at)

-- the fields that a request holds with its lists and bytes, which are places in the record
abbrev pub fields_of : List ℕ → Asked → List Field
fields_of s a = requested a.request (numbers_in s a.first) (numbers_in s a.second) (span_in s a.bytes)

-- where the fields end
abbrev pub end_in : Result Asked Fault → Cursor
end_in (Ok a) = good a.end
end_in (Err e) = fault e.at

abbrev pub Few : Asked → Type 0
Few a = (a.first.count ≤ 64) × (a.second.count ≤ 64)

-- a request of these kinds, with lists that are not too long
pub record Asks (ks : List Kind) (s : List ℕ) (r : Result Asked Fault) : Type 0 where
  pub fields : IfOk r (λ a. fields_of s a ≡ fields_given ks s (good 7))
  pub end : end_in r ≡ all_given ks s (good 7)
  pub few : IfOk r Few

-- one that writes what the tag's fields write
pub record AsksFor (tag : ℕ) (s : List ℕ) (r : Result Asked Fault) : Type 0 where
  pub writes : IfOk r (λ a. (out : List ℕ) → write_body tag (fields_of s a) out ≡ write_body tag (fields_given (kinds_for tag) s (good 7)) out)
  pub end : end_in r ≡ all_given (kinds_for tag) s (good 7)
  pub few : IfOk r Few
