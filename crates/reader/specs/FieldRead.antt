-- What the reader's calls answer, by the cursor's definitions.
use Rattle.std.specs.Prelude.{List, ℕ, Result, Ok, Err}
use Rattle.fields.specs.declared.Fault.{Fault}
use Rattle.fields.specs.declared.Span.{Span}
use Rattle.fields.specs.declared.NumberList.{NumberList}
use Rattle.fields.specs.Layout.{Kind, good}
use Rattle.fields.specs.Field.{Field, number, negative, payload, opaque, fixed, Place, nowhere, numbers_at, bytes_at}
use Rattle.fields.specs.Field as field
use Rattle.fields.specs.Reading.{Step, read, failed, take_of, span_in, numbers_in}

-- what a field holds
pub data Content : Type 0 where
  value : ℕ → Content
  numbers : List ℕ → Content
  bytes : List ℕ → Content

abbrev pub content_of : Field → Content
content_of (number w n) = value n
content_of (negative n) = value n
content_of (field.numbers ns) = numbers ns
content_of (payload bs) = bytes bs
content_of (opaque k bs) = bytes bs
content_of (fixed w bs) = bytes bs

pub data Shown : Type 0 where
  -- what a field holds, where that stands, and the place behind it
  got : Content → Place → ℕ → Shown
  -- the place of its fault
  off : ℕ → Shown

-- of an answer x, f is what the field holds and p where that stands
abbrev pub shown : {A : Type 0} → (A → Content) → (A → Place) → Result (A × ℕ) Fault → Shown
shown f p (Ok x) = got (f x.0) (p x.0) x.1
shown f p (Err e) = off e.at

abbrev pub shown_number : Result (ℕ × ℕ) Fault → Shown
shown_number r = shown value (λ _. nowhere) r

abbrev pub shown_list : List ℕ → Result (NumberList × ℕ) Fault → Shown
shown_list s r = shown (λ l. numbers (numbers_in s l)) numbers_at r

abbrev pub shown_bytes : List ℕ → Result (Span × ℕ) Fault → Shown
shown_bytes s r = shown (λ p. bytes (span_in s p)) bytes_at r

abbrev pub show_of : Step → Shown
show_of (read f p d) = got (content_of f) p d.at
show_of (failed d) = off d.at

-- the field of a kind at a place, where it stands, and the place behind it; or the place of its fault
unfoldable pub read_at : Kind → List ℕ → ℕ → Shown
read_at k s at = show_of (take_of k s (good at))
