-- What a step of the cursor answers.
use Rattle.std.specs.Prelude.{cond, List, ℕ, Result, Ok, Err, take, drop}
use Rattle.fields.specs.declared.Fault.{Fault}
use Rattle.fields.specs.declared.Span.{Span}
use Rattle.fields.specs.declared.NumberList.{NumberList}
use Rattle.fields.specs.Layout.{Kind, Cursor, good, fault, step_of}
use Rattle.fields.specs.Field.{Field, numbers, field_at, words_of, Place, nowhere, numbers_at, bytes_at, place_at}

pub data Step : Type 0 where
  -- a field, where it stands, and the cursor behind it
  read : Field → Place → Cursor → Step
  -- the cursor at its fault
  failed : Cursor → Step

-- A STEP of the cursor over a field of a kind
unfoldable pub take_of : Kind → List ℕ → Cursor → Step
take_of k s c = cond (step_of k s c).failed (failed (step_of k s c)) (read (field_at k s c.at) (place_at k s c.at) (step_of k s c))

-- ---- what the code's answers stand for

-- the bytes and the numbers at a place of the segment
abbrev pub span_in : List ℕ → Span → List ℕ
span_in s p = take p.len (drop p.at s)

abbrev pub numbers_in : List ℕ → NumberList → List ℕ
numbers_in s l = words_of l.count (drop l.at s)

-- where a field ends, or its fault
abbrev pub in_end : Result ℕ Fault → Cursor
in_end (Ok at) = good at
in_end (Err e) = fault e.at

-- of an answer x, f is the field and p where it stands
abbrev pub in_step : {A : Type 0} → (A → Field) → (A → Place) → Result (A × ℕ) Fault → Step
in_step f p (Ok x) = read (f x.0) (p x.0) (good x.1)
in_step f p (Err e) = failed (fault e.at)

abbrev pub in_number : (ℕ → Field) → Result (ℕ × ℕ) Fault → Step
in_number f r = in_step f (λ _. nowhere) r

abbrev pub in_list : List ℕ → Result (NumberList × ℕ) Fault → Step
in_list s r = in_step (λ l. numbers (numbers_in s l)) numbers_at r

abbrev pub in_span : (List ℕ → Field) → List ℕ → Result (Span × ℕ) Fault → Step
in_span f s r = in_step (λ p. f (span_in s p)) bytes_at r
