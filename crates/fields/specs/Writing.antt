-- What appending a field to a draft comes to. A draft counts up to one byte above the limit of a segment, and a buffer takes what it has room for.
use Rattle.std.specs.Prelude.{◌≡◌, Bool, true, cond, Some, None, List, ℕ, ◌+◌, ◌≤◌, min, leb, ltb, eqb, length}
use Rattle.std.specs.Option.{option_or}
use Rattle.std.proofs.lemmas.List.Edits.{sets}
use Rattle.preamble.specs.Judge.{segment_limit}
use Rattle.fields.specs.declared.Draft.{Draft}
use Rattle.fields.specs.Field.{Field, number, negative, numbers, payload, opaque, fixed, field_bytes, Fits}

-- a field that reads as it is written, where its values fit
abbrev pub sound : Field → Bool
sound (number w n) = true
sound (negative n) = leb 2147483648 n
sound (numbers ns) = leb (length ns) 32
sound (payload bs) = true
sound (opaque k bs) = true
sound (fixed w bs) = eqb (length bs) w

-- how far into the field the fault is of one that does not: bytes left over are at fault at the first of them, all else at the field
abbrev pub fault_in : Field → ℕ
fault_in (number w n) = 0
fault_in (negative n) = 0
fault_in (numbers ns) = 0
fault_in (payload bs) = 0
fault_in (opaque k bs) = 0
fault_in (fixed w bs) = cond (ltb w (length bs)) w 0

abbrev pub capped : ℕ → ℕ
capped n = min n (segment_limit + 1)

abbrev pub empty : Draft
empty = record { len = 0; fault = None }

-- n bytes more; the first fault is kept
unfoldable pub counted : Bool → ℕ → ℕ → Draft → Draft
counted ok into n p =
    record {
      len = capped (p.len + n);
      fault = option_or p.fault (cond ok None (Some (capped (p.len + into))));
    }

-- a buffer with xs from a place on, as far as there is room
unfoldable pub put_at : ℕ → List ℕ → List ℕ → List ℕ
put_at at xs l = sets l at xs

-- bytes appended to the draft p and the buffer l: q and m are those behind
pub record Put (xs : List ℕ) (ok : Bool) (into : ℕ) (p : Draft) (l : List ℕ) (q : Draft) (m : List ℕ) : Type 0 where
  pub next : q ≡ counted ok into (length xs) p
  pub buffer : p.len + length xs ≤ segment_limit → m ≡ put_at p.len xs l

-- a field appended
pub record Appended (f : Field) (p : Draft) (l : List ℕ) (q : Draft) (m : List ℕ) : Type 0 where
  pub fits : Fits f
  pub bytes : Put (field_bytes f) (sound f) (fault_in f) p l q m
