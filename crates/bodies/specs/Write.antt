-- Writing a body, stated from reading it: what reads as malformed is refused with the same place, then no room with the body's length.
use Rattle.std.specs.Prelude.{Bool, cond, Option, Some, None, Result, Ok, Err, List, [], ◌∷◌, ◌++◌, ℕ, leb, length}
use Rattle.buffer.specs.Splice.{replace_front}
use Rattle.preamble.specs.Judge.{segment_limit}
use Rattle.refusal.specs.declared.Refusal.{Refusal}
use Rattle.refusal.specs.declared.Refusal.TheVariants.{BodyMalformed, NoRoom}
use Rattle.refusal.specs.Refusals.{numbers_of}
use Rattle.fields.specs.declared.Draft.{Draft}
use Rattle.fields.specs.Layout.{Kind}
use Rattle.fields.specs.Field.{Field, kind_of, field_bytes}
use Rattle.fields.specs.Writing.{Appended}
use Rattle.bodies.specs.declared.Request.{Request}
use Rattle.refusal.specs.Writes.{wrote, refused_for, Done, done}
use Rattle.bodies.specs.Table.{layout_of, is_listed}
use Rattle.bodies.specs.Read.{Answer, whole, refused, malformed, read_body}
use Rattle.bodies.specs.Rows.{requested}

unfoldable pub kinds_of : List Field → List Kind
kinds_of [] = []
kinds_of (f ∷ fs) = kind_of f ∷ kinds_of fs

unfoldable pub bytes_of : List Field → List ℕ
bytes_of [] = []
bytes_of (f ∷ fs) = field_bytes f ++ bytes_of fs

unfoldable pub write_as : Answer → List ℕ → List ℕ → Done
write_as (refused n) bs out = done (refused_for n) out
write_as (whole fs) bs out =
    cond (leb (length bs) (length out)) (done (wrote (length bs)) (replace_front bs out)) (done (refused_for (numbers_of (NoRoom (length bs)))) out)

-- A BODY WRITTEN at the buffer's front. Fields that are not the tag's are malformed at 0, as an unlisted tag is
unfoldable pub write_body : ℕ → List Field → List ℕ → Done
write_body tag fs out =
    cond (is_listed (layout_of tag) (kinds_of fs)) (write_as (read_body tag (bytes_of fs)) (bytes_of fs) out) (write_as (malformed 0) (bytes_of fs) out)

-- ---- as the code goes

-- whether a request is of the tag's body: its lists and bytes have no say in it
unfoldable pub writes : ℕ → Request → Bool
writes tag r = is_listed (layout_of tag) (kinds_of (requested r [] [] []))

-- fields appended one behind the other
pub data AppendedAll : Draft → List ℕ → List Field → Draft → List ℕ → Type 0 where
  end : {p : Draft} {l : List ℕ} → AppendedAll p l [] p l
  step : {f : Field} {fs : List Field} {p q r : Draft} {l m n : List ℕ} → Appended f p l q m → AppendedAll q m fs r n → AppendedAll p l (f ∷ fs) r n

-- the first fault, or else what follows
abbrev pub unless_fault : Option ℕ → Result ℕ Refusal → Result ℕ Refusal
unless_fault (Some at) r = Err (BodyMalformed at)
unless_fault None r = r

-- what a draft comes to with so much room
unfoldable pub judged : Draft → ℕ → Result ℕ Refusal
judged q room =
    cond (leb q.len segment_limit)
    (unless_fault q.fault
    (cond (leb q.len room) (Ok q.len) (Err (NoRoom q.len))))
    (Err (BodyMalformed 0))

unfoldable pub decided : Bool → Draft → ℕ → Result ℕ Refusal
decided served q room = cond served (judged q room) (Err (BodyMalformed 0))
