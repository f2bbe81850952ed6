-- Reading a body by its layout: its fields, or refusal 20 with the place of the fault.
use Rattle.std.specs.Prelude.{cond, List, [], ◌∷◌, ℕ, Result, Ok, Err, leb, eqb, length}
use Rattle.preamble.specs.Judge.{segment_limit}
use Rattle.refusal.specs.declared.Numbers.{Numbers}
use Rattle.refusal.specs.declared.Refusal.{Refusal}
use Rattle.refusal.specs.declared.Refusal.TheVariants.{BodyMalformed}
use Rattle.refusal.specs.Refusals.{numbers_of}
use Rattle.fields.specs.Layout.{Kind, Cursor, good, step_of}
use Rattle.fields.specs.Field.{Field, field_at}
use Rattle.fields.specs.Reading.{span_in, numbers_in}
use Rattle.bodies.specs.declared.Body.{Body}
use Rattle.bodies.specs.declared.Body.TheVariants as body
use Rattle.bodies.specs.Rows.{hello_of, auth_request_of, bad_method_of, more_of, auth_done_of, ident_of, reconnect_of, one_number_of, reset_of, stamp_of}
use Rattle.bodies.specs.Table.{Found, listed, unlisted, layout_of}

-- all fields, one behind the other: the cursor then, and what they hold
abbrev pub run : List Kind → List ℕ → Cursor → Cursor
run [] s c = c
run (k ∷ ks) s c = run ks s (step_of k s c)

abbrev pub fields_of : List Kind → List ℕ → Cursor → List Field
fields_of [] s c = []
fields_of (k ∷ ks) s c = field_at k s c.at ∷ fields_of ks s (step_of k s c)

pub data Answer : Type 0 where
  whole : List Field → Answer
  refused : Numbers → Answer

abbrev pub malformed : ℕ → Answer
malformed at = refused (numbers_of (BodyMalformed at))

-- the answer, unless a field failed or a byte is left over
unfoldable pub settled : List ℕ → Cursor → Answer → Answer
settled s c a = cond c.failed (malformed c.at) (cond (eqb c.at (length s)) a (malformed c.at))

abbrev pub read_of : List Kind → List ℕ → Answer
read_of ks s = settled s (run ks s (good 0)) (whole (fields_of ks s (good 0)))

abbrev pub read_by : Found → List ℕ → Answer
read_by (listed ks) s = read_of ks s
read_by unlisted s = malformed 0

-- A BODY READ. One with an unlisted tag, or above the limit of a segment, is malformed at 0
unfoldable pub read_body : ℕ → List ℕ → Answer
read_body tag s = cond (leb (length s) segment_limit) (read_by (layout_of tag) s) (malformed 0)

-- what the code's answer stands for
abbrev pub answer_of : List ℕ → Result Body Refusal → Answer
answer_of s (Ok (body.Hello entityType address)) = whole (hello_of entityType (span_in s address))
answer_of s (Ok (body.AuthRequest method modes payload)) = whole (auth_request_of method (numbers_in s modes) (span_in s payload))
answer_of s (Ok (body.BadMethod method error methods modes)) = whole (bad_method_of method error (numbers_in s methods) (numbers_in s modes))
answer_of s (Ok (body.More payload)) = whole (more_of (span_in s payload))
answer_of s (Ok (body.AuthDone globalId mode payload)) = whole (auth_done_of globalId mode (span_in s payload))
answer_of s (Ok (body.Ident addresses block i)) = whole (ident_of addresses (span_in s block) i)
answer_of s (Ok (body.Reconnect addresses block k)) = whole (reconnect_of addresses (span_in s block) k)
answer_of s (Ok (body.Number n)) = whole (one_number_of n)
answer_of s (Ok (body.Reset full)) = whole (reset_of full)
answer_of s (Ok (body.Stamp p)) = whole (stamp_of (span_in s p))
answer_of s (Err r) = refused (numbers_of r)

-- ---- as the code goes

abbrev pub malformed_body : ℕ → Result Body Refusal
malformed_body at = Err (BodyMalformed at)

-- the body, unless a field failed or a byte is left over
unfoldable pub settled_body : List ℕ → Cursor → Result Body Refusal → Result Body Refusal
settled_body s c b = cond c.failed (malformed_body c.at) (cond (eqb c.at (length s)) b (malformed_body c.at))
