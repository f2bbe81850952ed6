-- Rows of worked examples, for every table of them: what a definition gives, and what the documents say that it gives.
use Rattle.std.specs.Prelude.{◌≡◌, List, [], ◌∷◌, ℕ}
use Rattle.refusal.specs.Refusals.{row}
use Rattle.banner.specs.declared.Features.{Features}
use Rattle.preamble.specs.declared.Segment.{Segment}
use Rattle.preamble.specs.declared.Header.{Header}
use Rattle.stream.specs.declared.Event.TheVariants.{Frame, Dropped, Refused}
use Rattle.stream.specs.Stream.{Entry, entry}

infix 70 ◌⇒◌
pub data Row (A : Type 0) : Type 0 where
  ◌⇒◌ : A → A → Row A

abbrev pub given : {A : Type 0} → List (Row A) → List A
given [] = []
given ((a ⇒ b) ∷ rs) = a ∷ given rs

abbrev pub wanted : {A : Type 0} → List (Row A) → List A
wanted [] = []
wanted ((a ⇒ b) ∷ rs) = b ∷ wanted rs

-- a table holds where its columns are the same
abbrev pub Holds : {A : Type 0} → List (Row A) → Type 0
Holds rs = given rs ≡ wanted rs

-- ---- the values in rows

abbrev pub features : ℕ → ℕ → Features
features s r = record { supported = s; required = r }

-- a length and an alignment
abbrev pub segment : ℕ → ℕ → Segment
segment n a = record { len = n; align = a }

-- a tag, a count and four segments
abbrev pub header : ℕ → ℕ → Segment → Segment → Segment → Segment → Header
header t c a b d e = record { tag = t; count = c; s1 = a; s2 = b; s3 = d; s4 = e }

-- a count and four lengths; tag 17, alignments 0
abbrev pub sized : ℕ → ℕ → ℕ → ℕ → ℕ → Header
sized c k l m n = header 17 c (segment k 0) (segment l 0) (segment m 0) (segment n 0)

-- entries by their byte and the store then; a refusal's have its number and first detail
abbrev pub frame_at : ℕ → Header → List ℕ → Entry
frame_at at h store = entry (Frame h) at store

abbrev pub drop_at : ℕ → Header → List ℕ → Entry
drop_at at h store = entry (Dropped h) at store

abbrev pub refusal_at : ℕ → ℕ → ℕ → List ℕ → Entry
refusal_at at number detail store = entry (Refused (row number detail 0 0)) at store
