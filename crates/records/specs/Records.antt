-- What a record comes to: how many bytes it has, and the lines that it prints.
use Rattle.std.specs.Prelude.{◌≡◌, Bool, cond, ◌&&◌, List, [], ◌∷◌, ◌++◌, ℕ, zero, suc, ◌+◌, ◌-◌, ◌%◌, ◌≤◌, leb, ltb, length, Option, None, Some}
use Rattle.crc32c.specs.Crc.{crc_of}
use Rattle.refusal.specs.declared.Numbers.{Numbers}
use Rattle.refusal.specs.Writes.{WriteOutcome, wrote, refused_for, Done}
use Rattle.text.specs.Line.{Piece, word, number, field, hex, newline}
use Rattle.text.specs.Page.{Page, page, puts}

-- ---- lines

-- what stands at the end of most lines: the checksum of a buffer
abbrev pub sum_pieces : ℕ → List Piece
sum_pieces c = word " crc " ∷ hex c ∷ newline ∷ []

-- a refusal's number and details
abbrev pub why_pieces : Numbers → List Piece
why_pieces w = number w.number ∷ word " detail" ∷ number w.first ∷ number w.second ∷ number w.third ∷ []

-- wrote 26 crc 01234567
abbrev pub wrote_line : ℕ → ℕ → List Piece
wrote_line n c = field "wrote" n ++ sum_pieces c

-- refused 14 detail 26 0 0 crc 01234567
abbrev pub refused_pieces : Numbers → List Piece
refused_pieces w = word "refused" ∷ why_pieces w

abbrev pub refused_line : Numbers → ℕ → List Piece
refused_line w c = refused_pieces w ++ sum_pieces c

-- what a call that writes comes to
abbrev pub outcome_line : WriteOutcome → ℕ → List Piece
outcome_line (wrote n) c = wrote_line n c
outcome_line (refused_for w) c = refused_line w c

-- with the checksum of the buffer that it left
abbrev pub done_line : Done → List Piece
done_line d = outcome_line d.outcome (crc_of 4294967295 d.buffer)

abbrev pub bad_line : List Piece
bad_line = word "bad record\n" ∷ []

-- the text is collected; where there is no room for another line it is written, and begins anew
unfoldable pub roomed : Page → Page
roomed p = page p.bytes (cond (leb 32768 (length p.bytes - p.at)) p.at 0)

abbrev pub print : List Piece → Page → Page
print line p = puts line (roomed p)

unfoldable pub prints : List (List Piece) → Page → Page
prints [] p = p
prints (line ∷ lines) p = prints lines (print line p)

-- ---- records

pub record Record : Type 0 where
  pub size : ℕ
  pub lines : List (List Piece)

-- a record's size, or 0 where a field is out of its range
abbrev pub sized : Bool → ℕ → ℕ
sized good n = cond good n 0

-- a length that a record may give
abbrev pub allowed : ℕ → Bool
allowed n = leb n 65536

abbrev pub is_whole : ℕ → List ℕ → Bool
is_whole n s = ltb 0 n && leb n (length s)

-- the size of a record of which all bytes are there
abbrev pub size_in : ℕ → List ℕ → Option ℕ
size_in n s = cond (is_whole n s) (Some n) None

-- a bad record has no bytes
abbrev pub bad_record : Record
bad_record = record { size = 0; lines = bad_line ∷ [] }

-- a record of n bytes, of which all are there
unfoldable pub whole : ℕ → List ℕ → List (List Piece) → Record
whole n s lines = cond (is_whole n s) (record { size = n; lines = lines }) bad_record

-- a record that is run as it is read: a line and then the rest; all is read, n bytes
abbrev pub line_then : List Piece → Record → Record
line_then line d = record { size = d.size; lines = line ∷ d.lines }

abbrev pub read_all : ℕ → Record
read_all n = record { size = n; lines = [] }

-- how many bytes a record has: none where it is bad
abbrev pub taken_of : Option ℕ → ℕ
taken_of None = 0
taken_of (Some n) = n

-- what a step answers for so many bytes: a bad record, which has none, ends the run
abbrev pub taking : ℕ → Option ℕ
taking n = cond (ltb 0 n) (Some n) None

-- THE PROMISE OF A STEP: the record's bytes are taken, and its lines printed
pub record Did (d : Record) (s : List ℕ) (before after : Page) (r : Option ℕ) : Type 0 where
  pub taken : r ≡ taking d.size
  pub printed : after ≡ prints d.lines before
  pub within : taken_of r ≤ length s

-- ---- fields

-- n bytes: at place i the byte (first + i) mod 256
unfoldable pub counted : ℕ → ℕ → List ℕ
counted first zero = []
counted first (suc i) = counted first i ++ ((first + i) % 256 ∷ [])
