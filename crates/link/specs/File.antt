-- The link checker's file and text (02, K12): a 16-bit piece count, at most 512, that many 32-bit lengths, little-endian, then the bodies.
use Rattle.std.specs.Prelude.{Bool, cond, ◌||◌, List, [], ◌++◌, ℕ, zero, suc, ◌+◌, ◌*◌, length, take, drop, ltb}
use Rattle.buffer.specs.Le.{number_at}
use Rattle.banner.specs.declared.Features.{Features}
use Rattle.stream.specs.Stream.{Entry, trace_of}
use Rattle.text.specs.Line.{Piece, text_of}
use Rattle.link.specs.Lines.{lines_of, end_line, end_of}

-- ---- the file

abbrev pub count_of : List ℕ → ℕ
count_of file = number_at 2 0 file

-- the lengths of a table, added up
unfoldable pub sum_of : ℕ → List ℕ → ℕ
sum_of zero table = 0
sum_of (suc n) table = number_at 4 0 table + sum_of n (drop 4 table)

abbrev pub table_of : List ℕ → List ℕ
table_of file = take (4 * count_of file) (drop 2 file)

abbrev pub length_of : List ℕ → ℕ
length_of file = sum_of (count_of file) (table_of file)

-- behind the table
abbrev pub behind_table : List ℕ → List ℕ
behind_table file = drop (4 * count_of file) (drop 2 file)

-- the count is above 512, or the file ends before the table does
abbrev pub no_table : List ℕ → Bool
no_table file = ltb (length file) 2 || (ltb 512 (count_of file) || ltb (length (drop 2 file)) (4 * count_of file))

-- the bytes of all bodies, as far as they are there: where the pieces end makes no difference. Bytes behind the last body are not read
abbrev pub bodies_of : List ℕ → List ℕ
bodies_of file = cond (no_table file) [] (take (length_of file) (behind_table file))

-- there is no table, or the file ends before all bodies do
abbrev pub is_bad : List ℕ → Bool
is_bad file = no_table file || ltb (length (behind_table file)) (length_of file)

-- ---- the text

-- own features 1 and 0
abbrev pub ours : Features
ours = record { supported = 1; required = 0 }

-- demand 3's list for the bodies
abbrev pub entries_of : List ℕ → List ℕ → List Entry
entries_of file store = (trace_of ours (bodies_of file) store).entries

abbrev pub link_lines : List ℕ → List ℕ → List Piece
link_lines file store = lines_of 0 (entries_of file store) ++ end_line (end_of (is_bad file) (length (bodies_of file)) 0 (entries_of file store))

-- THE DEFINITION: the text for a file, with a store
unfoldable pub link_text : List ℕ → List ℕ → List ℕ
link_text file store = text_of (link_lines file store)
