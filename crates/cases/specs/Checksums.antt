-- C records: start u32, length u32, bytes.
use Rattle.std.specs.Prelude.{List, [], ◌∷◌, ℕ, ◌+◌, take, drop}
use Rattle.buffer.specs.Le.{number_at}
use Rattle.crc32c.specs.Crc.{crc_of}
use Rattle.text.specs.Line.{Piece, word, hex, newline}
use Rattle.records.specs.Records.{Record, sized, allowed, whole}

abbrev pub checksum_size : List ℕ → ℕ
checksum_size s = sized (allowed (number_at 4 5 s)) (9 + number_at 4 5 s)

-- crc 1cf96d7c
abbrev pub checksum_line : ℕ → List Piece
checksum_line c = word "crc " ∷ hex c ∷ newline ∷ []

unfoldable pub checksum_record : List ℕ → Record
checksum_record s = whole (checksum_size s) s (checksum_line (crc_of (number_at 4 1 s) (take (number_at 4 5 s) (drop 9 s))) ∷ [])
