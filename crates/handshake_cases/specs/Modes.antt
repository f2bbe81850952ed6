-- M records: the server picks a mode.
use Rattle.std.specs.Prelude.{Option, Some, None, ◌&&◌, List, [], ◌∷◌, ◌++◌, ℕ, ◌+◌, ◌*◌, leb, drop, get_or}
use Rattle.fields.specs.Field.{words_of}
use Rattle.handshake.specs.Pick.{pick_of}
use Rattle.text.specs.Line.{Piece, word, field, newline}
use Rattle.records.specs.Records.{Record, sized, whole}

-- mode 2
-- mode none
abbrev pub mode_line : Option ℕ → List Piece
mode_line (Some n) = field "mode" n ++ (newline ∷ [])
mode_line None = word "mode none\n" ∷ []

-- client's count u8, that many u32, own count u8, that many u32
abbrev pub own_at : List ℕ → ℕ
own_at s = 2 + 4 * get_or s 1 0

abbrev pub mode_size : List ℕ → ℕ
mode_size s = sized (leb (get_or s 1 0) 32 && leb (get_or s (own_at s) 0) 32) (own_at s + 1 + 4 * get_or s (own_at s) 0)

unfoldable pub picked_of : List ℕ → Option ℕ
picked_of s = pick_of (words_of (get_or s 1 0) (drop 2 s)) (words_of (get_or s (own_at s) 0) (drop (own_at s + 1) s))

unfoldable pub mode_record : List ℕ → Record
mode_record s = whole (mode_size s) s (mode_line (picked_of s) ∷ [])
