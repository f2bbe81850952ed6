-- B and F records: a banner and a frame are built.
use Rattle.std.specs.Prelude.{cond, ◌&&◌, List, [], ◌∷◌, ℕ, ◌+◌, leb, eqb, take, drop, get_or}
use Rattle.refusal.specs.Writes.{Done}
use Rattle.buffer.specs.Le.{number_at}
use Rattle.banner.specs.declared.Revision.{Revision}
use Rattle.banner.specs.declared.Revision.TheVariants.{Msgr20, Msgr21}
use Rattle.preamble.specs.Judge.{header_of}
use Rattle.builder.specs.Build.{banner_done, frame_done}
use Rattle.records.specs.Records.{done_line, Record, sized, allowed, whole, counted}

-- B: supported u64, required u64, buffer length u32, fill u8, queued u64
abbrev pub banner_size : List ℕ → ℕ
banner_size s = sized (allowed (number_at 4 17 s)) 30

unfoldable pub banner_done_of : List ℕ → Done
banner_done_of s = banner_done (number_at 8 1 s) (number_at 8 9 s) (counted (get_or s 21 0) (number_at 4 17 s)) (number_at 8 22 s)

unfoldable pub banner_record : List ℕ → Record
banner_record s = whole (banner_size s) s (done_line (banner_done_of s) ∷ [])

abbrev pub revision_by_byte : ℕ → Revision
revision_by_byte b = cond (eqb b 1) Msgr21 Msgr20

-- F: revision u8, tag, count and segments as in a preamble, abort u8, buffer length u32, fill u8, queued u64, source length u32, source bytes
abbrev pub frame_size : List ℕ → ℕ
frame_size s =
    sized
    ((leb (get_or s 1 0) 1 && leb (get_or s 28 0) 1) && (allowed (number_at 4 29 s) && allowed (number_at 4 42 s)))
    (46 + number_at 4 42 s)

unfoldable pub frame_done_of : List ℕ → Done
frame_done_of s =
    frame_done (revision_by_byte (get_or s 1 0)) (header_of (drop 2 s)) (eqb (get_or s 28 0) 1)
    (take (number_at 4 42 s) (drop 46 s)) (counted (get_or s 33 0) (number_at 4 29 s)) (number_at 8 34 s)

unfoldable pub frame_record : List ℕ → Record
frame_record s = whole (frame_size s) s (done_line (frame_done_of s) ∷ [])
