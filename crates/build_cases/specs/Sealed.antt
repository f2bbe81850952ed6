-- Y records: sealed frames are built, one after the other, with one sending state.
use Rattle.std.specs.Prelude.{◌≡◌, ℕ, ◌+◌, ◌-◌, ◌%◌, ◌^◌, false, cond, ◌&&◌, List, [], ◌∷◌, take, drop, ◌==◌, nat_le, slice_index}
use Rattle.refusal.specs.Writes.{done}
use Rattle.buffer.specs.Le.{number_at}
use Rattle.preamble.specs.Judge.{header_of}
use Rattle.secure.specs.Layout.{nonce_of}
use Rattle.sealed_builder.specs.declared.Sending.{Sending}
use Rattle.sealed_builder.specs.Build.{Done, sending_state, refused_sending, sealed_done}
use Rattle.text.specs.Line.{Piece}
use Rattle.text.specs.Page.{Page}
use Rattle.records.specs.Records.{Record, Did, done_line, sized, allowed, whole, is_whole, counted}
use Rattle.build_cases.specs.declared.Builds.{Builds}
use Rattle.build_cases.specs.declared.Part.{Part}

-- ---- lines

-- a build's line: its answer, and the checksum of the buffer that it left
abbrev pub sealed_line : Done → List Piece
sealed_line d = done_line (done d.answer d.buffer)

-- ---- sending states

-- the nonce so many parts further on: its counter wraps
abbrev pub nonce_further : List ℕ → ℕ → List ℕ
nonce_further nonce n = nonce_of nonce ((number_at 8 4 nonce + n) % 2 ^ 64)

-- that of a switch, with so many parts sealed already
abbrev pub sending_after : List ℕ → List ℕ → ℕ → Sending
sending_after key nonce spent = sending_state key (nonce_further nonce spent) spent false false

-- ---- the head: refused u8, key 16 bytes, sending nonce 12 bytes, spent u64, number of builds u16

-- with refused 1 it is what a refused switch hands back
unfoldable pub sending_of : List ℕ → Sending
sending_of s = cond (slice_index s 1 == 1) refused_sending (sending_after (take 16 (drop 2 s)) (take 12 (drop 18 s)) (number_at 8 30 s))

abbrev pub head_size : List ℕ → ℕ
head_size s = sized (nat_le (slice_index s 1) 1 && nat_le (number_at 2 38 s) 256) 40

abbrev pub head_builds : List ℕ → Builds
head_builds s = record { left = number_at 2 38 s; sending = sending_of s }

-- what a part of a record comes to: its bytes and lines, and what is left of the record
pub record PartDone : Type 0 where
  pub part : Record
  pub builds : Builds

-- a part of n bytes, behind which b is left; where it is bad, what was left before it
abbrev pub part_of : ℕ → List ℕ → List (List Piece) → Builds → Builds → PartDone
part_of n s lines b before = record { part = whole n s lines; builds = cond (is_whole n s) b before }

unfoldable pub head_part : Builds → List ℕ → PartDone
head_part before s = part_of (head_size s) s [] (head_builds s) before

-- ---- a build: tag, count and segments as in a preamble, abort u8, buffer length u32, fill u8, queued u64, source length u32, source bytes;
-- there is room for so long a buffer

abbrev pub build_size : ℕ → List ℕ → ℕ
build_size room s = sized (nat_le (slice_index s 26) 1 && (nat_le (number_at 4 27 s) room && allowed (number_at 4 40 s))) (44 + number_at 4 40 s)

unfoldable pub done_by : Sending → List ℕ → Done
done_by sending s =
    sealed_done sending (header_of s) (slice_index s 26 == 1) (take (number_at 4 40 s) (drop 44 s))
    (counted (slice_index s 31) (number_at 4 27 s)) (number_at 8 32 s)

-- the next build is given the sending state that this one hands back
abbrev pub builds_after : Builds → List ℕ → Builds
builds_after b s = record { left = b.left - 1; sending = (done_by b.sending s).sending }

unfoldable pub build_part : Builds → ℕ → List ℕ → PartDone
build_part b room s = part_of (build_size room s) s (sealed_line (done_by b.sending s) ∷ []) (builds_after b s) b

-- THE PROMISE OF A PART
pub record DidPart (d : PartDone) (s : List ℕ) (before after : Page) (r : Part) : Type 0 where
  pub step : Did d.part s before after r.taken
  pub builds : r.builds ≡ d.builds
