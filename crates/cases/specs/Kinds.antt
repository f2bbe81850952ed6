-- THE RECORD that input begins with, by its first byte.
use Rattle.std.specs.Prelude.{true, false, cond, List, ℕ, ltb, eqb, get_or}
use Rattle.records.specs.Records.{Record, bad_record}
use Rattle.session_cases.specs.Session.{session_record}
use Rattle.handshake_cases.specs.Steps.{steps_record}
use Rattle.handshake_cases.specs.Modes.{mode_record}
use Rattle.sealing_cases.specs.Sealing.{sealing_record}
use Rattle.body_cases.specs.Reading.{read_record}
use Rattle.body_cases.specs.Writing.{write_record}
use Rattle.connection_cases.specs.Calls.{receiver_record}
use Rattle.build_cases.specs.declared.Builds.{Builds}
use Rattle.build_cases.specs.Sealed.{PartDone, head_part, build_part}
use Rattle.cases.specs.Checksums.{checksum_record}
use Rattle.cases.specs.Builds.{banner_record, frame_record}

-- a stream that is received, with the longest store; it has 65,536 bytes, as the longest buffer has
unfoldable pub stream_record : List ℕ → Record
stream_record s =
    cond (eqb (get_or s 0 0) 0x52) (receiver_record false false 65536 s)
    (cond (eqb (get_or s 0 0) 0x58) (receiver_record true false 65536 s)
    (cond (eqb (get_or s 0 0) 0x54) (receiver_record true true 65536 s)
    bad_record))

-- what is sealed, opened or written into a buffer
unfoldable pub buffer_record : List ℕ → Record
buffer_record s =
    cond (eqb (get_or s 0 0) 0x53) (sealing_record false 65536 s)
    (cond (eqb (get_or s 0 0) 0x4F) (sealing_record true 65536 s)
    (cond (eqb (get_or s 0 0) 0x57) (write_record 65536 s)
    (stream_record s)))

-- kinds that have a crate of their own
unfoldable pub other_record : List ℕ → Record
other_record s =
    cond (eqb (get_or s 0 0) 0x4E) (session_record s)
    (cond (eqb (get_or s 0 0) 0x50) (steps_record s)
    (cond (eqb (get_or s 0 0) 0x4D) (mode_record s)
    (cond (eqb (get_or s 0 0) 0x48) (read_record s)
    (buffer_record s))))

unfoldable pub record_of : List ℕ → Record
record_of s =
    cond (eqb (get_or s 0 0) 0x43) (checksum_record s)
    (cond (eqb (get_or s 0 0) 0x42) (banner_record s)
    (cond (eqb (get_or s 0 0) 0x46) (frame_record s)
    (other_record s)))

-- WHAT COMES NEXT: a build of a record that is not at its end, the head of one, or a record that is read at once
unfoldable pub next_of : Builds → List ℕ → PartDone
next_of b s =
    cond (ltb 0 b.left) (build_part b 65536 s)
    (cond (eqb (get_or s 0 0) 0x59) (head_part b s) (record { part = record_of s; builds = b }))
