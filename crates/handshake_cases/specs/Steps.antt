-- P records: one side's handshake steps from hello, run as they are read.
use Rattle.std.specs.Prelude.{Result, Ok, Err, Bool, cond, ◌&&◌, List, [], ◌∷◌, ◌++◌, ℕ, zero, suc, ◌+◌, ◌/◌, ◌%◌, leb, ltb, eqb, length, get_or}
use Prim.Native.String.{String}
use Rattle.buffer.specs.Le.{number_at}
use Rattle.handshake.specs.declared.State.{State}
use Rattle.handshake.specs.declared.State.TheVariants.{Hello, Auth, More, Signature, Session, Ready, Standby, Wait, Closed}
use Rattle.handshake.specs.declared.Verdict.{Verdict}
use Rattle.refusal.specs.declared.Numbers.{Numbers}
use Rattle.handshake.specs.declared.Step.{Step}
use Rattle.handshake.specs.Table.{auth_of, find}
use Rattle.handshake.specs.Steps.{step_by}
use Rattle.handshake.specs.Runs.{Side, client, server, rows_of}
use Rattle.text.specs.Line.{Piece, word, newline}
use Rattle.records.specs.Records.{Record, refused_pieces, bad_record, line_then, read_all}

-- ---- lines

abbrev pub state_name : State → String
state_name Hello = "hello"
state_name Auth = "auth"
state_name More = "more"
state_name Signature = "signature"
state_name Session = "session"
state_name Ready = "ready"
state_name Closed = "closed"
state_name Wait = "wait"
state_name Standby = "standby"

abbrev pub report_pieces : Result (Unit {0}) Numbers → List Piece
report_pieces (Ok u) = []
report_pieces (Err w) = refused_pieces w ++ (word " " ∷ [])

-- state auth
-- refused 21 detail 9 0 0 state closed
unfoldable pub step_line : Step → List Piece
step_line t = report_pieces t.report ++ (word "state " ∷ word (state_name t.state) ∷ newline ∷ [])

-- ---- steps

-- a verdict byte: bits 0 and 1 a server's auth step, bit 2 the signature is good, bit 3 no feature is missing, bit 4 the reconnect is accepted
unfoldable pub verdict_of : ℕ → Verdict
verdict_of b =
    record {
      auth = auth_of (b % 4);
      signature = eqb (b / 4 % 2) 1;
      features = eqb (b / 8 % 2) 1;
      reconnect = eqb (b / 16 % 2) 1;
    }

-- 0 is the client, 1 the server
abbrev pub side_of : ℕ → Side
side_of b = cond (eqb b 1) server client

unfoldable pub step_of : Side → State → ℕ → ℕ → Step
step_of side σ tag b = step_by (find (rows_of side) σ tag (verdict_of b)) tag

-- ---- the record: side u8, number of steps u16, that many times (tag u8, verdict u8)

-- both bytes are there, and bits 5 to 7 of the verdict are 0
unfoldable pub step_good : List ℕ → ℕ → Bool
step_good s i = leb (i + 2) (length s) && ltb (get_or s (i + 1) 0) 32

abbrev pub step_at : List ℕ → Side → State → ℕ → Step
step_at s side σ i = step_of side σ (get_or s i 0) (get_or s (i + 1) 0)

-- n steps from place i on
unfoldable pub steps_from : List ℕ → Side → State → ℕ → ℕ → Record
steps_from s side σ zero i = read_all i
steps_from s side σ (suc n) i =
    cond (step_good s i) (line_then (step_line (step_at s side σ i)) (steps_from s side (step_at s side σ i).state n (i + 2))) bad_record

unfoldable pub steps_record : List ℕ → Record
steps_record s =
    cond (leb 4 (length s) && (leb (get_or s 1 0) 1 && leb (number_at 2 2 s) 4096))
    (steps_from s (side_of (get_or s 1 0)) Hello (number_at 2 2 s) 4)
    bad_record
