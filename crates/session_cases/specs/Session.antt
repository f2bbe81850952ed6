-- N records: a session's calls, one after the other, run as they are read.
use Rattle.std.specs.Prelude.{Result, Ok, Err, Option, Some, None, ◌≡◌, Bool, cond, ◌&&◌, List, [], ◌∷◌, ◌++◌, ℕ, zero, suc, ◌+◌, leb, eqb, length, get_or, replicate}
use Rattle.buffer.specs.Le.{number_at}
use Rattle.refusal.specs.declared.Numbers.{Numbers}
use Rattle.session.specs.declared.Session.{Session}
use Rattle.session.specs.declared.Answer.{Answer}
use Rattle.session.specs.declared.Answer.TheVariants as answer
use Rattle.session.specs.declared.Outcome.{Outcome}
use Rattle.session.specs.declared.Message.{Message}
use Rattle.session.specs.Calls.{places, held_of, accept_of, ack_of, reconnect_of, reset_of, held_at}
use Rattle.session.specs.Laws.{held_answers}
use Rattle.text.specs.Line.{Piece, raw, codes, word, number, field, newline}
use Rattle.text.specs.Page.{Page}
use Rattle.records.specs.Records.{Record, print, refused_pieces, bad_record, line_then, read_all}

-- a session after so many messages, all accepted and acknowledged
abbrev pub session_after : ℕ → Session
session_after last = record { handles = replicate places 0; released = last; last = last }

-- ---- lines

-- a message's number and handle
abbrev pub held_pieces : Result (Option Message) Numbers → List Piece
held_pieces (Ok (Some m)) = number m.number ∷ number m.handle ∷ []
held_pieces (Ok None) = []
held_pieces (Err w) = []

unfoldable pub resent_pieces : List (Result (Option Message) Numbers) → List Piece
resent_pieces [] = []
resent_pieces (h ∷ hs) = held_pieces h ++ resent_pieces hs

-- number 5
-- ack held 2, reset held 0: how many are held then
-- resend 2 5 777 6 888
-- refused 22 detail 0 0 0
abbrev pub answer_line : List ℕ → Result Answer Numbers → Session → List Piece
answer_line w (Ok (answer.Accepted n)) s = field "number" n ++ (newline ∷ [])
answer_line w (Ok answer.Done) s = raw w ∷ number (length (held_of s)) ∷ newline ∷ []
answer_line w (Ok (answer.Resend k)) s = field "resend" k ++ resent_pieces (held_answers s 0 k) ++ (newline ∷ [])
answer_line w (Err n) s = refused_pieces n ++ (newline ∷ [])

-- held 5 777
-- held none
abbrev pub held_line : Result (Option Message) Numbers → List Piece
held_line (Ok (Some m)) = word "held" ∷ number m.number ∷ number m.handle ∷ newline ∷ []
held_line (Ok None) = word "held none\n" ∷ []
held_line (Err w) = refused_pieces w ++ (newline ∷ [])

-- ---- calls

-- the session after a call, and the call's line
pub record CallLine : Type 0 where
  pub session : Session
  pub line : List Piece

abbrev pub answered : List ℕ → Outcome → CallLine
answered w o = record { session = o.session; line = answer_line w o.answer o.session }

-- call 0 accepts a message with the handle v, 1 is an ack of v, 2 a reconnect_ok with that msg_seq, 3 a reset, full where v is 1,
-- 4 asks for the held message at place v
unfoldable pub line_of : Session → ℕ → ℕ → CallLine
line_of s k v =
    cond (eqb k 0) (answered [] (accept_of s v))
    (cond (eqb k 1) (answered (codes "ack held") (ack_of s v))
    (cond (eqb k 2) (answered [] (reconnect_of s v))
    (cond (eqb k 3) (answered (codes "reset held") (reset_of s (eqb v 1)))
    (record { session = s; line = held_line (held_at s v) }))))

-- THE PROMISE OF A CALL AND ITS LINE, by what it came to, and by what it is
pub record Answered (w : List ℕ) (o : Outcome) (before after : Page) (r : Session) : Type 0 where
  pub session : r ≡ o.session
  pub printed : after ≡ print (answered w o).line before

pub record CallDid (s : Session) (k v : ℕ) (before after : Page) (r : Session) : Type 0 where
  pub session : r ≡ (line_of s k v).session
  pub printed : after ≡ print (line_of s k v).line before

-- ---- the record: last u64, number of calls u16, that many times (call u8, value u64)

abbrev pub value_at : List ℕ → ℕ → ℕ
value_at s i = number_at 8 (i + 1) s

-- one of the five calls, a reset's value 0 or 1
abbrev pub value_good : ℕ → ℕ → Bool
value_good k v = cond (eqb k 3) (leb v 1) (leb k 4)

-- with all its bytes
unfoldable pub call_good : List ℕ → ℕ → Bool
call_good s i = leb (i + 9) (length s) && value_good (get_or s i 0) (value_at s i)

abbrev pub line_at : List ℕ → Session → ℕ → CallLine
line_at s σ i = line_of σ (get_or s i 0) (value_at s i)

-- n calls from place i on
unfoldable pub calls_from : List ℕ → Session → ℕ → ℕ → Record
calls_from s σ zero i = read_all i
calls_from s σ (suc n) i =
    cond (call_good s i) (line_then (line_at s σ i).line (calls_from s (line_at s σ i).session n (i + 9))) bad_record

unfoldable pub session_record : List ℕ → Record
session_record s =
    cond (leb 11 (length s) && leb (number_at 2 9 s) 4096) (calls_from s (session_after (number_at 8 1 s)) (number_at 2 9 s) 11) bad_record
