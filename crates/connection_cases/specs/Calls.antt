-- R, X and T records: a receiving side is started, and calls are made, one after the other; among them X and T have tries to switch, and a call of T lends a store of
-- its own length.
use Rattle.std.specs.Prelude.{◌≡◌, Bool, false, cond, List, [], ◌∷◌, ◌++◌, ℕ, ◌+◌, take, drop, get_or}
use Rattle.buffer.specs.Le.{number_at}
use Rattle.crc32c.specs.Crc.{crc_of}
use Rattle.refusal.specs.Refusals.{Judged, fine, refused}
use Rattle.banner.specs.declared.Features.{Features}
use Rattle.banner.specs.Banner.{judge_own}
use Rattle.preamble.specs.declared.Header.{Header}
use Rattle.sealed_receiver.specs.State.{receiving_state}
use Rattle.sealed_builder.specs.declared.Sending.{Sending}
use Rattle.sealed_builder.specs.Build.{Done, sealed_done}
use Rattle.connection.specs.declared.State.{State}
use Rattle.connection.specs.declared.Received.{Received}
use Rattle.connection.specs.Step.{Answer, answer, begun, judge_switch, switched_state, switched_sending}
use Rattle.text.specs.Line.{Piece, codes}
use Rattle.text.specs.Page.{Page}
use Rattle.records.specs.Records.{prints, Record, whole, counted}
use Rattle.build_cases.specs.Sealed.{sealed_line, nonce_further}
use Rattle.connection_cases.specs.declared.places.Layout.{Layout}
use Rattle.connection_cases.specs.declared.places.Call.{Call}
use Rattle.connection_cases.specs.declared.Called.{Called}
use Rattle.connection_cases.specs.Lines.{judgement_line, report_line}
use Rattle.connection_cases.specs.Places.{layout_of, calls_at, calls_of, stream_at, stream_of, calls_from, is_try, try_at, receiver_size}

-- ---- a call for a piece

-- what a call answers that lends the front of a store; behind it the store stays
unfoldable pub lent_answer : State → List ℕ → List ℕ → ℕ → Answer
lent_answer st s piece lent =
    record {
      received = (answer st (take lent s) piece).received;
      store = (answer st (take lent s) piece).store ++ drop lent s;
    }

-- THE PROMISE OF SUCH A CALL
pub record LentAnswer (st : State) (s piece : List ℕ) (lent : ℕ) (r : Received) (s' : List ℕ) : Type 0 where
  pub received : r ≡ (lent_answer st s piece lent).received
  pub store : s' ≡ (lent_answer st s piece lent).store

-- its line, with the checksum of the whole store as it then is
abbrev pub call_line : Answer → List Piece
call_line a = report_line a.received.report a.received.taken (crc_of 4294967295 a.store)

-- a call that is given what is left of a stream, or as much of it as its piece is long
abbrev pub call_answer : State → Call → List ℕ → List ℕ → Answer
call_answer st x rest s = lent_answer st s (take x.number rest) x.lent

-- what a call comes to: the state, the bytes taken and the store that it leaves, and its lines
pub record Outcome : Type 0 where
  pub state : State
  pub taken : ℕ
  pub store : List ℕ
  pub lines : List (List Piece)

abbrev pub answer_outcome : Answer → Outcome
answer_outcome a = record { state = a.received.state; taken = a.received.taken; store = a.store; lines = call_line a ∷ [] }

-- ---- a try to switch

-- the receiving direction where it is after so many parts
abbrev pub with_opened : State → ℕ → State
with_opened st n =
    record {
      mode = st.mode;
      ready = st.ready;
      crc = st.crc;
      sealed = record {
        position = st.sealed.position;
        known = record {
          receiving = receiving_state st.sealed.known.receiving.key (nonce_further st.sealed.known.receiving.nonce n) n false;
          header = st.sealed.known.header;
          refusal = st.sealed.known.refusal;
        };
      };
    }

-- a switch that was refused left all as it was
abbrev pub opened_by : Judged → State → ℕ → State
opened_by fine st n = with_opened st n
opened_by (refused w) st n = st

-- an empty frame of tag 16, into a buffer of 96 bytes
abbrev pub empty_header : Header
empty_header =
    record { tag = 16; count = 1; s1 = record { len = 0; align = 0 }; s2 = record { len = 0; align = 0 }; s3 = record { len = 0; align = 0 }; s4 = record { len = 0; align = 0 } }

unfoldable pub empty_done : Sending → Done
empty_done sending = sealed_done sending empty_header false [] (counted 0 96) 0

-- s is the record, and i where the switch stands in it. Its lines: whether it was refused, and a build with the sending state that it handed back
unfoldable pub try_outcome : List ℕ → ℕ → State → List ℕ → Outcome
try_outcome s i st store =
    record {
      state = opened_by (judge_switch st) (switched_state (judge_switch st) st (take 16 (drop i s)) (take 12 (drop (i + 16) s))) (number_at 8 (i + 40) s);
      taken = 0;
      store = store;
      lines =
          judgement_line (codes "switch") (judge_switch st)
          ∷ sealed_line (empty_done (switched_sending (judge_switch st) (take 16 (drop i s)) (take 12 (drop (i + 28) s))))
          ∷ [];
    }

-- ---- calls, one after the other

unfoldable pub call_outcome : Layout → List ℕ → State → Call → List ℕ → List ℕ → Outcome
call_outcome l s st x rest store = cond (is_try l x.number) (try_outcome s (try_at l x.number) st store) (answer_outcome (call_answer st x rest store))

-- THE PROMISE OF A CALL AND ITS LINES
pub record CallDid (o : Outcome) (before : Page) (store' : List ℕ) (after : Page) (r : Called) : Type 0 where
  pub state : r.state ≡ o.state
  pub taken : r.taken ≡ o.taken
  pub store : store' ≡ o.store
  pub printed : after ≡ prints o.lines before

-- THE LINES OF CALLS
unfoldable pub call_lines : Layout → List ℕ → List Call → List ℕ → State → List ℕ → List (List Piece)
call_lines l s [] stream st store = []
call_lines l s (x ∷ xs) stream st store =
    (call_outcome l s st x stream store).lines
    ++ call_lines l s xs (drop (call_outcome l s st x stream store).taken stream) (call_outcome l s st x stream store).state (call_outcome l s st x stream store).store

-- ---- the record

abbrev pub own_of : List ℕ → Features
own_of s = record { supported = number_at 8 1 s; required = number_at 8 9 s }

unfoldable pub receiver_lines : Layout → List ℕ → List (List Piece)
receiver_lines l s =
    judgement_line (codes "start") (judge_own (number_at 8 1 s) (number_at 8 9 s))
    ∷ call_lines l s (calls_from l.lends s (calls_of l s) (calls_at l))
    (take (stream_of l s) (drop (stream_at l s + 4) s))
    (begun (own_of s))
    (counted (get_or s 21 0) (number_at 4 17 s))

-- R has no switches; T's calls say how much of the store they lend
unfoldable pub receiver_record : Bool → Bool → ℕ → List ℕ → Record
receiver_record switches lends room s = whole (receiver_size room (layout_of switches lends s) s) s (receiver_lines (layout_of switches lends s) s)
