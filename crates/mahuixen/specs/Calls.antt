-- Demand 3 of calls that C makes: a list of them, each for a piece or a try to switch, is, call by call, a list of calls of the connection.
use Rattle.std.specs.Prelude.{◌≡◌, List, [], ◌∷◌, ℕ, ◌+◌}
use Rattle.refusal.specs.Refusals.{judged_by}
use Rattle.banner.specs.declared.Features.{Features}
use Rattle.receiver.specs.Calls.{piece_at}
use Rattle.connection.specs.declared.Received.{Received}
use Rattle.connection.specs.declared.Switched.{Switched}
use Rattle.connection.specs.Step.{begun}
use Rattle.connection.specs.Calls as connection
use Rattle.connection.specs.Calls.{Piece, Try, Call, Chained, switch_by, AsSwitched}
use Rattle.abi_receiver.specs.Words.{report_words, number_of}
use Rattle.abi_connection.specs.Words.{AbiConnection, abi_of, AbiReceived, handed, kind_in, taken_in, ReceivedBy, AbiStarted, AbiSwitched, switched, sending_words, AbiSwitchedWith}

-- a call by C: the size of the piece that it lent, the number that was answered, what it was handed back, and the store then
pub record AbiPiece : Type 0 where
  pub size : ℕ
  pub number : ℕ
  pub received : AbiReceived
  pub store : List ℕ

-- a try to switch: what it was given, and what it was handed back
pub record AbiTry : Type 0 where
  pub key : List ℕ
  pub receiving : List ℕ
  pub sending : List ℕ
  pub switched : AbiSwitched

pub data AbiCall : Type 0 where
  taking : AbiPiece → AbiCall
  switching : AbiTry → AbiCall

-- each meets the promise of `mahuixen_receive_in` or `mahuixen_switch_in`, from the state and the store that the last one left
abbrev pub AbiChained : List ℕ → AbiConnection → List ℕ → ℕ → List AbiCall → Type 0
AbiChained stream p s t [] = Unit {0}
AbiChained stream p s t (taking c ∷ cs) =
    ReceivedBy p s (piece_at stream t c.size) c.number c.received c.store
    × AbiChained stream c.received.state c.store (t + taken_in c.received) cs
AbiChained stream p s t (switching c ∷ cs) =
    AbiSwitchedWith p c.key c.receiving c.sending c.switched × AbiChained stream c.switched.state s t cs

-- the ABI form of a call of the connection: the same piece and store, the words of its state and its report, and the report's kind as the number that is answered
abbrev pub abi_received : Received → AbiReceived
abi_received r = handed (abi_of r.state) (report_words r.taken r.report)

abbrev pub abi_switched : Switched → AbiSwitched
abi_switched r = switched (number_of (judged_by r.judgement)) (abi_of r.state) (sending_words r.sending)

abbrev pub abi_piece : Piece → AbiPiece
abi_piece c = record { size = c.size; number = kind_in (abi_received c.received); received = abi_received c.received; store = c.store }

abbrev pub abi_try : Try → AbiTry
abi_try c = record { key = c.key; receiving = c.receiving; sending = c.sending; switched = abi_switched c.switched }

abbrev pub abi_calls : List Call → List AbiCall
abi_calls [] = []
abi_calls (connection.taking c ∷ cs) = taking (abi_piece c) ∷ abi_calls cs
abi_calls (connection.switching c ∷ cs) = switching (abi_try c) ∷ abi_calls cs

-- THE CLAIM, of calls by C on a stream, from a start with the features own and from a store: they are, call by call, calls of the connection, of which demand 3 holds
pub record AbiDefined (own : Features) (stream store : List ℕ) (ps : List AbiCall) : Type 0 where
  pub calls : List Call
  pub abi : ps ≡ abi_calls calls
  pub chained : Chained stream (begun own) store 0 calls
  pub defined : AsSwitched own stream store calls (switch_by 0 calls)

unfoldable pub AbiDemand3 : Type 0
AbiDemand3 =
    (own : Features) (n : ℕ) (p : AbiConnection) → AbiStarted own n p
    → (stream store : List ℕ) (ps : List AbiCall) → AbiChained stream p store 0 ps → AbiDefined own stream store ps
