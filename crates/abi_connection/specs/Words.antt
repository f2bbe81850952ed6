-- The calls of the receiving side of a connection over words: a mode and a mark, and the words of its two parts. A call promises the words of what `answer`, `begun` and
-- `judge_switch` of the connection say. The part that is not in use is not looked at, and is handed back as it came.
use Rattle.std.specs.Prelude.{◌≡◌, List, Bool, true, cond, ◌&&◌, ℕ, leb, eqb, get_or}
use Rattle.refusal.specs.declared.Refusal.TheVariants as refusal
use Rattle.refusal.specs.Refusals.{Judged, fine, refused, refusal_number, contradiction}
use Rattle.banner.specs.declared.Features.{Features}
use Rattle.banner.specs.Banner.{judge_own}
use Rattle.stream.specs.declared.Event.TheVariants as event
use Rattle.receiver.specs.Report.{Report}
use Rattle.std.specs.Prelude.{Some}
use Rattle.sealed_builder.specs.declared.Sending.{Sending}
use Rattle.connection.specs.declared.Mode.{Mode}
use Rattle.connection.specs.declared.Mode.TheVariants as mode
use Rattle.connection.specs.declared.State.{State}
use Rattle.connection.specs.Step.{begun, ready_rule, Answer, answer, judge_switch, switched_state, switched_sending}
use Rattle.abi.specs.Words.{mark_number, mark_of}
use Rattle.abi_receiver.specs.Words as crc
use Rattle.abi_receiver.specs.Words.{AbiState, abi_state, state_of, report_words, report_of, number_of}
use Rattle.abi_sealed.specs.Words.{sending_numbers}
use Rattle.abi_connection.specs.Secure as secure
use Rattle.abi_connection.specs.Secure.{AbiSecure, abi_secure, secure_of}

-- ---- states

pub record AbiConnection : Type 0 where
  pub mode : ℕ
  pub ready : ℕ
  pub crc : AbiState
  pub sealed : AbiSecure

abbrev pub connected : ℕ → ℕ → AbiState → AbiSecure → AbiConnection
connected m r c x = record { mode = m; ready = r; crc = c; sealed = x }

-- as they lie in memory. Places of the first two words: 0 mode (0 crc, 1 secure), 1 the mark that a frame was just reported
abbrev pub abi_connection : List ℕ → List ℕ → List ℕ → List ℕ → List ℕ → List ℕ → List ℕ → AbiConnection
abi_connection link numbers block sealed first key nonce =
    connected (get_or link 0 0) (get_or link 1 0) (abi_state numbers block) (abi_secure sealed first key nonce)

abbrev pub mode_number : Mode → ℕ
mode_number mode.Crc = 0
mode_number mode.Secure = 1

abbrev pub mode_of : ℕ → Mode
mode_of n = cond (eqb n 0) mode.Crc mode.Secure

-- THE STATE THAT WORDS STAND FOR
unfoldable pub connection_of : AbiConnection → State
connection_of p = record { mode = mode_of p.mode; ready = mark_of p.ready; crc = state_of p.crc; sealed = secure_of p.sealed }

-- AND THE WORDS OF A STATE
abbrev pub abi_of : State → AbiConnection
abi_of st = connected (mode_number st.mode) (mark_number st.ready) (crc.abi_of st.crc) (secure.abi_of st.sealed)

-- EVERY NUMBER OF THE PART IN USE IS ONE OF ITS FIELD
abbrev pub fits_in_use : AbiConnection → Bool
fits_in_use p = cond (eqb p.mode 0) (crc.fits p.crc.numbers) (secure.fits p.sealed.numbers)

unfoldable pub fits : AbiConnection → Bool
fits p = leb p.mode 1 && (leb p.ready 1 && fits_in_use p)

-- words stand for a state
pub record StandsFor (st : State) (p : AbiConnection) : Type 0 where
  pub state : connection_of p ≡ st
  pub fit : fits p ≡ true

-- and are its own
pub record AbiOf (st : State) (p : AbiConnection) : Type 0 where
  pub words : p ≡ abi_of st
  pub stands : StandsFor st p

-- the words of a state that follows from these: the part that it does not use is as it was
abbrev pub following : Mode → AbiConnection → State → AbiConnection
following mode.Crc p st = connected 0 (mark_number st.ready) (crc.abi_of st.crc) p.sealed
following mode.Secure p st = connected 1 (mark_number st.ready) p.crc (secure.abi_of st.sealed)

abbrev pub next : AbiConnection → State → AbiConnection
next p st = following st.mode p st

-- ---- the start

-- THE PROMISE OF A START: the words of the state, and 16, or 0 where our own features are not refused
pub record AbiStarted (own : Features) (n : ℕ) (p : AbiConnection) : Type 0 where
  pub number : n ≡ number_of (judge_own own.supported own.required)
  pub state : AbiOf (begun own) p

-- ---- calls

-- what a call hands back
pub record AbiReceived : Type 0 where
  pub state : AbiConnection
  pub report : List ℕ

abbrev pub handed : AbiConnection → List ℕ → AbiReceived
handed p r = record { state = p; report = r }

abbrev pub kind_in : AbiReceived → ℕ
kind_in o = get_or o.report 0 0

abbrev pub taken_in : AbiReceived → ℕ
taken_in o = get_or o.report 1 0

pub record AbiAnswer : Type 0 where
  pub received : AbiReceived
  pub store : List ℕ

abbrev pub abi_answer_of : AbiConnection → Answer → AbiAnswer
abi_answer_of p a = record { received = handed (next p a.received.state) (report_words a.received.taken a.received.report); store = a.store }

-- takes nothing, hands the words back as they came, and says 26
abbrev pub contradicts : AbiConnection → AbiReceived
contradicts p = handed p (report_words 0 (Some (event.Refused contradiction)))

-- WHAT A CALL ANSWERS
unfoldable pub abi_answer : AbiConnection → List ℕ → List ℕ → AbiAnswer
abi_answer p s piece =
    cond (fits p && ready_rule (connection_of p)) (abi_answer_of p (answer (connection_of p) s piece)) (record { received = contradicts p; store = s })

-- what it reports, and 26 where a number is beyond its field
abbrev pub report_by : AbiConnection → List ℕ → List ℕ → Report
report_by p s piece = cond (fits p) (answer (connection_of p) s piece).received.report (Some (event.Refused contradiction))

-- THE PROMISE OF A CALL
pub record AbiAnswered (p : AbiConnection) (s piece : List ℕ) (o : AbiReceived) (s' : List ℕ) : Type 0 where
  pub received : o ≡ (abi_answer p s piece).received
  pub store : s' ≡ (abi_answer p s piece).store
  -- the words that it hands back stand for the state that was answered
  pub back : fits p ≡ true → StandsFor (answer (connection_of p) s piece).received.state o.state
  -- and those of its report for what it reports
  pub tells : report_of o.report ≡ report_by p s piece

-- and of one that answers the kind of its report
pub record ReceivedBy (p : AbiConnection) (s piece : List ℕ) (n : ℕ) (o : AbiReceived) (s' : List ℕ) : Type 0 where
  pub kind : n ≡ kind_in o
  pub answered : AbiAnswered p s piece o s'

-- ---- a switch

-- a sending state: 0 all nonces are spent, 1 a refused switch handed it back, 2 how many are spent; its key and the nonce of its next part
pub record AbiSending : Type 0 where
  pub numbers : List ℕ
  pub key : List ℕ
  pub nonce : List ℕ

abbrev pub abi_sending : List ℕ → List ℕ → List ℕ → AbiSending
abi_sending ws k n = record { numbers = ws; key = k; nonce = n }

abbrev pub sending_words : Sending → AbiSending
sending_words s = abi_sending (sending_numbers s) s.key s.nonce

-- what a switch hands back
pub record AbiSwitched : Type 0 where
  pub number : ℕ
  pub state : AbiConnection
  pub sending : AbiSending

abbrev pub switched : ℕ → AbiConnection → AbiSending → AbiSwitched
switched n p s = record { number = n; state = p; sending = s }

-- refused, it changes nothing
abbrev pub switched_words : Judged → AbiConnection → List ℕ → List ℕ → AbiConnection
switched_words fine p key nonce = next p (switched_state fine (connection_of p) key nonce)
switched_words (refused n) p key nonce = p

abbrev pub switched_by : Judged → AbiConnection → List ℕ → List ℕ → List ℕ → AbiSwitched
switched_by j p key receiving sending = switched (number_of j) (switched_words j p key receiving) (sending_words (switched_sending j key sending))

-- 26 also where a number is beyond its field, and 27
unfoldable pub judge_words : AbiConnection → Judged
judge_words p = cond (fits p) (judge_switch (connection_of p)) (refused contradiction)

-- WHAT A SWITCH ANSWERS: 0, 26 or 27
unfoldable pub abi_switch : AbiConnection → List ℕ → List ℕ → List ℕ → AbiSwitched
abi_switch p key receiving sending = switched_by (judge_words p) p key receiving sending

-- THE PROMISE OF A SWITCH
pub record AbiSwitchedWith (p : AbiConnection) (key receiving sending : List ℕ) (r : AbiSwitched) : Type 0 where
  pub promise : r ≡ abi_switch p key receiving sending
  -- the words that it hands back stand for the switched state
  pub back : fits p ≡ true → StandsFor (switched_state (judge_switch (connection_of p)) (connection_of p) key receiving) r.state

-- the words of a report of 26
abbrev pub is26 : List ℕ → Bool
is26 q = eqb (get_or q 0 0) 4 && (eqb (get_or q 15 0) (refusal_number refusal.StateContradicts) && (eqb (get_or q 16 0) 0 && (eqb (get_or q 17 0) 0 && eqb (get_or q 18 0) 0)))
