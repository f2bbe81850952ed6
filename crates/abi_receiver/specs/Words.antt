-- The receiver's calls over words: a state as 23 of them and its block of bytes, a report as 19, one field a word. A call promises the words of what `answer` and `started` of the receiver say.
use Rattle.std.specs.Prelude.{◌≡◌, List, [], ◌∷◌, ◌++◌, Bool, true, cond, ℕ, ◌≤◌, eqb, length, get_or}
use Rattle.refusal.specs.declared.Numbers.{Numbers}
use Rattle.refusal.specs.Refusals.{Judged, fine, refused, no_refusal, contradiction}
use Rattle.banner.specs.declared.Features.{Features}
use Rattle.banner.specs.declared.Revision.{Revision}
use Rattle.preamble.specs.declared.Header.{Header}
use Rattle.stream.specs.declared.Event.{Event}
use Rattle.stream.specs.declared.Event.TheVariants as event
use Rattle.stream.specs.Events.{kind_of, Role, banner_end, first_end, frame_end, stream_end, role_of}
use Rattle.receiver.specs.declared.Known.{Known}
use Rattle.receiver.specs.declared.State.{State}
use Rattle.receiver.specs.Report.{Report}
use Rattle.std.specs.Prelude.{Some, None}
use Rattle.receiver.specs.declared.Received.{Received}
use Rattle.banner.specs.Banner.{no_features}
use Rattle.preamble.specs.Layout.{no_header}
use Rattle.receiver.specs.State.{rank, stage_of}
use Rattle.receiver.specs.Step.{state_at, Answer, answer}
use Rattle.abi.specs.Words.{within, Within, max_u8, max_u16, low_u16, revision_number, revision_by_number, mark_number, mark_of, features, refusal_words, refusal_at, header_words, header_at, header_limits}

-- ---- states. Places of their numbers: 0 stage (its rank), 1 revision, 2 the mark of an early report, 3 payload, 4 to 13 header, 14 to 17 refusal, 18 got,
-- 19 and 20 own features, 21 and 22 the peer's

pub record AbiState : Type 0 where
  pub numbers : List ℕ
  pub block : List ℕ

abbrev pub abi_state : List ℕ → List ℕ → AbiState
abi_state ws b = record { numbers = ws; block = b }

abbrev pub known_with : Revision → List ℕ → Known
known_with revision ws = record {
  own = features (get_or ws 19 0) (get_or ws 20 0);
  payload = low_u16 (get_or ws 3 0);
  peer = features (get_or ws 21 0) (get_or ws 22 0);
  revision = revision;
  header = header_at 4 ws;
  first = mark_of (get_or ws 2 0);
  refusal = refusal_at 14 ws;
}

abbrev pub known_of : List ℕ → Known
known_of ws = known_with (revision_by_number (get_or ws 1 0)) ws

-- THE STATE THAT WORDS STAND FOR
unfoldable pub state_of : AbiState → State
state_of p = state_at (stage_of (get_or p.numbers 0 0)) (get_or p.numbers 18 0) p.block (known_of p.numbers)

abbrev pub numbers_with : ℕ → ℕ → ℕ → ℕ → Known → List ℕ
numbers_with stage revision first got v =
    stage ∷ revision ∷ first ∷ v.payload
    ∷ (header_words v.header
    ++ (refusal_words v.refusal
    ++ (got ∷ v.own.supported ∷ v.own.required ∷ v.peer.supported ∷ v.peer.required ∷ [])))

unfoldable pub state_numbers : State → List ℕ
state_numbers st =
    numbers_with (rank st.position.stage) (revision_number st.known.revision) (mark_number st.known.first) st.position.got st.known

-- AND THE WORDS OF A STATE
abbrev pub abi_of : State → AbiState
abi_of st = abi_state (state_numbers st) st.position.block

-- the limits of the fields that are narrower than a word
abbrev pub state_limits : List ℕ
state_limits = 9 ∷ 1 ∷ 1 ∷ max_u16 ∷ (header_limits ++ (max_u8 ∷ []))

-- EVERY NUMBER IS ONE OF ITS FIELD
abbrev pub fits : List ℕ → Bool
fits ws = within state_limits 0 ws

-- the fields of a state are of their types
pub record Typed (st : State) : Type 0 where
  pub payload : st.known.payload ≤ max_u16
  pub header : Within header_limits 0 (header_words st.known.header)
  pub refusal : st.known.refusal.number ≤ max_u8

-- the words of a state, and that they stand for it
pub record AbiOf (st : State) (p : AbiState) : Type 0 where
  pub words : p ≡ abi_of st
  pub back : state_of p ≡ st
  pub fit : fits p.numbers ≡ true

-- ---- reports. Places: 0 kind (0 more, 1 banner, 2 frame, 3 dropped, 4 refused, 5 segment 1 early), 1 the bytes taken, 2 revision, 3 and 4 the peer's features,
-- 5 to 14 header, 15 to 18 refusal; what a kind does not use is 0

abbrev pub report_fields : ℕ → Features → Header → Numbers → List ℕ
report_fields v p h n = v ∷ p.supported ∷ p.required ∷ (header_words h ++ refusal_words n)

abbrev pub reporting : ℕ → ℕ → ℕ → Features → Header → Numbers → List ℕ
reporting kind taken v p h n = kind ∷ taken ∷ report_fields v p h n

abbrev pub role_fields : Role → List ℕ
role_fields (banner_end p v) = report_fields (revision_number v) p no_header no_refusal
role_fields (first_end h) = report_fields 0 no_features h no_refusal
role_fields (frame_end h) = report_fields 0 no_features h no_refusal
role_fields (stream_end n) = report_fields 0 no_features no_header n

abbrev pub event_words : ℕ → Event → List ℕ
event_words t e = kind_of e ∷ t ∷ role_fields (role_of e)

abbrev pub report_words : ℕ → Report → List ℕ
report_words t None = reporting 0 t 0 no_features no_header no_refusal
report_words t (Some e) = event_words t e

-- THE REPORT THAT WORDS STAND FOR
abbrev pub report_as : ℕ → List ℕ → Report
report_as kind q =
    cond (eqb kind 0) None
    (Some
    (cond (eqb kind 1) (event.Banner (features (get_or q 3 0) (get_or q 4 0)) (revision_by_number (get_or q 2 0)))
    (cond (eqb kind 2) (event.Frame (header_at 5 q))
    (cond (eqb kind 3) (event.Dropped (header_at 5 q))
    (cond (eqb kind 4) (event.Refused (refusal_at 15 q)) (event.First (header_at 5 q)))))))

abbrev pub report_of : List ℕ → Report
report_of q = report_as (get_or q 0 0) q

-- the fields of a report are of their types
abbrev pub RoleTyped : Role → Type 0
RoleTyped (banner_end p v) = Unit {0}
RoleTyped (first_end h) = Within header_limits 0 (header_words h)
RoleTyped (frame_end h) = Within header_limits 0 (header_words h)
RoleTyped (stream_end n) = n.number ≤ max_u8

abbrev pub ReportTyped : Report → Type 0
ReportTyped None = Unit {0}
ReportTyped (Some e) = RoleTyped (role_of e)

-- the words of a report, and that they stand for it
pub record ReportOf (t : ℕ) (r : Report) (q : List ℕ) : Type 0 where
  pub words : q ≡ report_words t r
  pub back : report_of q ≡ r

-- ---- NOTHING IS LOST

pub record ReadsBack : Type 0 where
  -- a state comes back from its words, which are numbers of their fields
  pub state : (st : State) → Typed st → state_of (abi_of st) ≡ st
  pub fit : (st : State) → Typed st → fits (state_numbers st) ≡ true
  -- words that are so are those of the state that they stand for
  pub words : (p : AbiState) → length p.numbers ≡ 23 → fits p.numbers ≡ true → abi_of (state_of p) ≡ p
  -- and a report comes back from its own
  pub report : (t : ℕ) (r : Report) → ReportTyped r → report_of (report_words t r) ≡ r

-- ---- calls

-- what a call hands back
pub record AbiReceived : Type 0 where
  pub state : AbiState
  pub report : List ℕ

abbrev pub handed : List ℕ → List ℕ → List ℕ → AbiReceived
handed ws b r = record { state = abi_state ws b; report = r }

abbrev pub kind_in : AbiReceived → ℕ
kind_in o = get_or o.report 0 0

abbrev pub abi_received : Received → AbiReceived
abi_received r = record { state = abi_of r.state; report = report_words r.taken r.report }

-- takes nothing, hands the words back as they came, and says 26
abbrev pub contradicts : AbiState → AbiReceived
contradicts p = record { state = p; report = report_words 0 (Some (event.Refused contradiction)) }

pub record AbiAnswer : Type 0 where
  pub received : AbiReceived
  pub store : List ℕ

abbrev pub abi_answer_of : Answer → AbiAnswer
abi_answer_of a = record { received = abi_received a.received; store = a.store }

-- WHAT A CALL ANSWERS
unfoldable pub abi_answer : AbiState → List ℕ → List ℕ → AbiAnswer
abi_answer p s piece = cond (fits p.numbers) (abi_answer_of (answer (state_of p) s piece)) (record { received = contradicts p; store = s })

-- what it reports, and 26 where a number is beyond its field
abbrev pub report_by : AbiState → List ℕ → List ℕ → Report
report_by p s piece = cond (fits p.numbers) (answer (state_of p) s piece).received.report (Some (event.Refused contradiction))

-- THE PROMISE OF A CALL
pub record AbiAnswered (p : AbiState) (s piece : List ℕ) (o : AbiReceived) (s' : List ℕ) : Type 0 where
  pub received : o ≡ (abi_answer p s piece).received
  pub store : s' ≡ (abi_answer p s piece).store
  -- the words that it hands back stand for the state that was answered
  pub back : fits p.numbers ≡ true → AbiOf (answer (state_of p) s piece).received.state o.state
  -- and those of its report for what it reports
  pub tells : report_of o.report ≡ report_by p s piece

-- and of one that answers the kind of its report
pub record ReceivedBy (p : AbiState) (s piece : List ℕ) (n : ℕ) (o : AbiReceived) (s' : List ℕ) : Type 0 where
  pub kind : n ≡ kind_in o
  pub answered : AbiAnswered p s piece o s'

-- ---- the number of a judgement

abbrev pub number_of : Judged → ℕ
number_of fine = 0
number_of (refused n) = n.number
