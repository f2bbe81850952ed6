-- What a call of the receiver answers, byte by byte. The claim over lists of calls (Calls) ties it to the definition over whole streams.
use Rattle.std.specs.Prelude.{Result, Ok, Err, ◌≡◌, List, [], ◌∷◌, Bool, true, false, cond, ℕ, ◌+◌, ◌-◌, ◌≤◌, min, length, take, leb, ltb, eqb, Some, None}
use Rattle.std.proofs.lemmas.List.Edits.{sets}
use Rattle.buffer.specs.Le.{number_at}
use Rattle.refusal.specs.declared.Numbers.{Numbers}
use Rattle.refusal.specs.declared.Refusal.{Refusal}
use Rattle.refusal.specs.declared.Refusal.TheVariants as refusal
use Rattle.refusal.specs.Refusals.{Judged, fine, refused, numbers_of, judged_by, no_refusal, contradiction}
use Rattle.banner.specs.declared.Features.{Features}
use Rattle.banner.specs.declared.Revision.{Revision}
use Rattle.banner.specs.declared.Revision.TheVariants.{Msgr20}
use Rattle.banner.specs.Banner.{judge_own, judge_features, revision_of, features_of, judge_magic, judge_length, no_features}
use Rattle.preamble.specs.declared.Header.{Header}
use Rattle.preamble.specs.Layout.{total, no_header}
use Rattle.preamble.specs.Judge.{header_of, judge_preamble}
use Rattle.body.specs.Body.{segment_sum, no_epilogue}
use Rattle.body.specs.End.{Ended, whole, dropped, refused_for, ending}
use Rattle.stream.specs.declared.Event.TheVariants as event
use Rattle.stream.specs.Stream.{zeroed}
use Rattle.receiver.specs.declared.Stage.{Stage}
use Rattle.receiver.specs.declared.Stage.TheVariants as stage
use Rattle.receiver.specs.declared.Place.{Place}
use Rattle.receiver.specs.declared.Place.TheVariants as place
use Rattle.receiver.specs.declared.Known.{Known}
use Rattle.receiver.specs.declared.State.{State}
use Rattle.receiver.specs.Report.{Report}
use Rattle.receiver.specs.declared.Received.{Received}
use Rattle.receiver.specs.declared.Transition.{Transition}
use Rattle.receiver.specs.declared.Moved.{Moved}
use Rattle.receiver.specs.declared.Taken.{Taken}
use Rattle.receiver.specs.declared.Taken.TheVariants as taken
use Rattle.receiver.specs.declared.Started.{Started}
use Rattle.receiver.specs.State.{size_of, place_of, is_refused, needed, blank, has_first_sum, agrees}

-- ---- states that follow from one another

-- where a receiver stands: so many bytes of a stage came, and the block holds these
abbrev pub state_at : Stage → ℕ → List ℕ → Known → State
state_at k got bytes v = record { position = record { stage = k; got = got; block = bytes }; known = v }

-- at a stage, with an empty block
abbrev pub at : Stage → ℕ → Known → State
at k got v = state_at k got blank v

-- what a receiver knows before its first byte, and once it is refused
abbrev pub only_own : Features → Numbers → Known
only_own own n = record { own = own; payload = 0; peer = no_features; revision = Msgr20; header = no_header; first = false; refusal = n }

abbrev pub with_payload : Known → ℕ → Known
with_payload v n = record { own = v.own; payload = n; peer = v.peer; revision = v.revision; header = v.header; first = v.first; refusal = v.refusal }

abbrev pub with_peer : Known → Features → Known
with_peer v f = record { own = v.own; payload = v.payload; peer = f; revision = v.revision; header = v.header; first = v.first; refusal = v.refusal }

abbrev pub with_revision : Known → Revision → Known
with_revision v r = record { own = v.own; payload = v.payload; peer = v.peer; revision = r; header = v.header; first = v.first; refusal = v.refusal }

-- another frame, of which nothing was reported
abbrev pub with_header : Known → Header → Known
with_header v h = record { own = v.own; payload = v.payload; peer = v.peer; revision = v.revision; header = h; first = false; refusal = v.refusal }

-- segment 1's checksum holds
abbrev pub with_first : Known → Known
with_first v = record { own = v.own; payload = v.payload; peer = v.peer; revision = v.revision; header = v.header; first = true; refusal = v.refusal }

-- the next frame begins
abbrev pub next_frame : Known → State
next_frame v = at stage.Preamble 0 (with_header v no_header)

-- refused from now on
abbrev pub refused_state : Known → Numbers → State
refused_state v n = at stage.Refused 0 (only_own v.own n)

-- ---- one byte

pub record Stepped : Type 0 where
  pub state : State
  pub store : List ℕ
  pub report : Report

abbrev pub stepped : State → List ℕ → Report → Stepped
stepped st s r = record { state = st; store = s; report = r }

-- a transition to a stage of which so many bytes came
abbrev pub to : Stage → ℕ → Known → Report → Transition
to k got v r = record { stage = k; got = got; known = v; report = r }

-- as a transition says it, which leaves the block empty
abbrev pub stepped_by : Transition → List ℕ → Stepped
stepped_by t s = stepped (at t.stage t.got t.known) s t.report

abbrev pub silent : State → List ℕ → Stepped
silent st s = stepped st s None

abbrev pub refuse : Known → Numbers → List ℕ → Stepped
refuse v n s = stepped (refused_state v n) s (Some (event.Refused n))

abbrev pub unless_refused : Judged → Known → List ℕ → Stepped → Stepped
unless_refused fine v s x = x
unless_refused (refused n) v s x = refuse v n s

-- a transition that is made unless something is refused
abbrev pub stepped_as : Result Transition Refusal → Known → List ℕ → Stepped
stepped_as (Ok t) v s = stepped_by t s
stepped_as (Err r) v s = refuse v (numbers_of r) s

-- the peer's features are known
abbrev pub end_banner : Known → List ℕ → Stepped
end_banner v s =
    unless_refused (judge_features v.own.supported v.own.required v.peer.supported v.peer.required) v s
    (stepped (at stage.Preamble 0 (with_revision v (revision_of v.own.supported v.peer.supported))) s
    (Some (event.Banner v.peer (revision_of v.own.supported v.peer.supported))))

-- how a frame ends
abbrev pub end_frame : Ended → Known → List ℕ → Stepped
end_frame whole v s = stepped (next_frame v) s (Some (event.Frame v.header))
end_frame dropped v s = stepped (next_frame v) (zeroed v.header s) (Some (event.Dropped v.header))
end_frame (refused_for n) v s = refuse v n (zeroed v.header s)

-- behind the segments: the epilogue, where there is one
abbrev pub begin_epilogue : Known → List ℕ → Stepped
begin_epilogue v s = cond (no_epilogue v.revision v.header) (end_frame whole v s) (silent (at stage.Epilogue 0 v) s)

-- behind so many segment bytes: those that are left, where there are any
abbrev pub begin_rest : Known → ℕ → List ℕ → Stepped
begin_rest v got s = cond (ltb got (total v.header)) (silent (at stage.Rest got v) s) (begin_epilogue v s)

-- behind an accepted preamble: segment 1 by itself, where its checksum follows it
abbrev pub begin_body : Known → List ℕ → Stepped
begin_body v s = cond (has_first_sum v) (silent (at stage.First 0 v) s) (begin_rest v 0 s)

-- segment 1's checksum holds: it is reported early where more segments follow
abbrev pub report_first : Bool → Header → Stepped → Stepped
report_first follow h x = cond follow (stepped x.state x.store (Some (event.First h))) x

abbrev pub behind_first_sum : Known → List ℕ → Stepped
behind_first_sum v s = report_first (ltb 1 v.header.count) v.header (begin_rest (with_first v) v.header.s1.len s)

-- the last byte of a stage came: by the stage, its block, and what is known
unfoldable pub finish : Stage → List ℕ → Known → List ℕ → Stepped
finish stage.Magic b v s = unless_refused (judge_magic (take 8 b)) v s (silent (at stage.Length 0 v) s)
finish stage.Length b v s = unless_refused (judge_length (number_at 2 0 b)) v s (silent (at stage.Payload 0 (with_payload v (number_at 2 0 b))) s)
finish stage.Payload b v s =
    cond (leb v.payload 16) (end_banner (with_peer v (features_of (take 16 b))) s) (silent (at stage.Skip 0 (with_peer v (features_of (take 16 b)))) s)
finish stage.Skip b v s = end_banner v s
finish stage.Preamble b v s = unless_refused (judge_preamble b (length s)) v s (begin_body (with_header v (header_of b)) s)
finish stage.First b v s = silent (at stage.FirstSum 0 v) s
finish stage.FirstSum b v s =
    cond (eqb (number_at 4 0 b) (segment_sum (take v.header.s1.len s))) (behind_first_sum v s)
    (refuse v (numbers_of (refusal.SegmentChecksum 1)) (zeroed v.header s))
finish stage.Rest b v s = begin_epilogue v s
finish stage.Epilogue b v s = end_frame (ending v.revision v.header b (take (total v.header) s)) v s
finish stage.Refused b v s = silent (at stage.Refused 0 v) s

-- bytes go to their place
abbrev pub block_with : Place → ℕ → List ℕ → List ℕ → List ℕ
block_with place.Block got b xs = sets b got xs
block_with place.Store got b xs = b
block_with place.Nowhere got b xs = b

abbrev pub store_with : Place → ℕ → List ℕ → List ℕ → List ℕ
store_with place.Block got s xs = s
store_with place.Store got s xs = sets s got xs
store_with place.Nowhere got s xs = s

abbrev pub absorbed : State → List ℕ → State
absorbed st xs =
    state_at st.position.stage (st.position.got + length xs)
    (block_with (place_of st.position.stage) st.position.got st.position.block xs)
    st.known

abbrev pub stored : State → List ℕ → List ℕ → List ℕ
stored st s xs = store_with (place_of st.position.stage) st.position.got s xs

-- bytes of a stage, up to its last one
abbrev pub reached : State → List ℕ → Bool → Stepped
reached st s true = silent st s
reached st s false = finish st.position.stage st.position.block st.known s

abbrev pub size : State → ℕ
size st = size_of st.position.stage st.known

-- a chunk that does not go past the stage's last byte
abbrev pub chunk : State → List ℕ → List ℕ → Stepped
chunk st s xs = reached (absorbed st xs) (stored st s xs) (ltb (st.position.got + length xs) (size st))

unfoldable pub on_byte : State → List ℕ → ℕ → Stepped
on_byte st s b = chunk st s (b ∷ [])

-- ---- a call

pub record Answer : Type 0 where
  pub received : Received
  pub store : List ℕ

abbrev pub answered : State → ℕ → Report → List ℕ → Answer
answered st taken r s = record { received = record { state = st; taken = taken; report = r }; store = s }

-- k bytes came to x; without a report, what follows counts on
abbrev pub onward : Report → ℕ → Stepped → Answer → Answer
onward None k x a = answered a.received.state (k + a.received.taken) a.received.report a.store
onward (Some e) k x a = answered x.state k (Some e) x.store

-- a piece: byte after byte, up to and including the first that gives a report
unfoldable pub feed : State → List ℕ → List ℕ → Answer
feed st s [] = answered st 0 None s
feed st s (b ∷ bs) = onward (on_byte st s b).report 1 (on_byte st s b) (feed (on_byte st s b).state (on_byte st s b).store bs)

abbrev pub refuse_unchanged : State → Numbers → List ℕ → Answer
refuse_unchanged st n s = answered st 0 (Some (event.Refused n)) s

abbrev pub needed_by : State → ℕ
needed_by st = needed st.position.stage st.known

abbrev pub short_store : State → Numbers
short_store st = numbers_of (refusal.StoreShort (needed_by st))

-- 26 before all else; a refused stream stays refused; a store that became too short; else the piece
unfoldable pub answer : State → List ℕ → List ℕ → Answer
answer st s piece =
    cond (agrees st)
    (cond (is_refused st.position.stage) (refuse_unchanged st st.known.refusal s)
    (cond (ltb (length s) (needed_by st)) (refuse_unchanged (refused_state st.known (short_store st)) (short_store st) s)
    (feed st s piece)))
    (refuse_unchanged st contradiction s)

-- THE PROMISE OF A CALL
pub record Answered (st : State) (s piece : List ℕ) (r : Received) (s' : List ℕ) : Type 0 where
  pub received : r ≡ (answer st s piece).received
  pub store : s' ≡ (answer st s piece).store

-- of a step or a call that leaves its block where it stands: what was received, with the block that it left
abbrev pub moved_to : Moved → List ℕ → Received
moved_to m block = record { state = state_at m.stage m.got block m.known; taken = m.taken; report = m.report }

-- a refusal that takes nothing
abbrev pub refusing : Stage → ℕ → Known → Numbers → Taken
refusing k got v n = taken.Moved (record { stage = k; got = got; known = v; taken = 0; report = Some (event.Refused n) })

-- and, where the piece may have been held, with the stage and what was known before, and the piece's length
abbrev pub received_by : Stage → Known → List ℕ → ℕ → Taken → Received
received_by k v block n (taken.Partial got) = record { state = state_at k got block v; taken = n; report = None }
received_by k v block n (taken.Moved m) = moved_to m block

-- ---- the start

abbrev pub started_by : Judged → Features → State
started_by fine own = at stage.Magic 0 (only_own own no_refusal)
started_by (refused n) own = at stage.Refused 0 (only_own own n)

-- THE STATE OF A START
unfoldable pub started : Features → State
started own = started_by (judge_own own.supported own.required) own

-- THE PROMISE OF A START
pub record StartedWith (own : Features) (r : Started) : Type 0 where
  pub state : r.state ≡ started own
  pub judgement : judged_by r.judgement ≡ judge_own own.supported own.required

-- ---- what the inner functions promise

abbrev pub is_more : Report → Bool
is_more None = true
is_more (Some e) = false

-- as many bytes as the stage still reads, or as the piece has
abbrev pub fitting : State → List ℕ → ℕ
fitting st piece = min (size st - st.position.got) (length piece)

pub record Chunked (st : State) (s piece : List ℕ) (r : Received) (s' : List ℕ) : Type 0 where
  pub taken : r.taken ≡ fitting st piece
  pub step : stepped r.state s' r.report ≡ chunk st s (take (fitting st piece) piece)

-- not refused, its fields in order, and the store long enough
pub record Running (st : State) (s : List ℕ) : Type 0 where
  pub agree : agrees st ≡ true
  pub live : is_refused st.position.stage ≡ false
  pub fits : needed_by st ≤ length s

-- the answer of a running receiver
pub record Fed (st : State) (s piece : List ℕ) (r : Received) (s' : List ℕ) : Type 0 where
  pub received : r ≡ (feed st s piece).received
  pub store : s' ≡ (feed st s piece).store
