-- What a call of the receiver of sealed frames answers, byte by byte (02, K4). The claim over lists of calls ties it to the definition over whole streams.
use Rattle.std.specs.Prelude.{Some, None, Result, Ok, Err, ◌≡◌, ℕ, ◌+◌, ◌-◌, ◌<◌, ◌≤◌, min, Bool, true, false, cond, List, [], ◌∷◌, ◌++◌, length, take, drop, replicate, nat_lt}
use Rattle.std.proofs.lemmas.List.Edits.{sets}
use Rattle.buffer.specs.Splice.{replace_front, splice}
use Rattle.refusal.specs.declared.Numbers.{Numbers}
use Rattle.refusal.specs.declared.Refusal.TheVariants as refusal
use Rattle.refusal.specs.declared.Refusal.{Refusal}
use Rattle.refusal.specs.Refusals.{contradiction, Judged, fine, refused, numbers_of, refused_with, or_else, is_fine, no_refusal}
use Rattle.preamble.specs.declared.Header.{Header}
use Rattle.preamble.specs.Layout.{total, no_header}
use Rattle.preamble.specs.Judge.{header_of, judge_header}
use Rattle.body.specs.End.{Ended, whole, dropped, refused_for}
use Rattle.stream.specs.declared.Event.TheVariants as event
use Rattle.receiver.specs.Report.{Report}
use Rattle.gcm.specs.Gcm.{Opened, plain, fail, opened}
use Rattle.secure.specs.Layout as layout
use Rattle.secure.specs.Layout.{padding, inline_length, no_second_part, no_last_part, last_lengths}
use Rattle.secure.specs.Reading.{judge_nonce, judge_padding, judge_first, unpadded, last_ended, zeroed, holding}
use Rattle.sealed_receiver.specs.declared.Stage.{Stage}
use Rattle.sealed_receiver.specs.declared.Stage.TheVariants as stage
use Rattle.sealed_receiver.specs.declared.Receiving.{Receiving}
use Rattle.sealed_receiver.specs.declared.Known.{Known}
use Rattle.sealed_receiver.specs.declared.State.{State}
use Rattle.sealed_receiver.specs.declared.Received.{Received}
use Rattle.sealed_receiver.specs.declared.Transition.{Transition}
use Rattle.sealed_receiver.specs.State.{is_first, is_refused, in_frame, size_of, place_of, needed, opened_of, fresh_receiving, opened_more, no_receiving, agrees}

-- ---- states that follow from one another

abbrev pub blank : List ℕ
blank = replicate 96 0

-- so many bytes of a part came, and the block holds these
abbrev pub state_at : Stage → ℕ → List ℕ → Known → State
state_at k got bytes v = record { position = record { stage = k; got = got; block = bytes }; known = v }

-- before a part's first byte
abbrev pub at : Stage → Known → State
at k v = state_at k 0 blank v

abbrev pub knowing : Receiving → Header → Known
knowing r h = record { receiving = r; header = h; refusal = no_refusal }

-- one part more was opened, and nothing is refused
abbrev pub with_opened : Known → Known
with_opened v = record { receiving = opened_more v.receiving; header = v.header; refusal = no_refusal }

-- another frame
abbrev pub with_header : Known → Header → Known
with_header v h = record { receiving = v.receiving; header = h; refusal = v.refusal }

-- the next frame begins
abbrev pub next_frame : Known → State
next_frame v = at stage.First (with_header v no_header)

-- THE STATE OF A SWITCH: one key, and the nonce of the first part
unfoldable pub switched : List ℕ → List ℕ → State
switched key nonce = at stage.First (knowing (fresh_receiving key nonce) no_header)

-- refused from now on
abbrev pub refused_state : Numbers → State
refused_state n = at stage.Refused (record { receiving = no_receiving; header = no_header; refusal = n })

-- ---- one byte

pub record Stepped : Type 0 where
  pub state : State
  pub store : List ℕ
  pub report : Report

abbrev pub stepped : State → List ℕ → Report → Stepped
stepped st s r = record { state = st; store = s; report = r }

abbrev pub silent : State → List ℕ → Stepped
silent st s = stepped st s None

abbrev pub refuse : Numbers → List ℕ → Stepped
refuse n s = stepped (refused_state n) s (Some (event.Refused n))

abbrev pub unless_refused : Judged → List ℕ → Stepped → Stepped
unless_refused fine s x = x
unless_refused (refused n) s x = refuse n s

-- a transition that is made unless something is refused; behind a refused later part zeros stand in what the frame needs of the store
abbrev pub stepped_as : Result Transition Refusal → List ℕ → Stepped
stepped_as (Ok t) s = stepped t.state s t.report
stepped_as (Err r) s = refuse (numbers_of r) s

abbrev pub stepped_in : Header → Result Transition Refusal → List ℕ → Stepped
stepped_in h (Ok t) s = stepped t.state s t.report
stepped_in h (Err r) s = refuse (numbers_of r) (zeroed h s)

-- a part: 18 in place of opening it, 17, and its text
abbrev pub judge_opened : Opened → Judged
judge_opened (plain text) = fine
judge_opened fail = refused_with refusal.AuthTag

abbrev pub text_of : Opened → List ℕ
text_of (plain text) = text
text_of fail = []

unfoldable pub judge_part : Receiving → List ℕ → Judged
judge_part r bytes = or_else (judge_nonce (opened_of r)) (judge_opened (opened r.key r.nonce bytes))

unfoldable pub part_text : Receiving → List ℕ → List ℕ
part_text r bytes = text_of (opened r.key r.nonce bytes)

-- how a frame ends, whose segments are these
abbrev pub end_frame : Ended → Known → List ℕ → List ℕ → Stepped
end_frame whole v segments s = stepped (next_frame v) (holding v.header segments s) (Some (event.Frame v.header))
end_frame dropped v segments s = stepped (next_frame v) (zeroed v.header s) (Some (event.Dropped v.header))
end_frame (refused_for n) v segments s = refuse n (zeroed v.header s)

-- behind segment 1: the last part, where there is one
abbrev pub begin_last : Known → List ℕ → Stepped
begin_last v s = cond (no_last_part v.header) (end_frame whole v (take v.header.s1.len s) s) (silent (at stage.Last v) s)

-- behind the inline buffer: the rest of segment 1, where there is one
abbrev pub begin_second_part : Known → List ℕ → Stepped
begin_second_part v s = cond (no_second_part v.header) (begin_last v s) (silent (at stage.Second v) s)

-- an opened first part: 5 to 10, 19, and segment 1's inline bytes at the store's front
unfoldable pub after_first_part : Known → List ℕ → List ℕ → Stepped
after_first_part v text s =
    unless_refused (judge_first text (length s)) s
    (begin_second_part (with_header v (header_of text)) (replace_front (take (header_of text).s1.len (drop 32 text)) s))

-- an opened second part: 19, and the rest of segment 1 behind its front, with zeros to the part's end
unfoldable pub after_second_part : Known → List ℕ → List ℕ → Stepped
after_second_part v text s =
    unless_refused (judge_padding (drop (v.header.s1.len - inline_length) text)) (zeroed v.header s)
    (begin_last v (splice s inline_length (take (v.header.s1.len - inline_length) text ++ replicate (padding (v.header.s1.len - inline_length) + 16) 0)))

-- an opened last part: 12, 19, drop, or the frame
unfoldable pub after_last_part : Known → List ℕ → List ℕ → Stepped
after_last_part v text s =
    end_frame (last_ended v.header text) v (take v.header.s1.len s ++ unpadded (last_lengths v.header) text) s

-- the bytes of a later part, in the store
abbrev pub sealed_in : Stage → Header → List ℕ → List ℕ
sealed_in k h s = take (size_of k h) (drop (place_of k h) s)

-- the last byte of a part came: by the stage, the block, and what is known
unfoldable pub finish : Stage → List ℕ → Known → List ℕ → Stepped
finish stage.First b v s = unless_refused (judge_part v.receiving b) s (after_first_part (with_opened v) (part_text v.receiving b) s)
finish stage.Second b v s =
    unless_refused (judge_part v.receiving (sealed_in stage.Second v.header s)) (zeroed v.header s)
    (after_second_part (with_opened v) (part_text v.receiving (sealed_in stage.Second v.header s)) s)
finish stage.Last b v s =
    unless_refused (judge_part v.receiving (sealed_in stage.Last v.header s)) (zeroed v.header s)
    (after_last_part (with_opened v) (part_text v.receiving (sealed_in stage.Last v.header s)) s)
finish stage.Refused b v s = silent (at stage.Refused v) s

-- bytes go to their place: those of a first part into the block, those of a later one into the store
abbrev pub block_with : Bool → ℕ → List ℕ → List ℕ → List ℕ
block_with first got b xs = cond first (sets b got xs) b

abbrev pub store_with : Bool → ℕ → List ℕ → List ℕ → List ℕ
store_with later place s xs = cond later (sets s place xs) s

abbrev pub absorbed : State → List ℕ → State
absorbed st xs =
    state_at st.position.stage (st.position.got + length xs)
    (block_with (is_first st.position.stage) st.position.got st.position.block xs)
    st.known

abbrev pub stored : State → List ℕ → List ℕ → List ℕ
stored st s xs = store_with (in_frame st.position.stage) (place_of st.position.stage st.known.header + st.position.got) s xs

-- bytes of a part, up to its last one
abbrev pub reached : State → List ℕ → Bool → Stepped
reached st s true = silent st s
reached st s false = finish st.position.stage st.position.block st.known s

abbrev pub size : State → ℕ
size st = size_of st.position.stage st.known.header

-- a chunk that does not go past the part's last byte
abbrev pub chunk : State → List ℕ → List ℕ → Stepped
chunk st s xs = reached (absorbed st xs) (stored st s xs) (nat_lt (st.position.got + length xs) (size st))

unfoldable pub on_byte : State → List ℕ → ℕ → Stepped
on_byte st s b = chunk st s (b ∷ [])

-- ---- a call

pub record Answer : Type 0 where
  pub received : Received
  pub store : List ℕ

abbrev pub answered : State → ℕ → Report → List ℕ → Answer
answered st taken r s = record { received = record { state = st; taken = taken; report = r }; store = s }

-- k bytes came to x; without a report, what follows counts on
abbrev pub onward : Report → ℕ → Stepped → Answer → Answer
onward None k x a = answered a.received.state (k + a.received.taken) a.received.report a.store
onward (Some e) k x a = answered x.state k (Some e) x.store

-- a piece: byte after byte, up to and including the first that gives a report
unfoldable pub feed : State → List ℕ → List ℕ → Answer
feed st s [] = answered st 0 None s
feed st s (b ∷ bs) = onward (on_byte st s b).report 1 (on_byte st s b) (feed (on_byte st s b).state (on_byte st s b).store bs)

abbrev pub refuse_unchanged : State → Numbers → List ℕ → Answer
refuse_unchanged st n s = answered st 0 (Some (event.Refused n)) s

abbrev pub needed_by : State → ℕ
needed_by st = needed st.position.stage st.known.header

abbrev pub short_store : State → Numbers
short_store st = numbers_of (refusal.StoreShort (needed_by st))

-- 26 before all else; a refused stream stays refused; a store that became too short; else the piece
unfoldable pub answer : State → List ℕ → List ℕ → Answer
answer st s piece =
    cond (agrees st)
    (cond (is_refused st.position.stage) (refuse_unchanged st st.known.refusal s)
    (cond (nat_lt (length s) (needed_by st)) (refuse_unchanged (refused_state (short_store st)) (short_store st) s)
    (feed st s piece)))
    (refuse_unchanged st contradiction s)

-- THE PROMISE OF A CALL
pub record Answered (st : State) (s piece : List ℕ) (r : Received) (s' : List ℕ) : Type 0 where
  pub received : r ≡ (answer st s piece).received
  pub store : s' ≡ (answer st s piece).store

-- ---- what the inner functions promise

abbrev pub judged_as : Result ℕ Refusal → Judged
judged_as (Ok n) = fine
judged_as (Err r) = refused_with r

-- a part that was opened where it stands: 18 or 17, or its text at its front
pub record OpenedPart (r : Receiving) (bytes : List ℕ) (v : Result ℕ Refusal) (after : List ℕ) : Type 0 where
  pub judged : judged_as v ≡ judge_part r bytes
  pub text : judge_part r bytes ≡ fine → after ≡ part_text r bytes ++ drop (length bytes - 16) bytes

-- the segments of a last part, whose text stands behind segment 1, one behind the other; nothing changes behind what the frame needs
pub record ClosedUp (h : Header) (s after : List ℕ) : Type 0 where
  pub segments : take (total h) after ≡ take h.s1.len s ++ unpadded (last_lengths h) (drop h.s1.len s)
  pub behind : drop (layout.needed h) after ≡ drop (layout.needed h) s

-- a part that is there, of a frame that the store is long enough for
pub record Ready (k : Stage) (v : Known) (s : List ℕ) : Type 0 where
  pub fits : needed k v.header ≤ length s
  pub header : in_frame k ≡ true → is_fine (judge_header v.header) ≡ true
  pub some : 0 < size_of k v.header

-- as many bytes as the part still has, or as the piece has
abbrev pub fitting : State → List ℕ → ℕ
fitting st piece = min (size st - st.position.got) (length piece)

pub record Chunked (st : State) (s piece : List ℕ) (r : Received) (s' : List ℕ) : Type 0 where
  pub taken : r.taken ≡ fitting st piece
  pub step : stepped r.state s' r.report ≡ chunk st s (take (fitting st piece) piece)

-- not refused, its fields in order, and the store long enough
pub record Running (st : State) (s : List ℕ) : Type 0 where
  pub agree : agrees st ≡ true
  pub live : is_refused st.position.stage ≡ false
  pub fits : needed_by st ≤ length s

-- the answer of a running receiver
pub record Fed (st : State) (s piece : List ℕ) (r : Received) (s' : List ℕ) : Type 0 where
  pub received : r ≡ (feed st s piece).received
  pub store : s' ≡ (feed st s piece).store
