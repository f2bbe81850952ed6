-- Demand 3's list (01, "Demand 3's list, defined"): which entries a whole stream gives, at which byte, and the store then.
-- It is written from the layouts alone: no receiver, no state and no call is in sight.
use Rattle.std.specs.Prelude.{List, [], ◌∷◌, Bool, true, false, not, cond, ◌&&◌, ℕ, zero, suc, ◌+◌, length, take, drop, replicate, leb, ltb, eqb}
use Rattle.buffer.specs.Le.{number_at}
use Rattle.buffer.specs.Splice.{replace_front}
use Rattle.refusal.specs.declared.Numbers.{Numbers}
use Rattle.refusal.specs.declared.Refusal.TheVariants as refusal
use Rattle.refusal.specs.Refusals.{Judged, fine, refused, numbers_of}
use Rattle.banner.specs.declared.Features.{Features}
use Rattle.banner.specs.declared.Revision.{Revision}
use Rattle.banner.specs.Banner.{judge_own, judge_features, revision_of, features_of, judge_magic, judge_length}
use Rattle.preamble.specs.declared.Header.{Header}
use Rattle.preamble.specs.Layout.{total}
use Rattle.preamble.specs.Judge.{header_of, judge_preamble}
use Rattle.body.specs.Body.{segment_sum, no_first_sum, first_sum_length, body_length, wire_length}
use Rattle.stream.specs.declared.Event.{Event}
use Rattle.stream.specs.declared.Event.TheVariants.{Banner, First, Frame, Dropped, Refused}
use Rattle.stream.specs.Events.{passing}
use Rattle.body.specs.End.{Ended, whole, dropped, refused_for, segment_bytes, ending}

-- ---- entries

-- an event, its byte (how many bytes of the stream there are up to and including it), and the store then
pub record Entry : Type 0 where
  pub event : Event
  pub at : ℕ
  pub store : List ℕ

-- a refusal is among them
abbrev pub refused_in : List Entry → Bool
refused_in [] = false
refused_in (e ∷ es) = passing e.event (refused_in es) (λ n. true)

-- the entries, and the store at the end
pub record Trace : Type 0 where
  pub entries : List Entry
  pub store : List ℕ

-- the list ends: its next judgement lies past the stream's end
abbrev pub ended : List ℕ → Trace
ended store = record { entries = []; store = store }

abbrev pub entry : Event → ℕ → List ℕ → Entry
entry event at store = record { event = event; at = at; store = store }

-- an entry, and what follows it
abbrev pub after : Event → ℕ → List ℕ → Trace → Trace
after event at store t = record { entries = entry event at store ∷ t.entries; store = t.store }

-- a refusal ends the list
abbrev pub refused_at : Numbers → ℕ → List ℕ → Trace
refused_at n at store = after (Refused n) at store (ended store)

abbrev pub unless_refused : Judged → ℕ → List ℕ → Trace → Trace
unless_refused fine at store t = t
unless_refused (refused n) at store t = refused_at n at store

-- ---- frames

-- zeros in the store's first T bytes
abbrev pub zeroed : Header → List ℕ → List ℕ
zeroed h store = replace_front (replicate (total h) 0) store

-- the byte at which segment 1's checksum ends, of a frame that begins at P and has one
abbrev pub first_sum_end : ℕ → Header → ℕ
first_sum_end P h = P + 36 + h.s1.len

-- segment 1's checksum, which msgr2.1 has behind a segment 1 that is not empty, is there and differs; b are the bytes behind the preamble
abbrev pub first_wrong : Revision → Header → List ℕ → Bool
first_wrong revision h b =
    not (no_first_sum revision h) && (leb (h.s1.len + 4) (length b) && not (eqb (number_at 4 h.s1.len b) (segment_sum (take h.s1.len b))))

-- its checksum is there, and more segments follow: segment 1 is reported early (02, K1)
abbrev pub first_reported : Revision → Header → List ℕ → Bool
first_reported revision h b = not (no_first_sum revision h) && (leb (h.s1.len + 4) (length b) && ltb 1 h.count)

-- the end of a body: a frame or a drop, with what follows, or a refusal
abbrev pub at_end : Ended → Header → ℕ → List ℕ → List ℕ → (List ℕ → Trace) → Trace
at_end whole h at store payload next = after (Frame h) at (replace_front payload store) (next (replace_front payload store))
at_end dropped h at store payload next = after (Dropped h) at (zeroed h store) (next (zeroed h store))
at_end (refused_for n) h at store payload next = refused_at n at (zeroed h store)

abbrev pub reported_first : Bool → Header → ℕ → List ℕ → Trace → Trace
reported_first b h at store t = cond b (after (First h) at store t) t

-- the bytes b behind the preamble, from P, of a frame whose preamble is accepted; next is what follows the frame
abbrev pub body_trace : Revision → Header → ℕ → List ℕ → List ℕ → (List ℕ → Trace) → Trace
body_trace revision h P b store next =
    cond (first_wrong revision h b) (refused_at (numbers_of (refusal.SegmentChecksum 1)) (first_sum_end P h) (zeroed h store))
    (reported_first (first_reported revision h b) h (first_sum_end P h) (replace_front (take h.s1.len b) store)
    (cond (ltb (length b) (body_length revision h)) (ended (replace_front (segment_bytes revision h b) store))
    (at_end (ending revision h (drop (total h + first_sum_length revision h) b) (segment_bytes revision h b)) h (P + wire_length revision h) store (segment_bytes revision h b) next)))

-- the frames from P on, of which rest is left. A frame has at least 32 bytes, so what is left bounds how many there are: the first argument is only that bound
unfoldable pub frames : ℕ → Revision → ℕ → List ℕ → List ℕ → Trace
frames zero revision P rest store = ended store
frames (suc f) revision P rest store =
    cond (ltb (length rest) 32) (ended store)
    (unless_refused (judge_preamble (take 32 rest) (length store)) (P + 32) store
    (body_trace revision (header_of (take 32 rest)) P (drop 32 rest) store
    (λ s. frames f revision (P + wire_length revision (header_of (take 32 rest))) (drop (wire_length revision (header_of (take 32 rest))) rest) s)))

-- ---- the banner, and frames behind it

-- the payload's length, and the features in it
abbrev pub payload_of : List ℕ → ℕ
payload_of stream = number_at 2 8 stream

-- the length of the banner: the frames begin behind so many bytes
abbrev pub frames_start : List ℕ → ℕ
frames_start stream = 10 + payload_of stream

abbrev pub peer_of : List ℕ → Features
peer_of stream = features_of (take 16 (drop 10 stream))

abbrev pub banner_trace : Features → List ℕ → List ℕ → Trace
banner_trace own stream store =
    unless_refused (judge_features own.supported own.required (peer_of stream).supported (peer_of stream).required) (frames_start stream) store
    (after (Banner (peer_of stream) (revision_of own.supported (peer_of stream).supported)) (frames_start stream) store
    (frames (length stream) (revision_of own.supported (peer_of stream).supported) (frames_start stream) (drop (frames_start stream) stream) store))

unfoldable pub stream_trace : Features → List ℕ → List ℕ → Trace
stream_trace own stream store =
    cond (ltb (length stream) 8) (ended store)
    (unless_refused (judge_magic (take 8 stream)) 8 store
    (cond (ltb (length stream) 10) (ended store)
    (unless_refused (judge_length (payload_of stream)) 10 store
    (cond (ltb (length stream) (frames_start stream)) (ended store) (banner_trace own stream store)))))

-- after a start refused with 16 the list is empty and the store stays
abbrev pub by_own : Judged → Trace → List ℕ → Trace
by_own fine t store = t
by_own (refused n) t store = ended store

-- THE DEFINITION
unfoldable pub trace_of : Features → List ℕ → List ℕ → Trace
trace_of own stream store = by_own (judge_own own.supported own.required) (stream_trace own stream store) store
