-- Worked streams, computed from the definitions: what their entries ask of the session, in crc mode and sealed. First the fault that this is about: a receiver filled what was split
-- over two reads up with bytes of the frame before, took the result for an acknowledgement, and released a message that had never been written.
use Rattle.std.specs.Prelude as std
use Rattle.std.specs.Prelude.{Option, ◌≡◌, List, [], ◌∷◌, ◌++◌, map, true, false, ℕ, ◌<◌, length, take, drop, set, replicate}
use Rattle.refusal.specs.declared.Numbers.{Numbers}
use Rattle.refusal.specs.Refusals.{row}
use Rattle.banner.specs.declared.Features.{Features}
use Rattle.banner.specs.Banner.{banner_bytes}
use Rattle.stream.specs.Stream.{Entry, trace_of}
use Rattle.stream.specs.Rows.{Row, ◌⇒◌, Holds, features, segment, header}
use Rattle.aes.specs.Aes.{key_expansion}
use Rattle.aes.specs.Counter.{gctr}
use Rattle.gcm.specs.Gcm.{tag_of, sealed}
use Rattle.connection.specs.Switched.{Switch, none, behind, trace_with}
use Rattle.connection.specs.Calls.{taken_by, switch_by}
use Rattle.session.specs.declared.Session.{Session}
use Rattle.session.specs.declared.Message.{Message}
use Rattle.session.specs.declared.Answer.{Answer}
use Rattle.session.specs.Worked.{Accepted, Done, Resend, Refused, At}
use Rattle.session.specs.Calls.{held_of, fresh_session}
use Rattle.session.specs.Laws as session
use Rattle.session.specs.Laws.{call_of, resent_by}
use Rattle.session.specs.History.{session_by}
use Rattle.delivery.specs.declared.Request.{Request}
use Rattle.delivery.specs.declared.Request.TheVariants.{Nothing, Ack, Reconnect, Reset, Malformed}
use Rattle.delivery.specs.declared.Effect.{Effect}
use Rattle.delivery.specs.declared.Effect.TheVariants as effect
use Rattle.delivery.specs.declared.Applied.{Applied}
use Rattle.delivery.specs.declared.Connected.{Connected}
use Rattle.delivery.specs.Requests.{request_by_frame, request_by, applied, done_to, ConnectedWith}
use Rattle.delivery.specs.Calls.{Call, piece, tried, accepted, handed, Chained, session_after, Connection, Connects, session_after_all, on_connection, sends, hands, receives, calls_due, played, history_of, answers_in, history_answers, Covered}

-- ---- what the rows are made of

abbrev pub ours : Features
ours = features 1 0

abbrev pub store : List ℕ
store = replicate 48 0xAA

abbrev pub entry_request : Entry → Request
entry_request e = request_by e.event e.store

-- what each entry of a stream asks
abbrev pub requests : List ℕ → List Request
requests stream = map entry_request (trace_of ours stream store).entries

-- a preamble with one segment, of a tag, a length and the two bytes of an alignment, and its checksum; most have an alignment of 8
abbrev aligned : ℕ → ℕ → ℕ → ℕ → List ℕ → List ℕ
aligned tag len low high sum = tag ∷ 1 ∷ len ∷ 0 ∷ 0 ∷ 0 ∷ low ∷ high ∷ (replicate 20 0 ++ sum)

abbrev preamble : ℕ → ℕ → List ℕ → List ℕ
preamble tag len sum = aligned tag len 8 0 sum

-- a number of eight bytes
abbrev seq : ℕ → List ℕ
seq n = n ∷ replicate 7 0

-- acknowledgements of 1 and of 3, as bytes of msgr2.1
abbrev pub ack1 : List ℕ
ack1 = preamble 20 8 (0x73 ∷ 0x74 ∷ 0xBC ∷ 0x5B ∷ []) ++ seq 1 ++ (0x52 ∷ 0x30 ∷ 0xEB ∷ 0x3A ∷ [])

abbrev pub ack3 : List ℕ
ack3 = preamble 20 8 (0x73 ∷ 0x74 ∷ 0xBC ∷ 0x5B ∷ []) ++ seq 3 ++ (0x1C ∷ 0xCA ∷ 0x93 ∷ 0xA8 ∷ [])

-- a message whose last bytes happen to be the end of such a frame: 16 bytes, then what stands behind the first 16 bytes of an acknowledgement of 3
abbrev pub message : List ℕ
message = preamble 17 44 (0x9C ∷ 0x02 ∷ 0x10 ∷ 0x6B ∷ []) ++ replicate 16 0x2A ++ drop 16 ack3 ++ (0xA4 ∷ 0x27 ∷ 0x2A ∷ 0x75 ∷ [])

-- behind the message, an acknowledgement of 1 that is split after 16 bytes
abbrev pub first_half : List ℕ
first_half = take 16 ack1

-- filled up with bytes of the frame before, from the place on where the first half ends
abbrev pub filled_up : List ℕ
filled_up = first_half ++ take 28 (drop 48 message)

-- the frames behind either banner
abbrev behind21 : List ℕ → List Request → Row (List Request)
behind21 frames wanted = requests (banner_bytes 1 0 ++ frames) ⇒ (Nothing ∷ wanted)

abbrev behind20 : List ℕ → List Request → Row (List Request)
behind20 frames wanted = requests (banner_bytes 0 0 ++ frames) ⇒ (Nothing ∷ wanted)

-- ---- the fault

unfoldable pub fault_rows : List (Row (List Request))
fault_rows =
    -- what that receiver took the first half for: an acknowledgement of 3, with all its checksums right
    behind21 filled_up (Ack 3 ∷ [])
    -- what the definition has
    ∷ behind21 (message ++ first_half) (Nothing ∷ [])
    ∷ behind21 (message ++ ack1) (Nothing ∷ Ack 1 ∷ [])
    ∷ []

-- all but the last byte of the true acknowledgement
abbrev pub split : List ℕ
split = banner_bytes 1 0 ++ message ++ take 43 ack1

-- and all of it
abbrev pub acked : List ℕ
acked = banner_bytes 1 0 ++ message ++ ack1

-- the caller's own calls
abbrev pub own_calls : List Call → List session.Call
own_calls [] = []
own_calls (piece size r s ∷ cs) = own_calls cs
own_calls (tried key receiving sending r ∷ cs) = own_calls cs
own_calls (accepted h r ∷ cs) = session.accept h ∷ own_calls cs
own_calls (handed n r ∷ cs) = session.ack n ∷ own_calls cs

-- read under every cutting, with a switch of which this holds, a stream releases nothing: the session is where the caller's own calls lead
abbrev pub ReleasesNothing : (Switch → Type 0) → List ℕ → Type 0
ReleasesNothing Made stream =
    (s : Session) (k : Connected) (cs : List Call) → ConnectedWith s ours k → Chained stream k.state store 0 cs → Made (switch_by 0 (on_connection cs))
    → session_after s cs ≡ session_by s (played s (own_calls cs))

-- any switch, or none
abbrev pub Any : Switch → Type 0
Any sw = Unit {0}

-- read under every cutting, with this switch, all n bytes of a stream make one call of the session, and the caller is told its answer, once
abbrev pub Completes : Switch → List ℕ → ℕ → session.Call → Type 0
Completes sw stream n call =
    (s : Session) (k : Connected) (cs : List Call) → ConnectedWith s ours k → Chained stream k.state store 0 cs → switch_by 0 (on_connection cs) ≡ sw → own_calls cs ≡ []
    → taken_by 0 (on_connection cs) ≡ n → (session_after s cs ≡ (call_of s call).session) × (answers_in cs ≡ (call_of s call).answer ∷ [])

-- ---- what is released

-- three messages were sent
abbrev pub first : Message
first = record { number = 1; handle = 7 }

abbrev pub second : Message
second = record { number = 2; handle = 8 }

abbrev pub third : Message
third = record { number = 3; handle = 9 }

abbrev pub sent : Session
sent = session_by fresh_session (played fresh_session (session.accept 7 ∷ session.accept 8 ∷ session.accept 9 ∷ []))

-- what is then held, by what entries ask, and those of a stream
abbrev pub held_by : List Entry → List Message
held_by es = held_of (session_by sent (played sent (calls_due (map receives es))))

abbrev held_after : List ℕ → List Message
held_after stream = held_by (trace_of ours stream store).entries

unfoldable pub held_rows : List (Row (List Message))
held_rows =
    -- all but the last byte of an acknowledgement of 1, and all of it
    held_after split ⇒ (first ∷ second ∷ third ∷ [])
    ∷ held_after acked ⇒ (second ∷ third ∷ [])
    -- the fault: all three buffers, where one take was written
    ∷ held_after (banner_bytes 1 0 ++ filled_up) ⇒ []
    -- a number that the caller hands in
    ∷ held_of (session_by fresh_session (history_of (sends 7 ∷ sends 8 ∷ sends 9 ∷ hands 2 ∷ []))) ⇒ (third ∷ [])
    ∷ []

-- what is held after something is asked, what the caller is told, and what is sent again
pub record Result : Type 0 where
  pub held : List Message
  pub effect : Effect
  pub again : List (std.Result (Option Message) Numbers)

abbrev result : List Message → Effect → List (std.Result (Option Message) Numbers) → Result
result ms e hs = record { held = ms; effect = e; again = hs }

abbrev again_by : Effect → Session → List (std.Result (Option Message) Numbers)
again_by effect.Nothing s = []
again_by (effect.Malformed n) s = []
again_by (effect.Answer r) s = resent_by r s

abbrev result_of : Request → Result
result_of a = result (held_of (done_to sent a).session) (done_to sent a).effect (again_by (done_to sent a).effect (done_to sent a).session)

unfoldable pub result_rows : List (Row Result)
result_rows =
    result_of Nothing ⇒ result (first ∷ second ∷ third ∷ []) effect.Nothing []
    ∷ result_of (Ack 0) ⇒ result (first ∷ second ∷ third ∷ []) (effect.Answer Done) []
    ∷ result_of (Ack 1) ⇒ result (second ∷ third ∷ []) (effect.Answer Done) []
    ∷ result_of (Ack 3) ⇒ result [] (effect.Answer Done) []
    -- more than was sent
    ∷ result_of (Ack 4) ⇒ result (first ∷ second ∷ third ∷ []) (effect.Answer (Refused (row 23 0 0 0))) []
    -- what was not acknowledged is sent again
    ∷ result_of (Reconnect 2) ⇒ result (third ∷ []) (effect.Answer (Resend 1)) (At third ∷ [])
    ∷ result_of (Reconnect 0) ⇒ result (first ∷ second ∷ third ∷ []) (effect.Answer (Resend 3)) (At first ∷ At second ∷ At third ∷ [])
    ∷ result_of (Reconnect 4) ⇒ result (first ∷ second ∷ third ∷ []) (effect.Answer (Refused (row 23 0 0 0))) []
    -- a full reset drops all
    ∷ result_of (Reset true) ⇒ result [] (effect.Answer Done) []
    ∷ result_of (Reset false) ⇒ result (first ∷ second ∷ third ∷ []) (effect.Answer Done) []
    -- a body that is malformed
    ∷ result_of (Malformed (row 20 8 0 0)) ⇒ result (first ∷ second ∷ third ∷ []) (effect.Malformed (row 20 8 0 0)) []
    ∷ []

-- a session that contradicts itself is left as it is, and says 26
abbrev broken : Session
broken = record { handles = replicate 64 0; released = 1; last = 0 }

abbrev says26 : Request → Row Applied
says26 a = done_to broken a ⇒ applied broken (effect.Answer (Refused (row 26 0 0 0)))

unfoldable pub broken_rows : List (Row Applied)
broken_rows = says26 (Reset true) ∷ says26 (Reset false) ∷ says26 (Ack 0) ∷ says26 (Reconnect 1) ∷ []

-- what the caller's own calls are told
unfoldable pub answer_rows : List (Row (List (std.Result Answer Numbers)))
answer_rows =
    history_answers (history_of (sends 7 ∷ sends 8 ∷ hands 1 ∷ hands 3 ∷ [])) ⇒ (Accepted 1 ∷ Accepted 2 ∷ Done ∷ Refused (row 23 0 0 0) ∷ [])
    ∷ []

-- ---- a connection that ends in an acknowledgement, and the next one, which tells how far the peer came

-- with our features and the store
abbrev pub reading : List ℕ → Connected → List Call → Connection
reading stream k cs = record { own = ours; stream = stream; store = store; connected = k; calls = cs }

-- a reconnect_ok of 1
abbrev pub resumed : List ℕ
resumed = banner_bytes 1 0 ++ preamble 15 8 (0x61 ∷ 0x82 ∷ 0x7C ∷ 0xBF ∷ []) ++ seq 1 ++ (0x52 ∷ 0x30 ∷ 0xEB ∷ 0x3A ∷ [])

-- read under every cutting: two messages are sent on the first, the second of them is still held after the other, and the caller is told to send it again
abbrev pub Resumes : Type 0
Resumes =
    (k l : Connected) (cs ds : List Call) → Connects fresh_session (reading split k cs ∷ reading resumed l ds ∷ [])
    → own_calls cs ≡ session.accept 7 ∷ session.accept 8 ∷ []
    → switch_by 0 (on_connection ds) ≡ none → own_calls ds ≡ [] → taken_by 0 (on_connection ds) ≡ length resumed
    → (held_of (session_after_all fresh_session (reading split k cs ∷ reading resumed l ds ∷ [])) ≡ second ∷ []) × (answers_in ds ≡ Resend 1 ∷ [])

-- ---- other frames

-- a number whose eight bytes all differ, and 0, as bodies with their checksums
abbrev eight : List ℕ
eight = 1 ∷ 2 ∷ 3 ∷ 4 ∷ 5 ∷ 6 ∷ 7 ∷ 8 ∷ 0x7E ∷ 0xE0 ∷ 0x76 ∷ 0xB9 ∷ []

abbrev zeros : List ℕ
zeros = seq 0 ++ (0x75 ∷ 0x4D ∷ 0xD7 ∷ 0x73 ∷ [])

-- an acknowledgement of 1 in msgr2.0, by its late_flags; one with a second segment of one byte, up to that
abbrev acked20 : ℕ → List ℕ
acked20 late = take 40 ack1 ++ (late ∷ drop 40 ack1) ++ replicate 12 0

abbrev two_segments : List ℕ
two_segments = (0x14 ∷ 2 ∷ 8 ∷ 0 ∷ 0 ∷ 0 ∷ 8 ∷ 0 ∷ 1 ∷ 0 ∷ 0 ∷ 0 ∷ 8 ∷ 0 ∷ []) ++ replicate 14 0 ++ (0x09 ∷ 0x1B ∷ 0x59 ∷ 0x07 ∷ []) ++ drop 32 ack1

-- its end: whole, and aborted
abbrev pub two_whole : List ℕ
two_whole = two_segments ++ (0x2A ∷ 0x0E ∷ 0x48 ∷ 0x0A ∷ 0xDD ∷ 0xE6 ∷ []) ++ replicate 8 0

abbrev pub two_aborted : List ℕ
two_aborted = two_segments ++ (0x00 ∷ 0x01 ∷ 0xAE ∷ 0xAC ∷ 0x82 ∷ 0xAD ∷ []) ++ replicate 8 0

-- resets of 0 and 2, and a frame with another tag and the body of an acknowledgement
abbrev pub reset0 : List ℕ
reset0 = preamble 12 1 (0x4A ∷ 0xBB ∷ 0x98 ∷ 0x19 ∷ []) ++ (0 ∷ 0xAE ∷ 0xAC ∷ 0x82 ∷ 0xAD ∷ [])

abbrev pub reset2 : List ℕ
reset2 = preamble 12 1 (0x4A ∷ 0xBB ∷ 0x98 ∷ 0x19 ∷ []) ++ (2 ∷ 0x59 ∷ 0xDC ∷ 0xB9 ∷ 0x4C ∷ [])

abbrev pub tag10 : List ℕ
tag10 = preamble 10 8 (0x67 ∷ 0xC8 ∷ 0xE7 ∷ 0x9E ∷ []) ++ seq 1 ++ (0x52 ∷ 0x30 ∷ 0xEB ∷ 0x3A ∷ [])

unfoldable pub frame_rows : List (Row (List Request))
frame_rows =
    -- a reconnect_ok
    behind21 (preamble 15 8 (0x61 ∷ 0x82 ∷ 0x7C ∷ 0xBF ∷ []) ++ seq 2 ++ (0x3B ∷ 0xB7 ∷ 0xAF ∷ 0xE1 ∷ [])) (Reconnect 2 ∷ [])
    -- resets: only 1 is full
    ∷ behind21 (preamble 12 1 (0x4A ∷ 0xBB ∷ 0x98 ∷ 0x19 ∷ []) ++ (1 ∷ 0xAD ∷ 0x2F ∷ 0xE9 ∷ 0x5F ∷ [])) (Reset true ∷ [])
    ∷ behind21 reset0 (Reset false ∷ [])
    ∷ behind21 reset2 (Reset false ∷ [])
    -- a keepalive's ack is none
    ∷ behind21 (preamble 19 8 (0xEC ∷ 0x5E ∷ 0xE0 ∷ 0x3B ∷ []) ++ seq 1 ++ (0x52 ∷ 0x30 ∷ 0xEB ∷ 0x3A ∷ [])) (Nothing ∷ [])
    -- no body is read for another tag
    ∷ behind21 tag10 (Nothing ∷ [])
    -- a reset without a byte, one with two, a reconnect_ok of seven bytes
    ∷ behind21 (preamble 12 0 (0x45 ∷ 0x3F ∷ 0x36 ∷ 0x34 ∷ [])) (Malformed (row 20 0 0 0) ∷ [])
    ∷ behind21 (preamble 12 2 (0x5B ∷ 0x37 ∷ 0x6B ∷ 0x6F ∷ []) ++ (1 ∷ 0 ∷ 0x5A ∷ 0x10 ∷ 0x3C ∷ 0x1D ∷ [])) (Malformed (row 20 1 0 0) ∷ [])
    ∷ behind21 (preamble 15 7 (0xC5 ∷ 0x48 ∷ 0xAD ∷ 0x17 ∷ []) ++ take 7 (seq 2) ++ (0x02 ∷ 0xCC ∷ 0xC7 ∷ 0x94 ∷ [])) (Malformed (row 20 0 0 0) ∷ [])
    -- bodies of seven and of nine bytes
    ∷ behind21 (preamble 20 7 (0xD7 ∷ 0xBE ∷ 0x6D ∷ 0xF3 ∷ []) ++ take 7 (seq 1) ++ (0x5A ∷ 0xB9 ∷ 0xC2 ∷ 0x2C ∷ [])) (Malformed (row 20 0 0 0) ∷ [])
    ∷ behind21 (preamble 20 9 (0x7C ∷ 0xF0 ∷ 0x12 ∷ 0x76 ∷ []) ++ seq 1 ++ (0 ∷ 0x14 ∷ 0x41 ∷ 0x24 ∷ 0xB0 ∷ [])) (Malformed (row 20 8 0 0) ∷ [])
    -- a second segment, which is left over; and the same frame aborted
    ∷ behind21 two_whole (Nothing ∷ Malformed (row 20 8 0 0) ∷ [])
    ∷ behind21 two_aborted (Nothing ∷ Nothing ∷ [])
    -- msgr2.0, whole and aborted
    ∷ behind20 (acked20 0) (Ack 1 ∷ [])
    ∷ behind20 (acked20 1) (Nothing ∷ [])
    -- a byte of the body, and one of the preamble, that differs
    ∷ behind21 (set ack1 32 3) (Nothing ∷ [])
    ∷ behind21 (set ack1 0 15) (Nothing ∷ [])
    -- a refused stream, with a true acknowledgement behind the byte that differs
    ∷ behind21 (set ack1 32 3 ++ ack1) (Nothing ∷ [])
    -- every byte of a number counts, whatever the alignment; and 0 is one too
    ∷ behind21 (aligned 20 8 0 1 (0xDC ∷ 0x91 ∷ 0xC1 ∷ 0xBD ∷ []) ++ eight) (Ack 578437695752307201 ∷ [])
    ∷ behind21 (aligned 15 8 0 0 (0x23 ∷ 0x1A ∷ 0x0B ∷ 0x54 ∷ []) ++ eight) (Reconnect 578437695752307201 ∷ [])
    ∷ behind21 (aligned 20 8 0 0 (0x31 ∷ 0xEC ∷ 0xCB ∷ 0xB0 ∷ []) ++ zeros) (Ack 0 ∷ [])
    ∷ behind21 (preamble 15 8 (0x61 ∷ 0x82 ∷ 0x7C ∷ 0xBF ∷ []) ++ zeros) (Reconnect 0 ∷ [])
    ∷ []

-- every tag, on a whole frame of one segment whose body is the number 1
abbrev one : ℕ → Request
one tag = request_by_frame (header tag 1 (segment 8 8) (segment 0 0) (segment 0 0) (segment 0 0)) (seq 1 ++ store)

unfoldable pub tag_rows : List (Row (List Request))
tag_rows =
    map one (1 ∷ 2 ∷ 3 ∷ 4 ∷ 5 ∷ 6 ∷ 7 ∷ 8 ∷ 9 ∷ 10 ∷ 11 ∷ []) ⇒ replicate 11 Nothing
    -- a reset has a body of one byte
    ∷ map one (12 ∷ 13 ∷ 14 ∷ 15 ∷ []) ⇒ (Malformed (row 20 1 0 0) ∷ Nothing ∷ Nothing ∷ Reconnect 1 ∷ [])
    ∷ map one (16 ∷ 17 ∷ 18 ∷ 19 ∷ 20 ∷ []) ⇒ (Nothing ∷ Nothing ∷ Nothing ∷ Nothing ∷ Ack 1 ∷ [])
    ∷ []

-- resets by their byte: only 1 is full
abbrev reset_by : ℕ → Request
reset_by b = request_by_frame (header 12 1 (segment 1 8) (segment 0 0) (segment 0 0) (segment 0 0)) (b ∷ store)

unfoldable pub reset_rows : List (Row (List Request))
reset_rows =
    map reset_by (0 ∷ 1 ∷ 2 ∷ []) ⇒ (Reset false ∷ Reset true ∷ Reset false ∷ [])
    ∷ map reset_by (3 ∷ 128 ∷ 255 ∷ []) ⇒ replicate 3 (Reset false)
    ∷ []

-- whole frames by their segments' lengths: what is left over is malformed, behind a body that reads well, and else the body's own fault is told
abbrev segmented : ℕ → ℕ → ℕ → ℕ → ℕ → ℕ → Request
segmented tag count a b c d = request_by_frame (header tag count (segment a 8) (segment b 8) (segment c 8) (segment d 8)) (seq 1 ++ store)

unfoldable pub segment_rows : List (Row Request)
segment_rows =
    segmented 20 1 8 0 0 0 ⇒ Ack 1
    ∷ segmented 20 2 8 1 0 0 ⇒ Malformed (row 20 8 0 0)
    ∷ segmented 20 3 8 0 1 0 ⇒ Malformed (row 20 8 0 0)
    ∷ segmented 20 4 8 0 0 1 ⇒ Malformed (row 20 8 0 0)
    ∷ segmented 15 2 8 1 0 0 ⇒ Malformed (row 20 8 0 0)
    ∷ segmented 12 2 1 1 0 0 ⇒ Malformed (row 20 1 0 0)
    ∷ segmented 20 2 7 1 0 0 ⇒ Malformed (row 20 0 0 0)
    ∷ segmented 20 2 9 1 0 0 ⇒ Malformed (row 20 8 0 0)
    ∷ segmented 15 1 9 0 0 0 ⇒ Malformed (row 20 8 0 0)
    ∷ []

-- ---- what is no reason

-- of these entries none is a reason why the message m is no longer held
abbrev pub NoReason : ℕ → List Entry → Type 0
NoReason m es = Covered m (map receives es) → ⊥

-- none of what a stream of msgr2.1 frames has is one, for any message
abbrev pub NoneIn : List ℕ → Type 0
NoneIn frames = (m : ℕ) → NoReason m (trace_of ours (banner_bytes 1 0 ++ frames) store).entries

pub record Reasons : Type 0 where
  -- the split stream has none for any message, with any switch
  pub unfinished : (sw : Switch) (m : ℕ) → NoReason m (trace_with sw ours split store).entries
  -- an acknowledgement of 1 is none for message 2
  pub other : NoReason 2 (trace_of ours acked store).entries
  -- nor is a number that was handed in for a higher one
  pub lower : Covered 3 (sends 9 ∷ hands 2 ∷ []) → ⊥
  -- and for any message: a reset that is not full, a second segment, an aborted frame, another tag, a body whose checksum differs
  pub not_full : NoneIn reset0
  pub neither_full : NoneIn reset2
  pub segments : NoneIn two_whole
  pub aborted : NoneIn two_aborted
  pub other_tag : NoneIn tag10
  pub damaged : NoneIn (set ack1 32 3)

-- ---- sealed acknowledgements, with any key and any nonce: behind the message the stream is switched

-- the text of the first part, the only one: the preamble and the body of an acknowledgement of 1, and what pads it
abbrev pub ack_text : List ℕ
ack_text = take 40 ack1 ++ replicate 40 0

-- sealed, it is masked, and its tag stands behind it
abbrev pub masked : List ℕ → List ℕ → List ℕ
masked key nonce = gctr (key_expansion key) nonce ack_text

abbrev pub sealed_ack : List ℕ → List ℕ → List ℕ
sealed_ack key nonce = sealed key nonce ack_text

abbrev pub behind_message : List ℕ → List ℕ
behind_message bytes = banner_bytes 1 0 ++ message ++ bytes

abbrev pub sealed_entries : List ℕ → List ℕ → List ℕ → List Entry
sealed_entries key nonce bytes = (trace_with (behind 1 key nonce) ours (behind_message bytes) store).entries

pub record SealedAck (key nonce : List ℕ) : Type 0 where
  -- whole, it acknowledges: message 1 is released
  pub requests : map entry_request (sealed_entries key nonce (sealed_ack key nonce)) ≡ Nothing ∷ Nothing ∷ Ack 1 ∷ []
  pub releases : held_by (sealed_entries key nonce (sealed_ack key nonce)) ≡ second ∷ third ∷ []
  -- with any other tag it asks nothing, and nothing is released
  pub damaged : (tag : List ℕ) → length tag ≡ 16 → (tag ≡ tag_of (key_expansion key) nonce (masked key nonce) → ⊥)
      → (map entry_request (sealed_entries key nonce (masked key nonce ++ tag)) ≡ Nothing ∷ Nothing ∷ Nothing ∷ [])
      × (held_by (sealed_entries key nonce (masked key nonce ++ tag)) ≡ first ∷ second ∷ third ∷ [])
  -- split behind any byte but its last, read under every cutting, it releases nothing
  pub splits : (n : ℕ) → n < 96 → ReleasesNothing (λ sw. sw ≡ behind 1 key nonce) (behind_message (take n (sealed_ack key nonce)))
  -- and with its last byte, split over two calls or more or not at all, it acknowledges, and the caller is told so, once
  pub completes : Completes (behind 1 key nonce) (behind_message (sealed_ack key nonce)) 202 (session.ack 1)

-- THE CLAIM
unfoldable pub Worked : Type 0
Worked =
    (filled_up ≡ ack3)
    × Holds fault_rows
    × ReleasesNothing Any split
    × Completes none acked (length acked) (session.ack 1)
    × Resumes
    × Holds held_rows
    × Holds result_rows
    × Holds broken_rows
    × Holds answer_rows
    × Holds frame_rows
    × Holds tag_rows
    × Holds reset_rows
    × Holds segment_rows
    × Reasons
    × ((key nonce : List ℕ) → SealedAck key nonce)
