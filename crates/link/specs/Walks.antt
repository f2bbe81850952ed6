-- What the walk promises: of one call of the receiver, and of all bytes that it is lent at a time.
use Rattle.std.specs.Prelude.{◌≡◌, List, [], ◌∷◌, Bool, true, false, cond, Option, None, Some, is_some, unwrap_or, ℕ, ◌+◌, ◌≤◌, ◌<◌, length, take, drop}
use Rattle.stream.specs.declared.Event.{Event}
use Rattle.stream.specs.Stream.{Entry, entry, refused_in}
use Rattle.receiver.specs.declared.Received.{Received}
use Rattle.receiver.specs.Step.{Answered}
use Rattle.receiver.specs.Calls.{Call, Chained, taken_by, state_by, store_by, reported_by}
use Rattle.text.specs.Page.{Page, puts}
use Rattle.link.specs.declared.Segments.{Segments}
use Rattle.link.specs.declared.Walk.{Walk}
use Rattle.link.specs.Lines.{numbered, lines_of, entry_end_by, End, refused_at, open_end, end_of}

-- ---- counts, by the entries

-- the byte of the last banner, frame or drop
unfoldable pub last_of : ℕ → List Entry → ℕ
last_of p [] = p
last_of p (e ∷ es) = last_of (entry_end_by p e.event e.at) es

-- how many frames and drops there are
unfoldable pub frames_of : ℕ → List Entry → ℕ
frames_of k [] = k
frames_of k (e ∷ es) = frames_of (numbered k e.event) es

-- a walk that notes the entries es: the counts, the end where one is a refusal, and the lines of the text
pub record Noted (w : Walk) (es : List Entry) (text : Page) (r : Walk) (text' : Page) : Type 0 where
  pub entry-end : r.entry_end ≡ last_of w.entry_end es
  pub frames : r.frames ≡ frames_of w.frames es
  pub refused : is_some r.refused ≡ refused_in es
  pub end : is_some r.refused ≡ true → (bad : Bool) (n p : ℕ) → end_of bad n p es ≡ refused_at (unwrap_or r.refused 0) r.taken
  pub lines : text' ≡ puts (lines_of w.frames es) text

-- the end of a walk
abbrev pub end_at : Bool → Walk → End
end_at bad w = cond (is_some w.refused) (refused_at (unwrap_or w.refused 0) w.taken) (open_end bad w.taken w.entry_end)

-- ---- one call

-- n more bytes may come, and no count wraps
pub record Fits (w : Walk) (n : ℕ) : Type 0 where
  pub live : is_some w.refused ≡ false
  pub taken : w.taken + n < 18446744073709551616
  pub frames : w.frames + n < 18446744073709551615

abbrev pub framed : Walk → Walk
framed w = record { receiver = w.receiver; segments = w.segments; taken = w.taken; entry_end = w.taken; frames = w.frames + 1; refused = w.refused }

abbrev pub with_segments : Walk → Segments → Walk
with_segments w segments = record { receiver = w.receiver; segments = segments; taken = w.taken; entry_end = w.entry_end; frames = w.frames; refused = w.refused }

abbrev pub reported : Option Event → ℕ → List ℕ → List Entry
reported None at s = []
reported (Some e) at s = entry e at s ∷ []

pub record NotedEvent (w : Walk) (e : Event) (text : Page) (r : Walk) (text' : Page) : Type 0 where
  pub receiver : r.receiver ≡ w.receiver
  pub taken : r.taken ≡ w.taken
  pub noted : (s : List ℕ) → Noted w (entry e w.taken s ∷ []) text r text'

pub record Advanced (w : Walk) (s piece : List ℕ) (text : Page) (r : Walk) (s' : List ℕ) (text' : Page) : Type 0 where
  pub received : Received
  pub answered : Answered w.receiver s piece received s'
  pub state : r.receiver ≡ received.state
  pub taken : r.taken ≡ w.taken + received.taken
  pub noted : Noted w (reported received.report (w.taken + received.taken) s') text r text'
  -- no more than the piece is taken, and at least one byte of it, unless the stream is refused
  pub within : r.taken ≤ w.taken + length piece
  pub progress : is_some r.refused ≡ false → 0 < length piece → w.taken < r.taken
  pub frames-within : r.frames + w.taken ≤ w.frames + r.taken

-- ---- all bytes that are lent at a time

-- calls of the receiver, one behind the other, on the bytes of any stream that has them next
pub record Walked (w : Walk) (s bytes : List ℕ) (text : Page) (r : Walk) (s' : List ℕ) (text' : Page) : Type 0 where
  pub calls : List Call
  pub chained : (stream : List ℕ) → take (length bytes) (drop w.taken stream) ≡ bytes → Chained stream w.receiver s w.taken calls
  pub state : r.receiver ≡ state_by w.receiver calls
  pub store : s' ≡ store_by s calls
  pub taken : r.taken ≡ taken_by w.taken calls
  pub noted : Noted w (reported_by w.taken calls) text r text'
  -- they take all bytes, unless the stream is refused
  pub within : r.taken ≤ w.taken + length bytes
  pub whole : is_some r.refused ≡ false → r.taken ≡ w.taken + length bytes
  pub frames-within : r.frames + w.taken ≤ w.frames + r.taken
