-- Demand 2 of sealed frames, "handed over exactly when" (02, K4): the checks of a sealed frame at its place, said one beside the other, and the claim that a frame
-- or a drop is reported there if and only if they hold. Good tags, nonces not yet used and zero padding stand in it for the segment checksums.
use Rattle.std.specs.Prelude.{◌≡◌, ◌↔◌, List, ◌∷◌, ◌++◌, true, false, cond, ℕ, zero, suc, ◌+◌, ◌-◌, ◌≤◌, ◌<◌, length, take, drop, get_or}
use Rattle.refusal.specs.Refusals.{fine}
use Rattle.banner.specs.declared.Features.{Features}
use Rattle.banner.specs.declared.Revision.{Revision}
use Rattle.banner.specs.declared.Revision.TheVariants.{Msgr21}
use Rattle.banner.specs.Banner.{judge_own}
use Rattle.preamble.specs.declared.Header.{Header}
use Rattle.preamble.specs.Judge.{header_of, judge_store}
use Rattle.preamble.specs.Checked.{CheckedPreamble}
use Rattle.body.specs.declared.Late.{Late}
use Rattle.body.specs.declared.Late.TheVariants as late
use Rattle.body.specs.End.{late_of}
use Rattle.stream.specs.declared.Event.TheVariants.{Frame, Dropped}
use Rattle.stream.specs.Stream.{Entry, entry, refused_in}
use Rattle.aes.specs.Aes.{State, key_expansion}
use Rattle.gcm.specs.Gcm.{plain, opened_by}
use Rattle.secure.specs.Layout.{all_nonces, next_nonce, nonce_after, round_up, inline_length, last_lengths, first_length, no_second_part, no_last_part, second_part_length, last_part_length, sealed_length, part_count, needed}
use Rattle.secure.specs.Reading.{zeroed, holding, sealed_trace}
use Rattle.sealed_receiver.specs.Step.{text_of}
use Rattle.ends.specs.Handed.{is_frame, is_drop, first_is}
use Rattle.connection.specs.Switched.{trace_with}
use Rattle.connection.specs.Step.{begun}
use Rattle.connection.specs.Calls.{Call, Chained, taken_by, list_of, switch_by}
use Rattle.sealed_ends.specs.Fronts.{Front, bytes_in, sealed_in, switch_in, trace_in, spent_in, next_in, Begins}

-- ---- the parts of the frame at the front of X, of which the first has this nonce; w are the round keys

-- what a part opens to
abbrev pub text_in : List State → List ℕ → List ℕ → List ℕ
text_in w nonce bytes = text_of (opened_by w nonce bytes)

-- its tag is good
abbrev pub Opens : List State → List ℕ → List ℕ → Type 0
Opens w nonce bytes = (text : List ℕ) × (opened_by w nonce bytes ≡ plain text)

abbrev pub first_bytes : List ℕ → List ℕ
first_bytes X = take first_length X

abbrev pub first_in : List State → List ℕ → List ℕ → List ℕ
first_in w nonce X = text_in w nonce (first_bytes X)

unfoldable pub header_in : List State → List ℕ → List ℕ → Header
header_in w nonce X = header_of (first_in w nonce X)

-- the rest of segment 1, where there is one
abbrev pub second_bytes : Header → List ℕ → List ℕ
second_bytes h X = take (second_part_length h) (drop first_length X)

abbrev pub second_in : List State → List ℕ → Header → List ℕ → List ℕ
second_in w nonce h X = text_in w (next_nonce nonce) (second_bytes h X)

-- and the last part; its nonce is that behind the parts before it
abbrev pub last_bytes : Header → List ℕ → List ℕ
last_bytes h X = take (last_part_length h) (drop (first_length + second_part_length h) X)

abbrev pub last_nonce : Header → List ℕ → List ℕ
last_nonce h nonce = nonce_after (1 + cond (no_second_part h) 0 1) nonce

abbrev pub last_in : List State → List ℕ → Header → List ℕ → List ℕ
last_in w nonce h X = text_in w (last_nonce h nonce) (last_bytes h X)

-- ---- what stands in the texts of its first part, of the rest of segment 1 and of its last part

-- segments 2 to 4, counted from 0: how long each is, and where it stands in the last text; at 3 the epilogue
abbrev pub length_at : Header → ℕ → ℕ
length_at h k = get_or (last_lengths h) k 0

abbrev pub place_at : Header → ℕ → ℕ
place_at h zero = 0
place_at h (suc k) = place_at h k + round_up (length_at h k)

abbrev pub segment_at : Header → ℕ → List ℕ → List ℕ
segment_at h k last = take (length_at h k) (drop (place_at h k) last)

-- all segments, one behind the other
abbrev pub segments_of : Header → List ℕ → List ℕ → List ℕ → List ℕ
segments_of h first rest last =
    take h.s1.len (drop 32 first) ++ take (h.s1.len - inline_length) rest ++ segment_at h 0 last ++ segment_at h 1 last ++ segment_at h 2 last

-- whether the frame is complete, by its late status; a frame without one always is
abbrev pub late_by : Header → List ℕ → Late
late_by h last = cond (no_last_part h) late.Complete (late_of Msgr21 (get_or last (place_at h 3) 0))

-- bytes i up to k of a text are zeros
abbrev pub ZerosAt : ℕ → ℕ → List ℕ → Type 0
ZerosAt i k text = (j : ℕ) → i ≤ j → j < k → get_or text j 0 ≡ 0

-- all padding is zero: behind segment 1 in the inline buffer, behind its rest, behind each other segment, and behind the late status
pub record Padded (h : Header) (first rest last : List ℕ) : Type 0 where
  pub inline : ZerosAt (32 + h.s1.len) (32 + inline_length) first
  pub second : no_second_part h ≡ false → ZerosAt (h.s1.len - inline_length) (round_up (h.s1.len - inline_length)) rest
  pub segments : no_last_part h ≡ false → (k : ℕ) → k < 3 → ZerosAt (place_at h k + length_at h k) (place_at h (suc k)) last
  pub epilogue : no_last_part h ≡ false → ZerosAt (place_at h 3 + 1) (place_at h 3 + 16) last

-- ---- the checks of the whole frame, behind n parts that were opened, in a store of so many bytes

pub record CheckedSealed (kind : Late) (w : List State) (nonce : List ℕ) (n : ℕ) (X : List ℕ) (store : ℕ) : Type 0 where
  pub arrived : sealed_length (header_in w nonce X) ≤ length X
  -- the nonce of each part was not used before
  pub nonces : (k : ℕ) → k < part_count (header_in w nonce X) → n + k < all_nonces
  -- and its tag is good
  pub first : Opens w nonce (first_bytes X)
  pub second : no_second_part (header_in w nonce X) ≡ false → Opens w (next_nonce nonce) (second_bytes (header_in w nonce X) X)
  pub last : no_last_part (header_in w nonce X) ≡ false → Opens w (last_nonce (header_in w nonce X) nonce) (last_bytes (header_in w nonce X) X)
  pub preamble : CheckedPreamble (first_in w nonce X)
  pub room : judge_store (needed (header_in w nonce X)) store ≡ fine
  pub padding : Padded (header_in w nonce X) (first_in w nonce X) (second_in w nonce (header_in w nonce X) X) (last_in w nonce (header_in w nonce X) X)
  -- complete or aborted
  pub late : late_by (header_in w nonce X) (last_in w nonce (header_in w nonce X) X) ≡ kind

-- its segments
abbrev pub segments_in : List State → List ℕ → Header → List ℕ → List ℕ
segments_in w nonce h X = segments_of h (first_in w nonce X) (second_in w nonce h X) (last_in w nonce h X)

-- ---- the claim

-- es are the entries from byte P on, where X is the rest of the stream, s the store, and n parts were opened with the nonces before this one
pub record ExactlySealed (w : List State) (nonce : List ℕ) (n P : ℕ) (X s : List ℕ) (es : List Entry) : Type 0 where
  -- a frame is reported if and only if the checks hold: with its fields, at its last byte, its segments at the store's front and zeros behind them in what it needs
  pub handed : first_is is_frame es ≡ true ↔ CheckedSealed late.Complete w nonce n X (length s)
  pub frames : first_is is_frame es ≡ true
      → (later : List Entry)
      × (es
      ≡ entry (Frame (header_in w nonce X)) (P + sealed_length (header_in w nonce X)) (holding (header_in w nonce X) (segments_in w nonce (header_in w nonce X) X) s)
      ∷ later)
  -- and a drop, with zeros in what it needs of the store
  pub dropped : first_is is_drop es ≡ true ↔ CheckedSealed late.Aborted w nonce n X (length s)
  pub drops : first_is is_drop es ≡ true
      → (later : List Entry)
      × (es ≡ entry (Dropped (header_in w nonce X)) (P + sealed_length (header_in w nonce X)) (zeroed (header_in w nonce X) s) ∷ later)

-- all are the entries of a front at whose end a sealed frame begins, and then those of X
pub record SealedBehind (own : Features) (store : List ℕ) (F : Front) (X : List ℕ) (all : List Entry) : Type 0 where
  pub later : List Entry
  pub entries : all ≡ (trace_in own store F).entries ++ later
  pub exactly : ExactlySealed (key_expansion F.key) (next_in own store F) (spent_in own store F) (length (bytes_in F)) X (sealed_in own store F).store later

-- the frame at the front of X
abbrev pub header_behind : Features → List ℕ → Front → List ℕ → Header
header_behind own store F X = header_in (key_expansion F.key) (next_in own store F) X

-- calls that took the bytes of that frame, or every byte, or were refused
pub data Through (own : Features) (store : List ℕ) (F : Front) (X : List ℕ) (cs : List Call) : Type 0 where
  frame-taken : length (bytes_in F) + sealed_length (header_behind own store F X) ≤ taken_by 0 cs → Through own store F X cs
  all-taken : taken_by 0 cs ≡ length (bytes_in F ++ X) → Through own store F X cs
  refused : refused_in (list_of (judge_own own.supported own.required) cs) ≡ true → Through own store F X cs

-- of the stream that begins with F and goes on with X; calls that made the switch where F has it
pub record SealedAt (own : Features) (store : List ℕ) (F : Front) (X : List ℕ) : Type 0 where
  -- by the definition
  pub defined : SealedBehind own store F X (trace_with (switch_in own store F) own (bytes_in F ++ X) store).entries
  -- by the receiver, under any cutting: by the bytes taken so far behind the front
  pub taken : (cs : List Call) → Chained (bytes_in F ++ X) (begun own) store 0 cs → switch_by 0 cs ≡ switch_in own store F → length (bytes_in F) ≤ taken_by 0 cs
      → SealedBehind own store F (take (taken_by 0 cs - length (bytes_in F)) X) (list_of (judge_own own.supported own.required) cs)
  -- and by X itself, once the frame's bytes are taken
  pub reports : (cs : List Call) → Chained (bytes_in F ++ X) (begun own) store 0 cs → switch_by 0 cs ≡ switch_in own store F → Through own store F X cs
      → SealedBehind own store F X (list_of (judge_own own.supported own.required) cs)

pub record SealedHandedOver : Type 0 where
  -- from any byte on, whatever was opened before, with any store
  pub anywhere : (key nonce : List ℕ) (n P : ℕ) (X s : List ℕ) → ExactlySealed (key_expansion key) nonce n P X s (sealed_trace key nonce n P X s).entries
  -- and behind any front
  pub behind : (own : Features) (store : List ℕ) (revision : Revision) (F : Front) (X : List ℕ) → Begins own store revision F → SealedAt own store F X
