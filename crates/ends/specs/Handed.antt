-- Demand 2, "handed over exactly when": the checks of a frame at its place, said one beside the other, and the claim that a frame or a drop is reported there
-- if and only if they hold; and so with segment 1's early report (02, K1).
use Rattle.std.specs.Prelude.{◌≡◌, ◌↔◌, List, [], ◌∷◌, ◌++◌, Bool, true, false, not, cond, ◌&&◌, ◌||◌, ℕ, zero, suc, ◌+◌, ◌-◌, ◌*◌, ◌≤◌, ◌<◌, length, take, drop, get_or, leb, ltb, eqb}
use Rattle.buffer.specs.Le.{number_at, Bytes}
use Rattle.buffer.specs.Splice.{replace_front}
use Rattle.refusal.specs.Refusals.{fine}
use Rattle.banner.specs.declared.Features.{Features}
use Rattle.banner.specs.declared.Revision.{Revision}
use Rattle.banner.specs.declared.Revision.TheVariants.{Msgr20, Msgr21}
use Rattle.banner.specs.Banner.{judge_own}
use Rattle.preamble.specs.declared.Header.{Header}
use Rattle.preamble.specs.Layout.{total}
use Rattle.preamble.specs.Judge.{header_of, judge_store}
use Rattle.preamble.specs.Checked.{CheckedPreamble}
use Rattle.body.specs.declared.Late.{Late}
use Rattle.body.specs.declared.Late.TheVariants as late
use Rattle.body.specs.Body.{segment_sum, cut_into, no_first_sum, first_sum_length, no_epilogue, wire_length, frame_bytes}
use Rattle.body.specs.End.{late_of, segment_bytes}
use Rattle.stream.specs.declared.Event.{Event}
use Rattle.stream.specs.declared.Event.TheVariants.{First, Frame, Dropped}
use Rattle.stream.specs.Events.{Role, banner_end, first_end, frame_end, stream_end, role_of}
pub use Rattle.stream.specs.Events.{is_first, is_frame, is_drop}
use Rattle.stream.specs.Stream.{Entry, entry, zeroed, first_sum_end, trace_of, refused_in}
use Rattle.receiver.specs.Calls.{Call, Chained, taken_by, list_of}
use Rattle.receiver.specs.Step.{started}

-- ---- places: where the next frame begins

-- an entry, where a frame begins at P: a frame and a drop move that place to their last byte, an early report leaves it
abbrev pub FramesUpToAt : Role → ℕ → ℕ → (ℕ → Type 0) → Type 0
FramesUpToAt (banner_end p r) P at later = ⊥
FramesUpToAt (first_end h) P at later = later P
FramesUpToAt (frame_end h) P at later = later at
FramesUpToAt (stream_end n) P at later = ⊥

-- frames and drops from byte P on, the last of which ends at byte n
abbrev pub FramesUpTo : ℕ → ℕ → List Entry → Type 0
FramesUpTo n P [] = P ≡ n
FramesUpTo n P (e ∷ es) = FramesUpToAt (role_of e.event) P e.at (λ Q. FramesUpTo n Q es)

abbrev pub BannerUpTo : Revision → ℕ → Role → ℕ → List Entry → Type 0
BannerUpTo revision n (banner_end p r) at es = (r ≡ revision) × FramesUpTo n at es
BannerUpTo revision n (first_end h) at es = ⊥
BannerUpTo revision n (frame_end h) at es = ⊥
BannerUpTo revision n (stream_end m) at es = ⊥

-- a banner that chose the revision, and frames and drops behind it, up to byte n
abbrev pub UpTo : Revision → ℕ → List Entry → Type 0
UpTo revision n [] = ⊥
UpTo revision n (e ∷ es) = BannerUpTo revision n (role_of e.event) e.at es

-- ---- the checks of the frame at the front of X, in a store of n bytes

abbrev pub header_in : List ℕ → Header
header_in X = header_of (take 32 X)

-- the bytes of its segment k, counted from 0
abbrev pub segment_of : Revision → Header → ℕ → List ℕ → List ℕ
segment_of revision h k X = get_or (cut_into (h.s1.len ∷ h.s2.len ∷ h.s3.len ∷ h.s4.len ∷ []) (segment_bytes revision h (drop 32 X))) k []

-- where the late byte stands behind the preamble, and the checksum of segment k
abbrev pub late_place : Revision → Header → ℕ
late_place revision h = total h + first_sum_length revision h

abbrev pub sum_place : Revision → Header → ℕ → ℕ
sum_place Msgr20 h k = late_place Msgr20 h + (1 + k * 4)
sum_place Msgr21 h zero = h.s1.len
sum_place Msgr21 h (suc k) = late_place Msgr21 h + (1 + k * 4)

-- whether the frame is complete, by its late byte; a frame without one always is
abbrev pub late_in : Revision → Header → List ℕ → Late
late_in revision h X = cond (no_epilogue revision h) late.Complete (late_of revision (get_or (drop 32 X) (late_place revision h) 0))

-- which checksums are compared: of a complete frame those of its used segments, apart from an empty segment 1 of msgr2.1, which has none;
-- of an aborted one only segment 1's in msgr2.1
abbrev pub is_compared : Late → Revision → Header → ℕ → Bool
is_compared late.Complete Msgr20 h k = ltb k h.count
is_compared late.Complete Msgr21 h zero = not (eqb h.s1.len 0)
is_compared late.Complete Msgr21 h (suc k) = ltb (suc k) h.count
is_compared late.Aborted Msgr20 h k = false
is_compared late.Aborted Msgr21 h zero = not (eqb h.s1.len 0)
is_compared late.Aborted Msgr21 h (suc k) = false
is_compared late.Wrong revision h k = false

-- which segments have a field in the epilogue and are not used; segments are counted from 0
abbrev pub unused_field : Revision → Header → ℕ → Bool
unused_field Msgr20 h k = leb h.count k
unused_field Msgr21 h zero = false
unused_field Msgr21 h (suc k) = not (leb h.count 1) && leb h.count (suc k)

abbrev pub flags_fine : Revision → ℕ → Bool
flags_fine Msgr20 b = ltb b 2
flags_fine Msgr21 b = true

-- its epilogue has one spelling (02, K10): unused fields are 0, late_flags is 0 or 1
pub record Spelled (revision : Revision) (X : List ℕ) : Type 0 where
  pub unused : (k : ℕ) → k < 4 → unused_field revision (header_in X) k ≡ true → number_at 4 (sum_place revision (header_in X) k) (drop 32 X) ≡ 0
  pub flags : flags_fine revision (get_or (drop 32 X) (late_place revision (header_in X)) 0) ≡ true

-- the whole frame
pub record Checked (kind : Late) (revision : Revision) (X : List ℕ) (n : ℕ) : Type 0 where
  pub preamble : CheckedPreamble (take 32 X)
  pub store : judge_store (total (header_in X)) n ≡ fine
  pub arrived : wire_length revision (header_in X) ≤ length X
  pub spelling : Spelled revision X
  -- complete or aborted
  pub late : late_in revision (header_in X) X ≡ kind
  -- the CRC32-C of each segment that is compared
  pub sums : (k : ℕ) → k < 4 → is_compared kind revision (header_in X) k ≡ true
      → number_at 4 (sum_place revision (header_in X) k) (drop 32 X) ≡ segment_sum (segment_of revision (header_in X) k X)

-- segment 1 is reported early where it has a checksum behind it (in msgr2.1, unless it is empty) and more segments follow
abbrev pub is_early : Revision → Header → Bool
is_early revision h = not (no_first_sum revision h) && ltb 1 h.count

-- and its own checksum arrived and holds
pub record CheckedFirst (revision : Revision) (X : List ℕ) (n : ℕ) : Type 0 where
  pub preamble : CheckedPreamble (take 32 X)
  pub store : judge_store (total (header_in X)) n ≡ fine
  pub early : is_early revision (header_in X) ≡ true
  pub arrived : first_sum_end 0 (header_in X) ≤ length X
  pub sum : number_at 4 (header_in X).s1.len (drop 32 X) ≡ segment_sum (take (header_in X).s1.len (drop 32 X))

-- the high four bits of late_status are zero, where a frame has one: a receiver does not look at them (02, K8), so that without this two frames could differ there
-- and read alike
abbrev pub zero_nibble : Revision → Header → List ℕ → Bool
zero_nibble Msgr20 h X = true
zero_nibble Msgr21 h X = leb h.count 1 || ltb (get_or (drop 32 X) (late_place Msgr21 h) 0) 16

-- ---- the claim

-- the first of some entries
abbrev pub first_is : (Event → Bool) → List Entry → Bool
first_is is [] = false
first_is is (e ∷ es) = is e.event

-- the entries behind an early report
abbrev pub after_early_report : List Entry → List Entry
after_early_report [] = []
after_early_report (e ∷ es) = cond (is_first e.event) es (e ∷ es)

-- es are the entries from byte P on, where X is the rest of the stream and s the store
pub record Exactly (revision : Revision) (P : ℕ) (X s : List ℕ) (es : List Entry) : Type 0 where
  -- segment 1 is reported early if and only if its checks hold: with the frame's fields, at its checksum's last byte, its bytes at the store's front
  pub first : first_is is_first es ≡ true ↔ CheckedFirst revision X (length s)
  pub firsts : first_is is_first es ≡ true
      → (later : List Entry) × (es ≡ entry (First (header_in X)) (first_sum_end P (header_in X)) (replace_front (take (header_in X).s1.len (drop 32 X)) s) ∷ later)
  -- behind that, a frame is reported if and only if the checks hold: with its fields, at its last byte, its segments at the store's front
  pub handed : first_is is_frame (after_early_report es) ≡ true ↔ Checked late.Complete revision X (length s)
  pub frames : first_is is_frame (after_early_report es) ≡ true
      → (later : List Entry) × (after_early_report es ≡ entry (Frame (header_in X)) (P + wire_length revision (header_in X)) (replace_front (segment_bytes revision (header_in X) (drop 32 X)) s) ∷ later)
  -- and its bytes are those that the builder writes for the same fields and segments (02, K10)
  pub spelled : Bytes X → first_is is_frame (after_early_report es) ≡ true → zero_nibble revision (header_in X) X ≡ true
      → take (wire_length revision (header_in X)) X ≡ frame_bytes revision (header_in X) false (segment_bytes revision (header_in X) (drop 32 X))
  -- and a drop, with zeros in the store's first T bytes
  pub dropped : first_is is_drop (after_early_report es) ≡ true ↔ Checked late.Aborted revision X (length s)
  pub drops : first_is is_drop (after_early_report es) ≡ true
      → (later : List Entry) × (after_early_report es ≡ entry (Dropped (header_in X)) (P + wire_length revision (header_in X)) (zeroed (header_in X) s) ∷ later)

-- all are the entries of `front`, at whose end a frame begins, and then those of X
pub record ExactlyBehind (own : Features) (front X store : List ℕ) (revision : Revision) (all : List Entry) : Type 0 where
  pub later : List Entry
  pub entries : all ≡ (trace_of own front store).entries ++ later
  pub exactly : Exactly revision (length front) X (trace_of own front store).store later

-- calls on front ++ X that took the bytes of the frame at the front of X, or every byte, or were refused
pub data Through (own : Features) (front X : List ℕ) (revision : Revision) (cs : List Call) : Type 0 where
  frame-taken : length front + wire_length revision (header_in X) ≤ taken_by 0 cs → Through own front X revision cs
  all-taken : taken_by 0 cs ≡ length (front ++ X) → Through own front X revision cs
  refused : refused_in (list_of (judge_own own.supported own.required) cs) ≡ true → Through own front X revision cs

-- of the stream that begins with `front` and goes on with X
pub record HandedAt (own : Features) (front X store : List ℕ) (revision : Revision) : Type 0 where
  -- by the definition
  pub defined : ExactlyBehind own front X store revision (trace_of own (front ++ X) store).entries
  -- by the receiver, under any cutting: by the bytes taken so far behind the front
  pub taken : (cs : List Call) → Chained (front ++ X) (started own) store 0 cs → length front ≤ taken_by 0 cs
      → ExactlyBehind own front (take (taken_by 0 cs - length front) X) store revision (list_of (judge_own own.supported own.required) cs)
  -- and by X itself, once the frame's bytes are taken
  pub reports : (cs : List Call) → Chained (front ++ X) (started own) store 0 cs → Through own front X revision cs
      → ExactlyBehind own front X store revision (list_of (judge_own own.supported own.required) cs)

unfoldable pub HandedOver : Type 0
HandedOver = (own : Features) (front X store : List ℕ) (revision : Revision) → UpTo revision (length front) (trace_of own front store).entries → HandedAt own front X store revision
