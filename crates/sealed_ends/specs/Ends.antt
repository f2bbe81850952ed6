-- The two ends of a link that is switched to secure (02, K4): our banner, any crc builds, the switch on both sides and any sealed builds, queued one behind the
-- other in a send buffer and read, are reported as that banner, those frames and drops, and those sealed ones.
use Rattle.std.specs.Prelude.{◌≡◌, List, [], ◌∷◌, ◌++◌, ℕ, ◌+◌, ◌-◌, ◌≤◌, ◌<◌, length, take, drop}
use Rattle.refusal.specs.Refusals.{fine, judged_by}
use Rattle.banner.specs.declared.Features.{Features}
use Rattle.banner.specs.declared.Revision.{Revision}
use Rattle.banner.specs.Banner.{judge_own, judge_features, revision_of}
use Rattle.builder.specs.Build.{banner_length}
use Rattle.stream.specs.declared.Event.TheVariants.{Banner}
use Rattle.stream.specs.Stream.{Entry, entry}
use Rattle.secure.specs.Layout.{part_count, sealed_length, needed}
use Rattle.secure.specs.Reading.{sealed_trace}
use Rattle.sealed_builder.specs.declared.Sending.{Sending}
use Rattle.sealed_builder.specs.Nonces.{Build, sending_after}
use Rattle.ends.specs.Ends as crc
use Rattle.ends.specs.Ends.{Link, Linked, Fitting, all_entries, store_after_all}
use Rattle.connection.specs.declared.State.{State}
use Rattle.connection.specs.Switched.{behind}
use Rattle.connection.specs.Step.{begun, SwitchedWith}
use Rattle.connection.specs.Calls.{Try, Call, Chained, taken_by, list_of, switch_by}
use Rattle.sealed_ends.specs.Trip.{written_by, Accepts, event_of, store_after}

-- ---- sealed builds

-- each behind what the ones before it queued, with the sending state that the last one handed back
abbrev pub Queued : Sending → List ℕ → ℕ → List Build → Type 0
Queued s buf queued [] = Unit {0}
Queued s buf queued (b ∷ bs) =
    Accepts s b × (b.buffer ≡ buf) × (b.queued ≡ queued) × Queued b.answer.sending b.after (queued + written_by b) bs

-- the buffer, the queued count and the sending state that they leave
abbrev pub buffer_by : List ℕ → List Build → List ℕ
buffer_by buf [] = buf
buffer_by buf (b ∷ bs) = buffer_by b.after bs

abbrev pub queued_by : ℕ → List Build → ℕ
queued_by queued [] = queued
queued_by queued (b ∷ bs) = queued_by (queued + written_by b) bs

-- how many parts were sealed
abbrev pub parts_by : List Build → ℕ
parts_by [] = 0
parts_by (b ∷ bs) = part_count b.header + parts_by bs

-- the store is long enough for each frame
abbrev pub FittingSealed : ℕ → List Build → Type 0
FittingSealed n [] = Unit {0}
FittingSealed n (b ∷ bs) = (needed b.header ≤ n) × FittingSealed n bs

-- their entries from byte P on, and the store behind them
abbrev pub sealed_entries : ℕ → List ℕ → List Build → List Entry
sealed_entries P s [] = []
sealed_entries P s (b ∷ bs) =
    entry (event_of b) (P + sealed_length b.header) (store_after b s) ∷ sealed_entries (P + sealed_length b.header) (store_after b s) bs

abbrev pub store_after_sealed : List Build → List ℕ → List ℕ
store_after_sealed [] s = s
store_after_sealed (b ∷ bs) s = store_after_sealed bs (store_after b s)

-- ---- the sender's end of a link

-- its banner and crc builds, its own connection at the switch, the switch, and the sealed builds behind it
pub record SwitchedLink : Type 0 where
  pub crc : Link
  pub state : State
  pub switch : Try
  pub builds : List Build

-- the buffer and the queued count at the switch
abbrev pub buffer_at : SwitchedLink → List ℕ
buffer_at l = crc.buffer_by l.crc.buffer l.crc.builds

abbrev pub queued_at : SwitchedLink → ℕ
queued_at l = crc.queued_by (l.crc.queued + l.crc.written) l.crc.builds

-- `build_banner`, `build_frame`, the switch and `build_sealed` promised it, and refused nothing. A switch is made behind a frame
pub record SwitchedLinked (revision : Revision) (l : SwitchedLink) : Type 0 where
  pub crc : Linked revision l.crc
  pub some : 0 < length l.crc.builds
  pub switch : SwitchedWith l.state l.switch.key l.switch.receiving l.switch.sending l.switch.switched
  pub made : judged_by l.switch.switched.judgement ≡ fine
  pub builds : Queued l.switch.switched.sending (buffer_at l) (queued_at l) l.builds

-- the bytes that were queued
abbrev pub sent_by : SwitchedLink → List ℕ
sent_by l = take (queued_by (queued_at l) l.builds - l.crc.queued) (drop l.crc.queued (buffer_by (buffer_at l) l.builds))

-- where the sealed ones begin, and the store there
abbrev pub switched_at : SwitchedLink → ℕ
switched_at l = queued_at l - l.crc.queued

abbrev pub store_at : SwitchedLink → List ℕ → List ℕ
store_at l store = store_after_all l.crc.builds store

-- ---- the claim

-- own are the reader's features: they are not refused, and fit the sender's. The reader made the switch behind the last of the crc builds, with the sender's key, and
-- with the sender's sending nonce as its receiving one. Any bytes follow, and every list of calls that took the sent ones
unfoldable pub SealedTwoEnds : Type 0
SealedTwoEnds =
    (own : Features) (store : List ℕ) (l : SwitchedLink) → SwitchedLinked (revision_of own.supported l.crc.features.supported) l
    → judge_own own.supported own.required ≡ fine
    → judge_features own.supported own.required l.crc.features.supported l.crc.features.required ≡ fine
    → Fitting (length store) l.crc.builds → FittingSealed (length store) l.builds
    → (later : List ℕ) (cs : List Call) → Chained (sent_by l ++ later) (begun own) store 0 cs
    → switch_by 0 cs ≡ behind (length l.crc.builds) l.switch.key l.switch.sending
    → length (sent_by l) ≤ taken_by 0 cs
    → list_of (judge_own own.supported own.required) cs
    ≡ entry (Banner l.crc.features (revision_of own.supported l.crc.features.supported)) banner_length store
    ∷ (all_entries (revision_of own.supported l.crc.features.supported) banner_length store l.crc.builds
    ++ (sealed_entries (switched_at l) (store_at l store) l.builds
    ++ (sealed_trace l.switch.key (sending_after l.switch.switched.sending l.builds).nonce (parts_by l.builds) (length (sent_by l))
    (take (taken_by 0 cs - length (sent_by l)) later) (store_after_sealed l.builds (store_at l store))).entries))
