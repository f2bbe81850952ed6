-- The two ends: our banner and any builds behind it, queued one behind the other in a send buffer and read, are reported as that banner and those frames and drops.
use Rattle.std.specs.Prelude.{Ok, ◌≡◌, List, [], ◌∷◌, ◌++◌, ℕ, ◌+◌, ◌-◌, ◌≤◌, length, take, drop}
use Rattle.refusal.specs.Refusals.{fine}
use Rattle.banner.specs.declared.Features.{Features}
use Rattle.banner.specs.declared.Revision.{Revision}
use Rattle.banner.specs.Banner.{judge_own, judge_features, revision_of}
use Rattle.preamble.specs.Layout.{total}
use Rattle.body.specs.Body.{wire_length}
use Rattle.builder.specs.Build.{banner_length, BuiltBanner}
use Rattle.stream.specs.declared.Event.TheVariants.{Banner}
use Rattle.stream.specs.Stream.{Entry, entry}
use Rattle.receiver.specs.Step.{started}
use Rattle.receiver.specs.Calls.{Call, Chained, taken_by, list_of}
use Rattle.ends.specs.Trip.{Build, Accepts, store_after, entries_of, following}

-- builds, each behind what the ones before it queued
abbrev pub Queued : Revision → List ℕ → ℕ → List Build → Type 0
Queued revision buf queued [] = Unit {0}
Queued revision buf queued (b ∷ bs) = Accepts revision buf queued b × Queued revision b.buffer (queued + b.written) bs

-- the buffer and the queued count that they leave
abbrev pub buffer_by : List ℕ → List Build → List ℕ
buffer_by buf [] = buf
buffer_by buf (b ∷ bs) = buffer_by b.buffer bs

abbrev pub queued_by : ℕ → List Build → ℕ
queued_by queued [] = queued
queued_by queued (b ∷ bs) = queued_by (queued + b.written) bs

-- a link from its beginning: the features that the sender's banner says, the buffer and the queued count before it, and the builds
pub record Link : Type 0 where
  pub features : Features
  pub space : List ℕ
  pub queued : ℕ
  pub buffer : List ℕ
  pub written : ℕ
  pub builds : List Build

-- `build_banner` and `build_frame` promised it, and refused nothing
pub record Linked (revision : Revision) (l : Link) : Type 0 where
  pub banner : BuiltBanner l.features.supported l.features.required l.space l.queued (Ok l.written) l.buffer
  pub builds : Queued revision l.buffer (l.queued + l.written) l.builds

-- the bytes that were queued
abbrev pub sent_by : Link → List ℕ
sent_by l = take (queued_by (l.queued + l.written) l.builds - l.queued) (drop l.queued (buffer_by l.buffer l.builds))

-- the store is long enough for each frame
abbrev pub Fitting : ℕ → List Build → Type 0
Fitting n [] = Unit {0}
Fitting n (b ∷ bs) = (total b.header ≤ n) × Fitting n bs

-- the entries of builds from byte P on, and the store behind them
abbrev pub all_entries : Revision → ℕ → List ℕ → List Build → List Entry
all_entries revision P s [] = []
all_entries revision P s (b ∷ bs) = entries_of revision P s b ++ all_entries revision (P + wire_length revision b.header) (store_after b s) bs

abbrev pub store_after_all : List Build → List ℕ → List ℕ
store_after_all [] s = s
store_after_all (b ∷ bs) s = store_after_all bs (store_after b s)

-- own are the reader's features: they are not refused, and fit the sender's. Any bytes follow, and every list of calls that took the sent ones
unfoldable pub TwoEnds : Type 0
TwoEnds =
    (own : Features) (store : List ℕ) (l : Link) → Linked (revision_of own.supported l.features.supported) l
    → judge_own own.supported own.required ≡ fine
    → judge_features own.supported own.required l.features.supported l.features.required ≡ fine
    → Fitting (length store) l.builds
    → (behind : List ℕ) (cs : List Call) → Chained (sent_by l ++ behind) (started own) store 0 cs → length (sent_by l) ≤ taken_by 0 cs
    → list_of (judge_own own.supported own.required) cs
    ≡ entry (Banner l.features (revision_of own.supported l.features.supported)) banner_length store
    ∷ (all_entries (revision_of own.supported l.features.supported) banner_length store l.builds
    ++ following (revision_of own.supported l.features.supported) (length (sent_by l)) behind (store_after_all l.builds store) (taken_by 0 cs))
