-- Demand 2 of sealed frames, of calls by C: handed over exactly when, and what was built comes back, with the switch on both sides made by C.
use Rattle.std.specs.Prelude.{◌≡◌, List, [], ◌∷◌, ◌++◌, ℕ, ◌+◌, ◌-◌, ◌≤◌, ◌<◌, length, take}
use Rattle.std.specs.Prelude.{Ok}
use Rattle.refusal.specs.Refusals.{fine}
use Rattle.banner.specs.declared.Features.{Features}
use Rattle.banner.specs.declared.Revision.{Revision}
use Rattle.banner.specs.Banner as banner
use Rattle.banner.specs.Banner.{judge_own, judge_features}
use Rattle.builder.specs.Build.{banner_length}
use Rattle.stream.specs.declared.Event.TheVariants.{Banner}
use Rattle.stream.specs.Stream.{entry}
use Rattle.secure.specs.Layout.{all_nonces, part_count, needed}
use Rattle.secure.specs.Reading.{sealed_trace}
use Rattle.sealed_builder.specs.Build.{fresh_sending}
use Rattle.sealed_builder.specs.Nonces.{Build, sending_after}
use Rattle.connection.specs.Switched.{behind}
use Rattle.connection.specs.Step.{switched_state}
use Rattle.connection.specs.Calls.{Try, taken_by, list_of, switch_by}
use Rattle.ends.specs.Ends.{Link, Fitting, all_entries}
use Rattle.sealed_ends.specs.Fronts.{Front, bytes_in, sealed_in, switch_in, trace_in, spent_in, next_in, Begins}
use Rattle.sealed_ends.specs.Handed.{SealedBehind, Through}
use Rattle.sealed_ends.specs.Trip.{bytes_of, event_of, store_after}
use Rattle.sealed_ends.specs.Ends.{SwitchedLink, buffer_at, queued_at, sent_by, switched_at, store_at, parts_by, FittingSealed, sealed_entries, store_after_sealed}
use Rattle.abi.specs.Words.{revision_by_number, header_at}
use Rattle.abi_connection.specs.Words.{AbiConnection, connection_of, AbiStarted, AbiSending, AbiSwitched, AbiSwitchedWith}
use Rattle.mahuixen.specs.Calls.{AbiCall, AbiChained}
use Rattle.mahuixen.specs.Demands.{AbiLinked}
use Rattle.mahuixen.specs.Switches.{AsConnectionCalls}
use Rattle.mahuixen.specs.Nonces.{AbiBuild, written_by, AbiMeets, sending_behind, build_of}

-- ---- sealed builds by C

-- one that wrote something, as a refused one never does
pub record AbiAcceptsSealed (x : AbiSending) (b : AbiBuild) : Type 0 where
  pub promised : AbiMeets x b
  pub accepted : 0 < written_by b

-- each behind what the ones before it queued, with the sending state that the last one handed back
abbrev pub AbiQueuedSealed : AbiSending → List ℕ → ℕ → List AbiBuild → Type 0
AbiQueuedSealed x buf queued [] = Unit {0}
AbiQueuedSealed x buf queued (b ∷ bs) =
    AbiAcceptsSealed x b × (b.buffer ≡ buf) × (b.queued ≡ queued) × AbiQueuedSealed (sending_behind x b) b.sealed.buffer (queued + written_by b) bs

abbrev pub builds_of : List ℕ → List AbiBuild → List Build
builds_of key [] = []
builds_of key (b ∷ bs) = build_of key b ∷ builds_of key bs

-- ---- the sender's end of a link by C

-- its banner and crc builds, its own connection at the switch, the switch, and the sealed builds behind it
pub record AbiSwitchedLink : Type 0 where
  pub crc : Link
  pub state : AbiConnection
  pub key : List ℕ
  pub receiving : List ℕ
  pub sending : List ℕ
  pub switched : AbiSwitched
  pub builds : List AbiBuild

-- the link that it is, where the switch was made
abbrev pub made_by : AbiSwitchedLink → Try
made_by l = record {
  key = l.key;
  receiving = l.receiving;
  sending = l.sending;
  switched = record { state = switched_state fine (connection_of l.state) l.key l.receiving; sending = fresh_sending l.key l.sending; judgement = (Ok tt) };
}

abbrev pub link_of : AbiSwitchedLink → SwitchedLink
link_of l = record { crc = l.crc; state = connection_of l.state; switch = made_by l; builds = builds_of l.key l.builds }

-- the exported functions promised it, and refused nothing. A switch is made behind a frame
pub record AbiSwitchedLinked (revision : ℕ) (l : AbiSwitchedLink) : Type 0 where
  pub crc : AbiLinked revision l.crc
  pub some : 0 < length l.crc.builds
  pub switch : AbiSwitchedWith l.state l.key l.receiving l.sending l.switched
  pub made : l.switched.number ≡ 0
  pub builds : AbiQueuedSealed l.switched.sending (buffer_at (link_of l)) (queued_at (link_of l)) l.builds

-- ---- THE CLAIM, of calls by C that made the switch there

pub record AbiSealedDemand2 : Type 0 where
  -- behind any front at whose end a sealed frame begins, a frame is handed over exactly when the checks hold: by the bytes taken so far, and by the whole of what follows
  -- once the frame's bytes are taken
  pub handed : (own : Features) (n : ℕ) (p : AbiConnection) → AbiStarted own n p
      → (store : List ℕ) (revision : Revision) (F : Front) (X : List ℕ) → Begins own store revision F
      → (ps : List AbiCall) → AbiChained (bytes_in F ++ X) p store 0 ps
      → AsConnectionCalls own (bytes_in F ++ X) store ps
      (λ cs. switch_by 0 cs ≡ switch_in own store F
      → (length (bytes_in F) ≤ taken_by 0 cs → SealedBehind own store F (take (taken_by 0 cs - length (bytes_in F)) X) (list_of (judge_own own.supported own.required) cs))
      × (Through own store F X cs → SealedBehind own store F X (list_of (judge_own own.supported own.required) cs)))
  -- what was built comes back, where the reader's key and next nonce are the builder's and the reader has nonces enough left
  pub trip : (own : Features) (n : ℕ) (p : AbiConnection) → AbiStarted own n p
      → (store : List ℕ) (revision : Revision) (F : Front) → Begins own store revision F
      → (x : AbiSending) (b : AbiBuild) → AbiAcceptsSealed x b → x.key ≡ F.key → x.nonce ≡ next_in own store F
      → spent_in own store F + part_count (header_at 0 b.header) ≤ all_nonces → needed (header_at 0 b.header) ≤ length store
      → (later : List ℕ) (ps : List AbiCall) → AbiChained (bytes_in F ++ bytes_of (build_of x.key b) ++ later) p store 0 ps
      → AsConnectionCalls own (bytes_in F ++ bytes_of (build_of x.key b) ++ later) store ps
      (λ cs. switch_by 0 cs ≡ switch_in own store F
      → length (bytes_in F ++ bytes_of (build_of x.key b)) ≤ taken_by 0 cs
      → list_of (judge_own own.supported own.required) cs
      ≡ (trace_in own store F).entries
      ++ (entry (event_of (build_of x.key b)) (length (bytes_in F ++ bytes_of (build_of x.key b))) (store_after (build_of x.key b) (sealed_in own store F).store)
      ∷ (sealed_trace F.key b.sealed.nonce (spent_in own store F + part_count (header_at 0 b.header)) (length (bytes_in F ++ bytes_of (build_of x.key b)))
      (take (taken_by 0 cs - length (bytes_in F ++ bytes_of (build_of x.key b))) later) (store_after (build_of x.key b) (sealed_in own store F).store)).entries))
  -- our banner, any crc builds, the switch on both sides and any sealed builds are reported as they were built. The reader made the switch behind the last of the crc builds, with
  -- the sender's key, and with the sender's sending nonce as its receiving one
  pub ends : (own : Features) (n : ℕ) (p : AbiConnection) → AbiStarted own n p
      → (store : List ℕ) (revision : ℕ) (l : AbiSwitchedLink) → revision_by_number revision ≡ banner.revision_of own.supported l.crc.features.supported → AbiSwitchedLinked revision l
      → judge_own own.supported own.required ≡ fine
      → judge_features own.supported own.required l.crc.features.supported l.crc.features.required ≡ fine
      → Fitting (length store) l.crc.builds → FittingSealed (length store) (link_of l).builds
      → (later : List ℕ) (ps : List AbiCall) → AbiChained (sent_by (link_of l) ++ later) p store 0 ps
      → AsConnectionCalls own (sent_by (link_of l) ++ later) store ps
      (λ cs. switch_by 0 cs ≡ behind (length l.crc.builds) l.key l.sending
      → length (sent_by (link_of l)) ≤ taken_by 0 cs
      → list_of (judge_own own.supported own.required) cs
      ≡ entry (Banner l.crc.features (banner.revision_of own.supported l.crc.features.supported)) banner_length store
      ∷ (all_entries (banner.revision_of own.supported l.crc.features.supported) banner_length store l.crc.builds
      ++ (sealed_entries (switched_at (link_of l)) (store_at (link_of l) store) (link_of l).builds
      ++ (sealed_trace l.key (sending_after (fresh_sending l.key l.sending) (link_of l).builds).nonce (parts_by (link_of l).builds) (length (sent_by (link_of l)))
      (take (taken_by 0 cs - length (sent_by (link_of l))) later) (store_after_sealed (link_of l).builds (store_at (link_of l) store))).entries)))
