-- Demand 2, the round trip of sealed frames (02, K4: "for a sealed frame to come back"): a build that was not refused comes back from the receiver, however the
-- stream is cut and whatever follows it, where the reader's key and next nonce are the builder's and the reader has nonces enough left.
use Rattle.std.specs.Prelude.{◌≡◌, List, ◌∷◌, ◌++◌, cond, ℕ, ◌+◌, ◌-◌, ◌≤◌, length, take, drop}
use Rattle.refusal.specs.Writes.{wrote, outcome_of, count_in}
use Rattle.banner.specs.declared.Features.{Features}
use Rattle.banner.specs.declared.Revision.{Revision}
use Rattle.banner.specs.Banner.{judge_own}
use Rattle.preamble.specs.Reading.{HeaderFits}
use Rattle.stream.specs.declared.Event.{Event}
use Rattle.stream.specs.declared.Event.TheVariants.{Frame, Dropped}
use Rattle.stream.specs.Stream.{entry}
use Rattle.secure.specs.Layout.{all_nonces, part_count, needed}
use Rattle.secure.specs.Reading.{zeroed, holding, sealed_trace}
use Rattle.sealed_builder.specs.declared.Sending.{Sending}
use Rattle.sealed_builder.specs.Nonces.{Build, Meets}
use Rattle.connection.specs.Step.{begun}
use Rattle.connection.specs.Calls.{Call, Chained, taken_by, list_of, switch_by}
use Rattle.sealed_ends.specs.Fronts.{Front, bytes_in, sealed_in, switch_in, trace_in, spent_in, next_in, Begins}

-- the bytes that a build wrote, behind the queued ones
abbrev pub written_by : Build → ℕ
written_by b = count_in (outcome_of b.answer.built)

abbrev pub bytes_of : Build → List ℕ
bytes_of b = take (written_by b) (drop b.queued b.after)

-- `build_sealed` promised it, and did not refuse; its header is what its type holds
pub record Accepts (s : Sending) (b : Build) : Type 0 where
  pub promised : Meets s b
  pub wrote : outcome_of b.answer.built ≡ wrote (written_by b)
  pub header : HeaderFits b.header

-- what comes back, and the store then: the segments at its front with zeros behind them, or zeros where the frame was built aborted
abbrev pub event_of : Build → Event
event_of b = cond b.abort (Dropped b.header) (Frame b.header)

abbrev pub store_after : Build → List ℕ → List ℕ
store_after b s = cond b.abort (zeroed b.header s) (holding b.header b.source s)

-- behind any bytes at whose end a sealed frame begins, with a store long enough and any bytes behind the frame: every list of calls that made the switch there and
-- took the frame's bytes
unfoldable pub SealedRoundTrip : Type 0
SealedRoundTrip =
    (own : Features) (store : List ℕ) (revision : Revision) (F : Front) → Begins own store revision F
    → (s : Sending) (b : Build) → Accepts s b → s.key ≡ F.key → s.nonce ≡ next_in own store F
    → spent_in own store F + part_count b.header ≤ all_nonces → needed b.header ≤ length store
    → (later : List ℕ) (cs : List Call) → Chained (bytes_in F ++ bytes_of b ++ later) (begun own) store 0 cs → switch_by 0 cs ≡ switch_in own store F
    → length (bytes_in F ++ bytes_of b) ≤ taken_by 0 cs
    → list_of (judge_own own.supported own.required) cs
    ≡ (trace_in own store F).entries
    ++ (entry (event_of b) (length (bytes_in F ++ bytes_of b)) (store_after b (sealed_in own store F).store)
    ∷ (sealed_trace F.key b.answer.sending.nonce (spent_in own store F + part_count b.header) (length (bytes_in F ++ bytes_of b))
    (take (taken_by 0 cs - length (bytes_in F ++ bytes_of b)) later) (store_after b (sealed_in own store F).store)).entries)
