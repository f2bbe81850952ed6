-- What is built comes back (02, K4): the bytes that any build wrote, read with the builder's key and next nonce by a reader with nonces enough left and a store that is long enough.
use Rattle.std.specs.Prelude.{◌≡◌, ℕ, suc, ◌+◌, ◌≤◌, Bool, true, false, List, ◌++◌, length, take, drop}
use Rattle.refusal.specs.Writes.{wrote, outcome_of}
use Rattle.preamble.specs.declared.Header.{Header}
use Rattle.preamble.specs.Reading.{HeaderFits}
use Rattle.stream.specs.declared.Event.TheVariants.{Frame, Dropped}
use Rattle.stream.specs.Stream.{Trace, after}
use Rattle.aes.specs.Aes.{key_expansion}
use Rattle.secure.specs.Layout.{all_nonces, part_count, needed}
use Rattle.secure.specs.Reading.{zeroed, holding, frames}
use Rattle.sealed_builder.specs.declared.Sending.{Sending}
use Rattle.sealed_builder.specs.Nonces.{Build, Meets}

-- a frame with its segments in the store, or a drop; and what follows, from that store on
abbrev pub reported : Bool → Header → ℕ → List ℕ → List ℕ → (List ℕ → Trace) → Trace
reported false h at source store next = after (Frame h) at (holding h source store) (next (holding h source store))
reported true h at source store next = after (Dropped h) at (zeroed h store) (next (zeroed h store))

-- the reader's next nonce is then the builder's
unfoldable pub SentBack : Type 0
SentBack =
    (s : Sending) (b : Build) (k n f P : ℕ) (tail store : List ℕ) → Meets s b → outcome_of b.answer.built ≡ wrote k → HeaderFits b.header
    → n + part_count b.header ≤ all_nonces → needed b.header ≤ length store
    → frames (suc f) (key_expansion s.key) s.nonce n P (take k (drop b.queued b.after) ++ tail) store
    ≡ reported b.abort b.header (P + k) b.source store
    (frames f (key_expansion s.key) b.answer.sending.nonce (n + part_count b.header) (P + k) tail)
