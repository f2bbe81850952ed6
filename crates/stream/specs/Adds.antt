-- Bytes add up (01): a banner's or a frame's report stands at the byte that the one before it left, plus its own length on the wire.
use Rattle.std.specs.Prelude.{◌≡◌, List, [], ◌∷◌, ℕ, ◌+◌, ◌<◌}
use Rattle.banner.specs.declared.Features.{Features}
use Rattle.banner.specs.declared.Revision.{Revision}
use Rattle.body.specs.Body.{wire_length}
use Rattle.stream.specs.Events.{Role, banner_end, first_end, frame_end, stream_end, role_of}
use Rattle.stream.specs.Stream.{Entry, first_sum_end, trace_of}

-- an entry from P on, and what is asked of the later ones. An early report of segment 1 adds no bytes: its frame still begins at P
abbrev pub AddsAt : Revision → ℕ → Role → ℕ → (ℕ → Type 0) → Type 0
AddsAt revision P (banner_end p r) at later = ⊥
AddsAt revision P (first_end h) at later = (at ≡ first_sum_end P h) × later P
AddsAt revision P (frame_end h) at later = (at ≡ P + wire_length revision h) × later at
AddsAt revision P (stream_end n) at later = P < at

-- frames from P on
abbrev pub Adds : Revision → ℕ → List Entry → Type 0
Adds revision P [] = Unit {0}
Adds revision P (e ∷ es) = AddsAt revision P (role_of e.event) e.at (λ Q. Adds revision Q es)

-- a list begins with a banner, which chooses the revision, or with a refusal
abbrev pub AddsFirst : Role → ℕ → List Entry → Type 0
AddsFirst (banner_end p r) at es = Adds r at es
AddsFirst (first_end h) at es = ⊥
AddsFirst (frame_end h) at es = ⊥
AddsFirst (stream_end n) at es = Unit {0}

abbrev pub AddsUp : List Entry → Type 0
AddsUp [] = Unit {0}
AddsUp (e ∷ es) = AddsFirst (role_of e.event) e.at es

unfoldable pub AllAddUp : Type 0
AllAddUp = (own : Features) (stream store : List ℕ) → AddsUp (trace_of own stream store).entries
