-- Bytes add up on a switched link (01; 02, K4): behind the switch a frame's report stands at the byte that the one before it left, plus its length on the wire as a sealed
-- frame. An early report of segment 1 is never given there (K1, K4).
use Rattle.std.specs.Prelude.{List, [], ◌∷◌, ◌≡◌, Bool, true, false, cond, ◌&&◌, ℕ, ◌+◌, ◌-◌, ◌<◌, eqb}
use Rattle.banner.specs.declared.Features.{Features}
use Rattle.banner.specs.declared.Revision.{Revision}
use Rattle.banner.specs.Banner.{judge_own}
use Rattle.stream.specs.Events.{Role, banner_end, first_end, frame_end, stream_end, role_of, ends_frame}
use Rattle.stream.specs.Stream.{Entry}
use Rattle.stream.specs.Adds.{AddsAt, AddsUp}
use Rattle.secure.specs.Layout.{sealed_length}
use Rattle.connection.specs.Switched.{Switch, none, behind}
use Rattle.connection.specs.Step.{begun}
use Rattle.connection.specs.Calls.{Call, Chained, list_of, switch_by}

-- a sealed frame's entry from P on, and what is asked of the later ones
abbrev pub SealedAddsAt : ℕ → Role → ℕ → (ℕ → Type 0) → Type 0
SealedAddsAt P (banner_end p r) at later = ⊥
SealedAddsAt P (first_end h) at later = ⊥
SealedAddsAt P (frame_end h) at later = (at ≡ P + sealed_length h) × later at
SealedAddsAt P (stream_end n) at later = P < at

-- sealed frames from P on
abbrev pub SealedAdds : ℕ → List Entry → Type 0
SealedAdds P [] = Unit {0}
SealedAdds P (e ∷ es) = SealedAddsAt P (role_of e.event) e.at (λ Q. SealedAdds Q es)

abbrev pub either : Bool → Type 0 → Type 0 → Type 0
either true a b = a
either false a b = b

-- frames from P on, with the switch behind the n-th of them
abbrev pub AddsBehind : ℕ → Revision → ℕ → List Entry → Type 0
AddsBehind n revision P [] = Unit {0}
AddsBehind n revision P (e ∷ es) =
    AddsAt revision P (role_of e.event) e.at
    (λ Q. either (ends_frame e.event && eqb n 1) (SealedAdds Q es) (AddsBehind (cond (ends_frame e.event) (n - 1) n) revision Q es))

abbrev pub FirstBehind : ℕ → Role → ℕ → List Entry → Type 0
FirstBehind n (banner_end p r) at es = AddsBehind n r at es
FirstBehind n (first_end h) at es = ⊥
FirstBehind n (frame_end h) at es = ⊥
FirstBehind n (stream_end m) at es = Unit {0}

abbrev pub AllBehind : ℕ → List Entry → Type 0
AllBehind n [] = Unit {0}
AllBehind n (e ∷ es) = FirstBehind n (role_of e.event) e.at es

abbrev pub AddsWith : Switch → List Entry → Type 0
AddsWith none es = AddsUp es
AddsWith (behind n key nonce) es = AllBehind n es

-- THE CLAIM, of the reports of every list of calls and tries to switch
unfoldable pub SwitchedAddUp : Type 0
SwitchedAddUp =
    (own : Features) (stream store : List ℕ) (cs : List Call) → Chained stream (begun own) store 0 cs
    → AddsWith (switch_by 0 cs) (list_of (judge_own own.supported own.required) cs)
