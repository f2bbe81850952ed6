-- Demand 3's definition for a stream with a switch to secure (02, K4): up to and including the frame behind which it is made the entries are those of the
-- definition as it stood, and behind it those of sealed frames. No receiver, no state and no call is in sight.
use Rattle.std.specs.Prelude.{List, [], ◌∷◌, Bool, true, false, cond, ◌&&◌, ◌||◌, ℕ, suc, ◌-◌, take, drop, eqb}
use Rattle.banner.specs.declared.Features.{Features}
use Rattle.banner.specs.declared.Revision.TheVariants.{Msgr20, Msgr21}
pub use Rattle.stream.specs.Events.{ends_frame}
use Rattle.stream.specs.Events.{Role, banner_end, first_end, frame_end, stream_end, role_of}
use Rattle.stream.specs.Stream.{Entry, Trace, ended, trace_of}
use Rattle.secure.specs.Reading.{sealed_trace}

-- no switch, or the frame behind which it is made, by its number among frames and drops, the first being 1; the key, and the nonce of the peer's first part
pub data Switch : Type 0 where
  none : Switch
  behind : ℕ → List ℕ → List ℕ → Switch

abbrev pub entered : Entry → Trace → Trace
entered e t = record { entries = e ∷ t.entries; store = t.store }

-- the entries up to the n-th frame or drop, and there what its byte and its store lead to; all of them where there are fewer
unfoldable pub spliced : ℕ → (ℕ → List ℕ → Trace) → List Entry → List ℕ → Trace
spliced n next [] store = ended store
spliced n next (e ∷ es) store =
    entered e (cond (ends_frame e.event && eqb n 1) (next e.at e.store) (spliced (cond (ends_frame e.event) (n - 1) n) next es store))

-- THE DEFINITION
abbrev pub trace_with : Switch → Features → List ℕ → List ℕ → Trace
trace_with none own stream store = trace_of own stream store
trace_with (behind n key nonce) own stream store =
    spliced n (λ at s. sealed_trace key nonce 0 at (drop at stream) s) (trace_of own stream store).entries (trace_of own stream store).store

-- how many frames and drops there are
abbrev pub frames_in : List Entry → ℕ
frames_in [] = 0
frames_in (e ∷ es) = cond (ends_frame e.event) (suc (frames_in es)) (frames_in es)

-- ---- where a switch may be made (02, K4): after a reported or dropped frame, before any byte of the next, on a stream of msgr2.1

-- the last entry is a frame or a drop, and its byte is the t-th
abbrev pub frame_ends_at : ℕ → List Entry → Bool
frame_ends_at t [] = false
frame_ends_at t (e ∷ []) = ends_frame e.event && eqb e.at t
frame_ends_at t (e ∷ f ∷ es) = frame_ends_at t (f ∷ es)

abbrev pub chooses_msgr21 : Role → Bool
chooses_msgr21 (banner_end p Msgr20) = false
chooses_msgr21 (banner_end p Msgr21) = true
chooses_msgr21 (first_end h) = false
chooses_msgr21 (frame_end h) = false
chooses_msgr21 (stream_end n) = false

-- a banner that chose msgr2.1 is among the entries
abbrev pub chose_msgr21 : List Entry → Bool
chose_msgr21 [] = false
chose_msgr21 (e ∷ es) = chooses_msgr21 (role_of e.event) || chose_msgr21 es

abbrev pub behind_frame : ℕ → List Entry → Bool
behind_frame t es = frame_ends_at t es && chose_msgr21 es

-- with t bytes of the stream taken and no switch made. Where our own features are refused there is no entry, and so no such byte
abbrev pub may_switch : Features → List ℕ → List ℕ → ℕ → Bool
may_switch own stream store t = behind_frame t (trace_of own (take t stream) store).entries
