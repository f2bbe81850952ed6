-- Laws of the definition: frames of no bytes, the end of a frame, a banner with more bytes behind it, a refused start.
use mathlib.Core.Path.{◌≡◌, refl, ap, ◌∙◌}
use mathlib.Core.List.{List, [], ◌++◌}
use Prim.Native.Nat.{ℕ, zero, suc, ◌≤◌}
use native.Mathlib.Omega.{arith}
use lib.ListN.{length, take, drop, length-drop}
use lib.Seq.{take-append-le, drop-append-le}
use Rattle.buffer.specs.Splice.{replace_front}
use Rattle.buffer.proofs.Numbers.{number_append}
use Rattle.refusal.specs.declared.Numbers.{Numbers}
use Rattle.refusal.specs.Refusals.{refused}
use Rattle.banner.specs.declared.Features.{Features}
use Rattle.banner.specs.declared.Revision.{Revision}
use Rattle.banner.specs.Banner.{features_of, judge_own}
use Rattle.preamble.specs.declared.Header.{Header}
use Rattle.body.specs.End.{Ended, whole, dropped, refused_for}
use Rattle.stream.specs.Stream.{Trace, ended, after, zeroed, at_end, frames, payload_of, peer_of, trace_of}

pub none : (f : ℕ) (r : Revision) (P : ℕ) (s : List ℕ) → frames f r P [] s ≡ ended s
unfolding frames
none zero r P s = refl
none (suc f) r P s = refl

-- the end of a frame, by its continuation
pub at-end : (x : Ended) (h : Header) (at : ℕ) (s p : List ℕ) (next next' : List ℕ → Trace) → ((t : List ℕ) → next t ≡ next' t) → at_end x h at s p next ≡ at_end x h at s p next'
at-end whole h at s p next next' e = ap (after _ at (replace_front p s)) (e (replace_front p s))
at-end dropped h at s p next next' e = ap (after _ at (zeroed h s)) (e (zeroed h s))
at-end (refused_for n) h at s p next next' e = refl

-- a banner's payload and the peer's features, with more bytes behind them
pub more-payload : (F X : List ℕ) → 10 ≤ length F → payload_of (F ++ X) ≡ payload_of F
more-payload F X l = number_append 2 8 F X l

pub more-peer : (F X : List ℕ) → 26 ≤ length F → peer_of (F ++ X) ≡ peer_of F
more-peer F X l =
    let d = length-drop 10 F in
    ap features_of (ap (take 16) (drop-append-le 10 F X (omega arith)) ∙ take-append-le 16 (drop 10 F) X (omega arith))

-- where our own features are refused there is no entry
pub trace-refused : (own : Features) (stream store : List ℕ) (n : Numbers) → judge_own own.supported own.required ≡ refused n → trace_of own stream store ≡ ended store
unfolding trace_of
trace-refused own stream store n e = rw e
