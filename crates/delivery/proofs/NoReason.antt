-- No reason among causes: a reason asks the session for a call that releases the message.
use mathlib.Core.Path.{◌≡◌, refl, sym, ap, ◌∙◌}
use mathlib.Core.Logic.{inl, inr}
use mathlib.Core.List.{List, [], ◌∷◌, map}
use mathlib.Core.Bool.{true, false, true≢false}
use Prim.Native.Nat.{ℕ}
use borrow.Author.Tests.{le-leb}
use Rattle.preamble.specs.declared.Header.{Header}
use Rattle.fields.specs.Field.{number}
use Rattle.bodies.specs.Read.{whole}
use Rattle.stream.specs.Stream.{Entry}
use Rattle.session.proofs.Releases.{one_releases}
use Rattle.delivery.specs.declared.Request.{Request}
use Rattle.delivery.specs.Requests.{for_session, request_of, body_of, request_by_frame}
use Rattle.delivery.specs.Calls.{Cause, receives, calls_requested, calls_by, Reason, acknowledged, dropped, handed_in, Covered, here, later}
use Rattle.delivery.proofs.NoRequests.{NoRequests}

-- a whole body of one number, with one of the session's tags, asks what the tag says
frame-request : (h : Header) (s : List ℕ) (t w n : ℕ) → h.tag ≡ t → for_session t ≡ true → h.count ≡ 1 → body_of h s ≡ whole (number w n ∷ []) → request_by_frame h s ≡ request_of t n
unfolding request_by_frame
frame-request h s t w n e f c b = rw (b, e, f, c)

reason-releases : (m : ℕ) (c : Cause) → Reason m c → one_releases m (calls_by c) ≡ true
reason-releases m c (acknowledged h at n s (inl t) q b l) =
    ap (λ (a : Request). one_releases m (calls_requested a)) (frame-request h s 20 8 n t refl q b) ∙ rw (le-leb m n l)
reason-releases m c (acknowledged h at n s (inr t) q b l) =
    ap (λ (a : Request). one_releases m (calls_requested a)) (frame-request h s 15 8 n t refl q b) ∙ rw (le-leb m n l)
reason-releases m c (dropped h at s t q b) = ap (λ (a : Request). one_releases m (calls_requested a)) (frame-request h s 12 1 1 t refl q b)
reason-releases m c (handed_in n l) = rw (le-leb m n l)

-- none of the calls that causes make due releases the message
abbrev pub Holding : ℕ → List Cause → Type 0
Holding m [] = Unit {0}
Holding m (c ∷ cs) = (one_releases m (calls_by c) ≡ false) × Holding m cs

pub uncovered : (m : ℕ) (cs : List Cause) → Holding m cs → Covered m cs → ⊥
uncovered m [] h k = elim k [ ]
uncovered m (c ∷ cs) h (here r) = true≢false (sym (reason-releases m c r) ∙ h.0)
uncovered m (c ∷ cs) h (later k) = uncovered m cs h.1 k

-- what asks nothing releases nothing
pub no-requests-holds : (m : ℕ) (es : List Entry) → NoRequests es → Holding m (map receives es)
no-requests-holds m [] q = tt
no-requests-holds m (e ∷ es) q = (ap (λ (a : Request). one_releases m (calls_requested a)) q.0, no-requests-holds m es q.1)
