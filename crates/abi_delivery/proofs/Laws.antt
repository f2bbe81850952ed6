-- What `deliver` asks of a session and does to it, in words.
use mathlib.Core.Path.{◌≡◌, refl, sym, ap, subst, ◌∙◌}
use mathlib.Core.List.{List, [], ◌∷◌}
use mathlib.Core.Bool.{false}
use Prim.Native.Nat.{ℕ}
use native.Mathlib.Omega.{arith}
use lib.Dec.{eqb}
use lib.ListN.{length, get_or}
use Rattle.refusal.specs.Refusals.{no_refusal}
use Rattle.refusal.proofs.Booleans.{at_cond}
use Rattle.preamble.specs.declared.Header.{Header}
use Rattle.stream.specs.declared.Event.{Event}
use Rattle.std.specs.Prelude.{Option, Some, Ok}
use Rattle.session.specs.declared.Session.{Session}
use Rattle.session.specs.declared.Answer.TheVariants as answer
use Rattle.session.specs.Calls.{held_of, judge_state, judge_ack, acked, cleared, ack_of, reconnect_of, reset_of}
use Rattle.session.proofs.Releases.{kept, acked-keeps, cleared-keeps}
use Rattle.delivery.specs.declared.Request.{Request}
use Rattle.delivery.specs.declared.Request.TheVariants as request
use Rattle.delivery.specs.declared.Applied.{Applied}
use Rattle.delivery.specs.Requests.{request_by_frame, request_by_report, done_to}
use Rattle.abi.specs.Words.{header_at}
use Rattle.abi_receiver.specs.Words.{report_as, report_of}
use Rattle.abi_session.specs.Words.{abi_session, session_of, session_numbers, answering}
use Rattle.abi_delivery.specs.Words.{effect_words, AbiApplied, applied_with, abi_applied}

-- ---- what words ask

pub frame-requests : (q s : List ℕ) {h : Header} {a : Request} → get_or q 0 0 ≡ 2 → h ≡ header_at 5 q → a ≡ request_by_frame h s → a ≡ request_by_report (report_of q) s
frame-requests q s e f g =
    g ∙ ap (λ (x : Header). request_by_frame x s) f ∙ subst (λ (n : ℕ). request_by_frame (header_at 5 q) s ≡ request_by_report (report_as n q) s) (sym e) refl

pub others-request : (q s : List ℕ) → eqb (get_or q 0 0) 2 ≡ false → request.Nothing ≡ request_by_report (report_of q) s
others-request q s e =
    let n = get_or q 0 0 in
    let asksNothing : Event → Type 0 = λ w. request.Nothing ≡ request_by_report (Some w) s in
    rw e (at_cond (λ r. request.Nothing ≡ request_by_report r s) (eqb n 0) refl
    (at_cond asksNothing (eqb n 1) refl (at_cond asksNothing (eqb n 3) refl (at_cond asksNothing (eqb n 4) refl refl))))

-- ---- what is done: no frame changes a handle

handles-kept : (s : Session) (a : Request) → (done_to s a).session.handles ≡ s.handles
unfolding ack_of reconnect_of reset_of
handles-kept s request.Nothing = refl
handles-kept s (request.Ack n) = kept s (acked s n) (judge_ack s n) (Ok answer.Done) (acked-keeps s n)
handles-kept s (request.Reconnect n) = kept s (acked s n) (judge_ack s n) (Ok (answer.Resend (length (held_of (acked s n))))) (acked-keeps s n)
handles-kept s (request.Reset full) = kept s (cleared s full) (judge_state s) (Ok answer.Done) (cleared-keeps s full)
handles-kept s (request.Malformed n) = refl

two-words : (ws : List ℕ) → length ws ≡ 2 → ws ≡ get_or ws 0 0 ∷ get_or ws 1 0 ∷ []
two-words [] h = absurd (omega arith)
two-words (a ∷ []) h = absurd (omega arith)
two-words (a ∷ b ∷ []) h = refl
two-words (a ∷ b ∷ d ∷ ws) h = absurd (omega arith)

module _ (ws hs : List ℕ) (a : Request) where
  pub nothing-done : {e : List ℕ} → length ws ≡ 2 → a ≡ request.Nothing → e ≡ answering 0 0 no_refusal
      → applied_with ws hs e ≡ abi_applied (done_to (session_of (abi_session ws hs)) a)
  nothing-done {e = e} h f g =
      ap (λ (x : List ℕ). applied_with x hs e) (two-words ws h)
      ∙ ap (applied_with (get_or ws 0 0 ∷ get_or ws 1 0 ∷ []) hs) g
      ∙ ap (λ (x : Request). abi_applied (done_to (session_of (abi_session ws hs)) x)) (sym f)

  pub something_done : {x : Session} {d : Applied} {n e : List ℕ} → x ≡ session_of (abi_session ws hs) → d ≡ done_to x a → n ≡ session_numbers d.session → e ≡ effect_words d.effect
      → applied_with n hs e ≡ abi_applied (done_to (session_of (abi_session ws hs)) a)
  something_done {x = x} {d = d} {e = e} f g h i =
      let y : d ≡ done_to (session_of (abi_session ws hs)) a = g ∙ ap (λ (z : Session). done_to z a) f in
      let k : hs ≡ d.session.handles = sym (ap (λ (z : Applied). z.session.handles) y ∙ handles-kept (session_of (abi_session ws hs)) a) in
      ap (λ (z : List ℕ). applied_with z hs e) h
      ∙ ap (applied_with (session_numbers d.session) hs) i
      ∙ ap (λ (z : List ℕ). applied_with (session_numbers d.session) z (effect_words d.effect)) k
      ∙ ap abi_applied y

-- ---- both together

pub joined : (x : Session) (s : List ℕ) {m r : Option Event} {a : Request} {d : AbiApplied} → m ≡ r → a ≡ request_by_report m s → d ≡ abi_applied (done_to x a)
    → d ≡ abi_applied (done_to x (request_by_report r s))
joined x s e f g = g ∙ ap (λ (z : Request). abi_applied (done_to x z)) (f ∙ ap (λ (z : Option Event). request_by_report z s) e)
