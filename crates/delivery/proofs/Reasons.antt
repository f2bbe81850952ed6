-- Why a message is no longer held: from the fate that K13's claim gives it, back to the cause.
use mathlib.Core.Path.{◌≡◌, refl, sym, ap, subst, ◌∙◌}
use mathlib.Core.Logic.{◌⊎◌, inl, inr, ⊎_elim}
use mathlib.Core.List.{List, [], ◌∷◌, ◌++◌, Memᴰ}
use mathlib.Core.Bool.{Bool, true, false, cond, true≢false, ◌||◌}
use Prim.Native.Nat.{ℕ}
use lib.ListN.{length, take}
use lib.Dec.{leb, eqb}
use borrow.Author.Tests.{leb-true, eqb-true}
use Rattle.refusal.specs.declared.Numbers.{Numbers}
use Rattle.refusal.specs.Refusals.{row}
use Rattle.refusal.proofs.Booleans.{by_test, at_test, at_cond}
use Rattle.buffer.specs.Le.{number_at}
use Rattle.preamble.specs.declared.Header.{Header}
use Rattle.preamble.specs.Judge.{segment_limit}
use Rattle.fields.specs.Field.{Field, number}
use Rattle.fields.specs.Layout.{Cursor}
use Rattle.bodies.specs.Table.{layout_in}
use Rattle.bodies.specs.Rows.{one_number_of, reset_of}
use Rattle.bodies.specs.Read as read
use Rattle.bodies.specs.Read.{Answer, whole, settled, read_body}
use Rattle.stream.specs.declared.Event.TheVariants as event
use Rattle.stream.specs.Stream.{entry}
use Rattle.stream.proofs.Events.{by_frame}
use Rattle.session.specs.declared.Session.{Session}
use Rattle.std.specs.Prelude.{Ok}
use Rattle.session.specs.declared.Answer.TheVariants as answer
use Rattle.session.specs.Calls.{message}
use Rattle.session.specs.Laws as session
use Rattle.session.specs.Laws.{call_of, event_of}
use Rattle.session.specs.History.{is_held, fate_of, with_fate, events_of, session_by}
use Rattle.session.proofs.Releases.{releases, one_releases, stays, among}
use Rattle.delivery.specs.declared.Request.{Request}
use Rattle.delivery.specs.declared.Request.TheVariants as request
use Rattle.delivery.specs.Requests.{request_of, by_body, body_of, request_by_frame, request_by}
use Rattle.delivery.specs.Calls.{Cause, sends, hands, receives, calls_requested, calls_by, calls_due, played, Reason, acknowledged, dropped, handed_in, Covered}
use Rattle.delivery.specs.Calls as calls

-- ---- bodies of one number

-- a body that is read is whole, with these fields, or refused
data Reads (fs : List Field) (a : Answer) : Type 0 where
  is-whole : a ≡ whole fs → Reads fs a
  is-refused : (n : Numbers) → a ≡ read.refused n → Reads fs a

settles : (s : List ℕ) (c : Cursor) (fs : List Field) → Reads fs (settled s c (whole fs))
unfolding settled
settles s c fs =
    at_cond (Reads fs) c.failed (is-refused (row 20 c.at 0 0) refl)
    (at_cond (Reads fs) (eqb c.at (length s)) (is-whole refl) (is-refused (row 20 c.at 0 0) refl))

reads_20 : (s : List ℕ) → Reads (one_number_of (number_at 8 0 s)) (read_body 20 s)
unfolding read_body layout_in
reads_20 s = at_cond (Reads _) (leb (length s) segment_limit) (settles s _ (one_number_of (number_at 8 0 s))) (is-refused (row 20 0 0 0) refl)

reads_15 : (s : List ℕ) → Reads (one_number_of (number_at 8 0 s)) (read_body 15 s)
unfolding read_body layout_in
reads_15 s = at_cond (Reads _) (leb (length s) segment_limit) (settles s _ (one_number_of (number_at 8 0 s))) (is-refused (row 20 0 0 0) refl)

reads_12 : (s : List ℕ) → Reads (reset_of (number_at 1 0 s)) (read_body 12 s)
unfolding read_body layout_in
reads_12 s = at_cond (Reads _) (leb (length s) segment_limit) (settles s _ (reset_of (number_at 1 0 s))) (is-refused (row 20 0 0 0) refl)

-- ---- what a frame asks, and why

data Requests (h : Header) (s : List ℕ) : Request → Type 0 where
  requests-nothing : Requests h s request.Nothing
  requests-bad : (n : Numbers) → Requests h s (request.Malformed n)
  requests-ack : (n : ℕ) → h.tag ≡ 20 → h.count ≡ 1 → body_of h s ≡ whole (one_number_of n) → Requests h s (request.Ack n)
  requests-reconnect : (n : ℕ) → h.tag ≡ 15 → h.count ≡ 1 → body_of h s ≡ whole (one_number_of n) → Requests h s (request.Reconnect n)
  requests-reset : (n : ℕ) → h.tag ≡ 12 → h.count ≡ 1 → body_of h s ≡ whole (reset_of n) → Requests h s (request.Reset (eqb n 1))

module _ (h : Header) (s : List ℕ) where
  abbrev body : List ℕ
  body = take h.s1.len s

  -- a body of one number, by what its tag asks
  by_body_lem : (w n : ℕ) (a : Request) → request_of h.tag n ≡ a → (h.count ≡ 1 → body_of h s ≡ whole (number w n ∷ []) → Requests h s a) → Reads (number w n ∷ []) (body_of h s) → Requests h s (by_body h (body_of h s))
  by_body_lem w n a e k (is-whole x) =
      rw x (at_test (λ b. Requests h s (cond b (request_of h.tag n) (request.Malformed (row 20 h.s1.len 0 0)))) (eqb h.count 1)
      (λ c. subst (λ (d : Request). Requests h s d) (sym e) (k (eqb-true h.count 1 c) x)) (λ c. requests-bad _))
  by_body_lem w n a e k (is-refused r x) = rw x (requests-bad r)

  by_20 : h.tag ≡ 20 → Requests h s (by_body h (body_of h s))
  by_20 e =
      let n = number_at 8 0 body in
      by_body_lem 8 n (request.Ack n) (ap (λ (t : ℕ). request_of t n) e) (requests-ack n e) (subst (λ (t : ℕ). Reads (one_number_of n) (read_body t body)) (sym e) (reads_20 body))

  by_15 : h.tag ≡ 15 → Requests h s (by_body h (body_of h s))
  by_15 e =
      let n = number_at 8 0 body in
      by_body_lem 8 n (request.Reconnect n) (ap (λ (t : ℕ). request_of t n) e) (requests-reconnect n e) (subst (λ (t : ℕ). Reads (one_number_of n) (read_body t body)) (sym e) (reads_15 body))

  by_12 : h.tag ≡ 12 → Requests h s (by_body h (body_of h s))
  by_12 e =
      let n = number_at 1 0 body in
      by_body_lem 1 n (request.Reset (eqb n 1)) (ap (λ (t : ℕ). request_of t n) e) (requests-reset n e) (subst (λ (t : ℕ). Reads (reset_of n) (read_body t body)) (sym e) (reads_12 body))

  frame-requests : Requests h s (request_by_frame h s)
  unfolding request_by_frame
  frame-requests =
      let asks : Bool → Type 0 = λ b. Requests h s (cond b (by_body h (body_of h s)) request.Nothing) in
      at_test (λ x. asks (x || (eqb h.tag 15 || eqb h.tag 12))) (eqb h.tag 20) (λ e. by_20 (eqb-true h.tag 20 e))
      (λ _. at_test (λ y. asks (y || eqb h.tag 12)) (eqb h.tag 15) (λ e. by_15 (eqb-true h.tag 15 e))
      (λ _. at_test asks (eqb h.tag 12) (λ e. by_12 (eqb-true h.tag 12 e)) (λ _. requests-nothing)))

-- ---- reasons

either_way : (b : Bool) → cond b true false ≡ true → b ≡ true
either_way true e = refl
either_way false e = e

frame-reason : (m : ℕ) (h : Header) (at : ℕ) (s : List ℕ) (a : Request) → Requests h s a → one_releases m (calls_requested a) ≡ true → Reason m (receives (entry (event.Frame h) at s))
frame-reason m h at s a requests-nothing e = absurd (true≢false (sym e))
frame-reason m h at s a (requests-bad n) e = absurd (true≢false (sym e))
frame-reason m h at s a (requests-ack n t q b) e = acknowledged h at n s (inl t) q b (leb-true m n (either_way (leb m n) e))
frame-reason m h at s a (requests-reconnect n t q b) e = acknowledged h at n s (inr t) q b (leb-true m n (either_way (leb m n) e))
frame-reason m h at s a (requests-reset n t q b) e =
    let f : n ≡ 1 = eqb-true n 1 (either_way (eqb n 1) e) in
    dropped h at s t q (b ∙ ap (λ (k : ℕ). whole (reset_of k)) f)

pub reason : (m : ℕ) (c : Cause) → one_releases m (calls_by c) ≡ true → Reason m c
reason m (sends h) e = absurd (true≢false (sym e))
reason m (hands n) e = handed_in n (leb-true m n (either_way (leb m n) e))
reason m (receives e) i =
    by_frame (λ w. one_releases m (calls_requested (request_by w e.store)) ≡ true → Reason m (receives (entry w e.at e.store)))
    (λ h j. frame-reason m h e.at e.store (request_by_frame h e.store) (frame-requests h e.store) j)
    (λ w o j. absurd (true≢false (sym (rw o at j))))
    e.event
    i

-- ---- fates

abbrev pub events_from : Session → List session.Call → List session.Event
events_from s cs = events_of (played s cs)

abbrev pub after_calls : Session → List session.Call → Session
after_calls s cs = session_by s (played s cs)

stay : (m : ℕ) (cs ds : List session.Call) (s : Session) → one_releases m cs ≡ false → fate_of m (events_from s (cs ++ ds)) ≡ fate_of m (events_from (after_calls s cs) ds)
stay m [] ds s e = refl
stay m (c ∷ cs) ds s e =
    by_test (releases m c) (λ q. absurd (true≢false (rw q at e)))
    (λ q. stays m c (call_of s c).answer (events_from (call_of s c).session (cs ++ ds)) q ∙ stay m cs ds (call_of s c).session (rw q at e))

-- a message is held, by what is done after it was sent, or there is a reason why it is not
pub held_or_covered : (m : ℕ) (cs : List Cause) (s : Session) → (fate_of m (events_from s (calls_due cs)) ≡ is_held) ⊎ Covered m cs
unfolding fate_of
held_or_covered m [] s = inl refl
held_or_covered m (c ∷ cs) s =
    by_test (one_releases m (calls_by c)) (λ e. inr (calls.here (reason m c e)))
    (λ e. ⊎_elim (λ f. inl (stay m (calls_by c) (calls_due cs) s e ∙ f)) (λ k. inr (calls.later k)) (held_or_covered m cs (after_calls s (calls_by c))))

-- ---- and so it is among those held

pub events_append : (s : Session) (cs ds : List session.Call) → events_from s (cs ++ ds) ≡ events_from s cs ++ events_from (after_calls s cs) ds
events_append s [] ds = refl
events_append s (c ∷ cs) ds = ap (λ (es : List session.Event). event_of c (call_of s c).answer ∷ es) (events_append (call_of s c).session cs ds)

-- of a message that was sent behind the calls cs, where the causes since are known
pub sent-held : (s : Session) (cs : List session.Call) (since : List Cause) (h m : ℕ) → (call_of (after_calls s cs) (session.accept h)).answer ≡ Ok (answer.Accepted m)
    → Memᴰ (message m h) (with_fate is_held (events_from s (cs ++ (session.accept h ∷ calls_due since)))) ⊎ Covered m since
sent-held s cs since h m e =
    let s' = (call_of (after_calls s cs) (session.accept h)).session in
    ⊎_elim (λ f. inl (rw (events_append s cs (session.accept h ∷ calls_due since), e) (among (message m h) (events_from s cs) (events_from s' (calls_due since)) f)))
    (λ k. inr k) (held_or_covered m since s')
