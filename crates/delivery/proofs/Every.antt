-- What holds of every call: from what the connection and the session promise of each of theirs.
use mathlib.Core.Path.{◌≡◌, refl, sym, ap, subst, ◌∙◌}
use mathlib.Core.Logic.{inl}
use mathlib.Core.List.{List, [], ◌∷◌}
use mathlib.Core.Bool.{Bool, true, false, cond, true≢false}
use Prim.Native.Nat.{ℕ}
use lib.ListN.{length}
use Rattle.refusal.proofs.Booleans.{by_test}
use Rattle.stream.proofs.Events.{by_frame}
use Rattle.stream.specs.Stream.{entry}
use Rattle.std.specs.Prelude.{Result, Option, Some, None, Ok, Err}
use Rattle.stream.specs.declared.Event.{Event}
use Rattle.refusal.specs.declared.Numbers.{Numbers}
use Rattle.connection.specs.Every as connection
use Rattle.session.specs.declared.Session.{Session}
use Rattle.session.specs.declared.Answer.{Answer}
use Rattle.session.specs.declared.Outcome.{Outcome}
use Rattle.session.specs.Calls.{places, agrees}
use Rattle.session.specs.Laws as session
use Rattle.session.specs.Laws.{call_of}
use Rattle.session.proofs.Releases.{Good, call-keeps}
use Rattle.delivery.specs.declared.Delivery.{Delivery}
use Rattle.delivery.specs.declared.Request.{Request}
use Rattle.delivery.specs.declared.Request.TheVariants as request
use Rattle.delivery.specs.declared.Effect.TheVariants as effect
use Rattle.delivery.specs.declared.Applied.{Applied}
use Rattle.delivery.specs.declared.Delivered.{Delivered}
use Rattle.delivery.specs.declared.SessionCalled.{SessionCalled}
use Rattle.delivery.specs.Requests.{by_body, body_of, request_by_frame, request_by, request_by_report, applied, done_to, received_by, Delivers, Called}
use Rattle.delivery.specs.Calls.{Cause, hands, Leaves}
use Rattle.delivery.specs.Every.{speaks, request_refused, reported_cause, Untouched, Sound, SoundSessionCall, EveryCall}
use Rattle.delivery.proofs.Leaves.{by_call, request-left}

-- what speaks of nothing asks for nothing
requests-none : (q : Option Event) (s : List ℕ) → speaks q ≡ false → request_by_report q s ≡ request.Nothing
unfolding request_by_frame
requests-none None s e = refl
requests-none (Some w) s e =
    by_frame (λ v. speaks (Some v) ≡ false → request_by v s ≡ request.Nothing)
    (λ h f. ap (λ (b : Bool). cond b (by_body h (body_of h s)) request.Nothing) f) (λ v o f. rw o) w e

-- a session that is as it was holds what it held
same-held : (s s' : Session) (causes : List Cause) → s' ≡ s → Leaves s s' causes
same-held s s' causes e = subst (λ (x : Session). Leaves s x causes) (sym e) (λ x k. inl k)

module _ (every : session.EveryCall) (s : Session) (sized : length s.handles ≡ places) where
  call-broken : (c : session.Call) → agrees s ≡ false → (call_of s c).session ≡ s
  call-broken c e = ap (λ (o : Outcome). o.session) ((every.each s c sized).contradicts e)

  call_stays : (c : session.Call) → request_refused (effect.Answer (call_of s c).answer) ≡ true → (call_of s c).session ≡ s
  call_stays c = go (call_of s c).answer refl
    where
      go : (q : Result Answer Numbers) → (call_of s c).answer ≡ q → request_refused (effect.Answer q) ≡ true → (call_of s c).session ≡ s
      go (Ok r) i e = absurd (true≢false (sym e))
      go (Err n) i e = (every.each s c sized).unchanged n i

  request-broken : (a : Request) → agrees s ≡ false → (done_to s a).session ≡ s
  request-broken request.Nothing e = refl
  request-broken (request.Ack n) e = call-broken (session.ack n) e
  request-broken (request.Reconnect n) e = call-broken (session.reconnect n) e
  request-broken (request.Reset full) e = call-broken (session.reset full) e
  request-broken (request.Malformed n) e = refl

  request-stays : (a : Request) → request_refused (done_to s a).effect ≡ true → (done_to s a).session ≡ s
  request-stays request.Nothing e = refl
  request-stays (request.Ack n) e = call_stays (session.ack n) e
  request-stays (request.Reconnect n) e = call_stays (session.reconnect n) e
  request-stays (request.Reset full) e = call_stays (session.reset full) e
  request-stays (request.Malformed n) e = refl

  -- by whether the session agrees with itself
  by_agreement : (s' : Session) (causes : List Cause) → (agrees s ≡ false → s' ≡ s) → (Good s → Leaves s s' causes) → Leaves s s' causes
  by_agreement s' causes b f = by_test (agrees s) (λ e. f (record { agreeing = e; sized = sized })) (λ e. same-held s s' causes (b e))

  reported-leaves : (q : Option Event) (t : ℕ) (s' : List ℕ) → Good s → Leaves s (done_to s (request_by_report q s')).session (reported_cause q t s')
  reported-leaves None t s' g = λ x k. inl k
  reported-leaves (Some e) t s' g = (request-left every s (entry e t s') (request_by e s') refl g).leaves

untouched : (st : Delivery) (r : Delivered) → applied r.state.session r.effect ≡ applied st.session effect.Nothing → Untouched st r
untouched st r e = record { session = ap (λ (d : Applied). d.session) e; effect = ap (λ (d : Applied). d.effect) e }

module _ (calls : connection.EveryCall) (every : session.EveryCall) (st : Delivery) (sized : length st.session.handles ≡ places) where
  sound : (s piece : List ℕ) (r : Delivered) (s' : List ℕ) → Delivers st s piece r s' → Sound st s piece r s'
  unfolding connection.EveryCall
  sound s piece r s' d =
      let a : Request = request_by_report r.report s' in
      let e : r.state.session ≡ (done_to st.session a).session = ap (λ (x : Applied). x.session) d.done in
      let keeps : speaks r.report ≡ false → Untouched st r = λ q. untouched st r (d.done ∙ ap (done_to st.session) (requests-none r.report s' q)) in
      let broken : agrees st.session ≡ false → r.state.session ≡ st.session = λ q. e ∙ request-broken every st.session sized a q in
      record {
        keeps = keeps;
        contradicts = λ q.
            let c = (calls.1 st.receiver s piece (received_by r) s' d.received).contradicts q in
            (c, keeps (ap speaks c.report));
        broken = broken;
        unchanged = λ q. e ∙ request-stays every st.session sized a (sym (ap (λ (x : Applied). request_refused x.effect) d.done) ∙ q);
        leaves = by_agreement every st.session sized r.state.session (reported_cause r.report r.taken s') broken
            (λ g. subst (λ (x : Session). Leaves st.session x (reported_cause r.report r.taken s')) (sym e) (reported-leaves every st.session sized r.report r.taken s' g));
      }

  -- a call of the session, by what leaves where it agrees with itself
  sound-session-call : (c : session.Call) (r : SessionCalled) (causes : List Cause) → Called st c r → (Good st.session → Leaves st.session (call_of st.session c).session causes) → SoundSessionCall st r causes
  sound-session-call c r causes d f =
      let e : r.state.session ≡ (call_of st.session c).session = ap (λ (x : Delivery). x.session) d.state in
      let broken : agrees st.session ≡ false → r.state.session ≡ st.session = λ q. e ∙ call-broken every st.session sized c q in
      record {
        receiver = ap (λ (x : Delivery). x.receiver) d.state;
        broken = broken;
        unchanged = λ n q. e ∙ (every.each st.session c sized).unchanged n (sym d.answer ∙ q);
        leaves = by_agreement every st.session sized r.state.session causes broken (λ g. subst (λ (x : Session). Leaves st.session x causes) (sym e) (f g));
      }

pub every_call : connection.EveryCall → session.EveryCall → EveryCall
unfolding EveryCall
every_call calls every st sized = (
  sound calls every st sized,
  (λ h r d. sound-session-call calls every st sized (session.accept h) r [] d (λ g x k. inl (call-keeps every st.session (session.accept h) x g refl k))),
  (λ n r d. sound-session-call calls every st sized (session.ack n) r (hands n ∷ []) d (by_call every st.session (session.ack n) (hands n) refl)),
)
