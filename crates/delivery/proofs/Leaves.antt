-- A message leaves the table at its reason's own call: from what the session promises of every single call.
use mathlib.Core.Path.{◌≡◌, refl, sym, ap, subst, ◌∙◌}
use mathlib.Core.Logic.{inl, inr}
use mathlib.Core.List.{List, [], ◌∷◌, map, Memᴰ}
use Prim.Native.Nat.{ℕ, ◌+◌}
use Rattle.refusal.proofs.Booleans.{by_test}
use Rattle.stream.specs.Stream.{Entry}
use Rattle.session.specs.declared.Session.{Session}
use Rattle.session.specs.Calls.{held_of}
use Rattle.session.specs.Laws as session
use Rattle.session.specs.Laws.{call_of, EveryCall}
use Rattle.session.proofs.Releases.{releases, one_releases, Good, call-good, call-keeps}
use Rattle.delivery.specs.declared.Delivery.{Delivery}
use Rattle.delivery.specs.declared.Request.{Request}
use Rattle.delivery.specs.declared.Request.TheVariants as request
use Rattle.delivery.specs.declared.Applied.{Applied}
use Rattle.delivery.specs.Requests.{request_by, applied, done_to}
use Rattle.delivery.specs.Calls.{Call, piece, tried, accepted, handed, Chained, session_after, Connection, Connects, added, Cause, hands, receives, calls_requested, calls_by, Does, nothing, one, Each, EachOf, Leaves, LeavesIn, LeavesOf}
use Rattle.delivery.specs.Calls as calls
use Rattle.delivery.proofs.Reasons.{reason}

module _ (every : EveryCall) where
  -- a cause that makes one call due
  pub by_call : (s : Session) (c : session.Call) (w : Cause) → calls_by w ≡ c ∷ [] → Good s → Leaves s (call_of s c).session (w ∷ [])
  by_call s c w q g x k =
      by_test (releases x.number c) (λ e. inr (calls.here (reason x.number w (ap (one_releases x.number) q ∙ rw e)))) (λ e. inl (call-keeps every s c x g e k))

  pub record Left (s s' : Session) (causes : List Cause) : Type 0 where
    pub leaves : Leaves s s' causes
    pub good : Good s'

  pub request-left : (s : Session) (e : Entry) (a : Request) → request_by e.event e.store ≡ a → Good s → Left s (done_to s a).session (receives e ∷ [])
  request-left s e request.Nothing q g = record { leaves = λ x k. inl k; good = g }
  request-left s e (request.Ack n) q g = record { leaves = by_call s (session.ack n) (receives e) (ap calls_requested q) g; good = call-good every s (session.ack n) g }
  request-left s e (request.Reconnect n) q g = record { leaves = by_call s (session.reconnect n) (receives e) (ap calls_requested q) g; good = call-good every s (session.reconnect n) g }
  request-left s e (request.Reset full) q g = record { leaves = by_call s (session.reset full) (receives e) (ap calls_requested q) g; good = call-good every s (session.reset full) g }
  request-left s e (request.Malformed n) q g = record { leaves = λ x k. inl k; good = g }

  does-left : (s : Session) (t' : ℕ) (d : Applied) (es : List Entry) → Does s t' d es → Good s → Left s d.session (map receives es)
  does-left s t' d es (nothing e) g = subst (λ (x : Applied). Left s x.session []) (sym e) (record { leaves = λ x k. inl k; good = g })
  does-left s t' d es (one w at e) g = subst (λ (x : Applied). Left s x.session (receives w ∷ [])) (sym e) (request-left s w (request_by w.event w.store) refl g)

  -- ---- every call and every connection

  record AllLeft (k : Connection) (s : Session) (t : ℕ) (cs : List Call) : Type 0 where
    leaves : LeavesIn k s t cs
    good : Good (session_after s cs)

  left-run : (k : Connection) (st : Delivery) (s : List ℕ) (t : ℕ) (cs : List Call) → Chained k.stream st s t cs → Each k st.session t cs → Good st.session → AllLeft k st.session t cs
  left-run k st s t [] ch e g = record { leaves = tt; good = g }
  left-run k st s t (piece size r s' ∷ cs) ch e g =
      let l = does-left st.session (t + r.taken) (applied r.state.session r.effect) (added k t (t + r.taken)) e.1 g in
      let i = left-run k r.state s' (t + r.taken) cs ch.1 e.2 l.good in
      record { leaves = (l.leaves, i.leaves); good = i.good }
  left-run k st s t (tried key receiving sending r ∷ cs) ch e g =
      let q : st.session ≡ r.state.session = sym ch.0.session in
      let i = left-run k r.state s t cs ch.1 e (subst (λ (x : Session). Good x) q g) in
      record { leaves = ((λ x m. inl (subst (λ (y : Session). Memᴰ x (held_of y)) q m)), i.leaves); good = i.good }
  left-run k st s t (accepted h r ∷ cs) ch e g =
      let q : (call_of st.session (session.accept h)).session ≡ r.state.session = sym (ap (λ (o : Delivery). o.session) ch.0.state) in
      let i = left-run k r.state s t cs ch.1 e (subst (λ (x : Session). Good x) q (call-good every st.session (session.accept h) g)) in
      record {
        leaves = ((λ x m. inl (subst (λ (y : Session). Memᴰ x (held_of y)) q (call-keeps every st.session (session.accept h) x g refl m))), i.leaves);
        good = i.good;
      }
  left-run k st s t (handed n r ∷ cs) ch e g =
      let q : (call_of st.session (session.ack n)).session ≡ r.state.session = sym (ap (λ (o : Delivery). o.session) ch.0.state) in
      let i = left-run k r.state s t cs ch.1 e (subst (λ (x : Session). Good x) q (call-good every st.session (session.ack n) g)) in
      record { leaves = (subst (λ (y : Session). Leaves st.session y (hands n ∷ [])) q (by_call st.session (session.ack n) (hands n) refl g), i.leaves); good = i.good }

  pub left_of : (s : Session) (ks : List Connection) → Connects s ks → EachOf s ks → Good s → LeavesOf s ks
  left_of s [] c e g = tt
  left_of s (k ∷ ks) c e g =
      let q : k.connected.state.session ≡ s = ap (λ (x : Delivery). x.session) c.0.state in
      let r = left-run k k.connected.state k.store 0 k.calls c.1 (subst (λ (x : Session). Each k x 0 k.calls) (sym q) e.0) (subst (λ (x : Session). Good x) (sym q) g) in
      let a : AllLeft k s 0 k.calls = subst (λ (x : Session). AllLeft k x 0 k.calls) q r in
      (a.leaves, left_of (session_after s k.calls) ks c.2 e.1 a.good)
