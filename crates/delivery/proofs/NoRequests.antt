-- A stream whose entries ask nothing, whatever switch is made on it: under every cutting the session is where the caller's own calls lead.
use mathlib.Core.Path.{◌≡◌, refl, ap, subst, ◌∙◌}
use mathlib.Core.List.{List, [], ◌∷◌, ◌++◌}
use mathlib.Core.Bool.{true, cond, ◌&&◌}
use Prim.Native.Nat.{ℕ, ◌+◌, ◌-◌}
use lib.Dec.{leb, eqb}
use Rattle.refusal.proofs.Booleans.{at_test, at_cond}
use Rattle.stream.specs.Stream.{Entry, Trace}
use Rattle.connection.specs.Switched.{Switch, ends_frame, spliced, trace_with}
use Rattle.connection.specs.Calls.{SwitchedDemand3}
use Rattle.session.specs.declared.Session.{Session}
use Rattle.delivery.specs.declared.Delivery.{Delivery}
use Rattle.delivery.specs.declared.Request.TheVariants as request
use Rattle.delivery.specs.declared.Applied.{Applied}
use Rattle.delivery.specs.Requests.{applied, done_to}
use Rattle.delivery.specs.Calls.{Call, piece, tried, accepted, handed, Chained, session_after, Connection, switch_of, entries_up_to, added, Does, nothing, one, Each}
use Rattle.delivery.specs.Worked.{entry_request, own_calls, ReleasesNothing, ours, store}
use Rattle.connection.proofs.Prefixes.{up_to, trace-first}
use Rattle.delivery.proofs.Reasons.{after_calls}
use Rattle.delivery.proofs.Claim.{on_connection_lem, each}

-- ---- entries that ask nothing

abbrev pub NoRequests : List Entry → Type 0
NoRequests [] = Unit {0}
NoRequests (e ∷ es) = (entry_request e ≡ request.Nothing) × NoRequests es

no-requests-first : (t : ℕ) (es : List Entry) → NoRequests es → NoRequests (up_to t es)
no-requests-first t [] q = tt
no-requests-first t (e ∷ es) q = at_cond NoRequests (leb e.at t) (q.0, no-requests-first t es q.1) tt

no-requests-right : (es fs : List Entry) → NoRequests (es ++ fs) → NoRequests fs
no-requests-right [] fs q = q
no-requests-right (e ∷ es) fs q = no-requests-right es fs q.1

-- with a switch behind one of them: where what is behind a frame has no entry
abbrev pub NoRequestsBehind : (ℕ → List ℕ → Trace) → List Entry → Type 0
NoRequestsBehind next [] = Unit {0}
NoRequestsBehind next (e ∷ es) = (entry_request e ≡ request.Nothing) × (ends_frame e.event ≡ true → (next e.at e.store).entries ≡ []) × NoRequestsBehind next es

pub no-requests-spliced : (n : ℕ) (next : ℕ → List ℕ → Trace) (es : List Entry) (s : List ℕ) → NoRequestsBehind next es → NoRequests (spliced n next es s).entries
unfolding spliced
no-requests-spliced n next [] s q = tt
no-requests-spliced n next (e ∷ es) s q = (
  q.0,
  at_test (λ c. NoRequests (cond (c && eqb n 1) (next e.at e.store) (spliced (cond c (n - 1) n) next es s)).entries) (ends_frame e.event)
      (λ h. at_cond (λ (x : Trace). NoRequests x.entries) (eqb n 1) (rw (q.1 h) tt) (no-requests-spliced (n - 1) next es s q.2)) (λ h. no-requests-spliced n next es s q.2),
)

does-nothing : (s : Session) (t' : ℕ) (d : Applied) (es : List Entry) → Does s t' d es → NoRequests es → d.session ≡ s
does-nothing s t' d es (nothing e) q = ap (λ (x : Applied). x.session) e
does-nothing s t' d es (one w at e) q = ap (λ (x : Applied). x.session) (e ∙ ap (done_to s) q.0)

no-requests-run : (k : Connection) (st : Delivery) (s : List ℕ) (t : ℕ) (cs : List Call) → ((n : ℕ) → NoRequests (entries_up_to k n)) → Chained k.stream st s t cs → Each k st.session t cs
    → session_after st.session cs ≡ after_calls st.session (own_calls cs)
no-requests-run k st s t [] q ch e = refl
no-requests-run k st s t (piece size r s' ∷ cs) q ch e =
    let new : NoRequests (added k t (t + r.taken)) = no-requests-right (entries_up_to k t) (added k t (t + r.taken)) (subst (λ (es : List Entry). NoRequests es) e.0 (q (t + r.taken))) in
    no-requests-run k r.state s' (t + r.taken) cs q ch.1 e.2
    ∙ ap (λ (x : Session). after_calls x (own_calls cs)) (does-nothing st.session (t + r.taken) (applied r.state.session r.effect) (added k t (t + r.taken)) e.1 new)
no-requests-run k st s t (tried key receiving sending r ∷ cs) q ch e =
    no-requests-run k r.state s t cs q ch.1 e ∙ ap (λ (x : Session). after_calls x (own_calls cs)) ch.0.session
no-requests-run k st s t (accepted h r ∷ cs) q ch e =
    no-requests-run k r.state s t cs q ch.1 e ∙ ap (λ (o : Delivery). after_calls o.session (own_calls cs)) ch.0.state
no-requests-run k st s t (handed n r ∷ cs) q ch e =
    no-requests-run k r.state s t cs q ch.1 e ∙ ap (λ (o : Delivery). after_calls o.session (own_calls cs)) ch.0.state

pub releases-nothing : SwitchedDemand3 → (Made : Switch → Type 0) (stream : List ℕ) → ((sw : Switch) → Made sw → NoRequests (trace_with sw ours stream store).entries) → ReleasesNothing Made stream
releases-nothing demand Made stream q s k cs c ch made =
    let x : Connection = record { own = ours; stream = stream; store = store; connected = k; calls = cs } in
    let no-requests : (n : ℕ) → NoRequests (entries_up_to x n) =
    λ n. rw (trace-first (switch_of x) ours stream store n) (no-requests-first n (trace_with (switch_of x) ours stream store).entries (q (switch_of x) made)) in
    let e : k.state.session ≡ s = ap (λ (d : Delivery). d.session) c.state in
    subst (λ (y : Session). session_after y cs ≡ after_calls y (own_calls cs)) e
    (no-requests-run x k.state store 0 cs no-requests ch (each demand x (on_connection_lem x s c ch) [] k.state store 0 cs refl refl ch))
