-- A stream that makes one call of the session: under every cutting it is made, and the caller is told its answer.
use mathlib.Core.Path.{◌≡◌, refl, sym, ap, subst, ◌∙◌}
use mathlib.Core.List.{List, [], ◌∷◌, ◌++◌, map, map-append, append_assoc, append-nil}
use Prim.Native.Nat.{ℕ, ◌+◌}
use native.Mathlib.Omega.{arith}
use Rattle.stream.specs.Stream.{Entry}
use Rattle.connection.specs.Switched.{Switch, trace_with}
use Rattle.connection.specs.Calls.{taken_by, SwitchedDemand3}
use Rattle.session.specs.declared.Session.{Session}
use Rattle.session.specs.Laws as session
use Rattle.delivery.specs.declared.Delivery.{Delivery}
use Rattle.delivery.specs.Calls.{Call, piece, tried, accepted, handed, session_after, Connection, on_connection, switch_of, entries_up_to, added, Cause, receives, causes_from, calls_due, Each, answers_in}
use Rattle.delivery.specs.Worked.{ours, store, own_calls, reading, Completes}
use Rattle.connection.proofs.Prefixes.{up_to, trace-first}
use Rattle.delivery.proofs.Claim.{on_connection_lem, each, Plays, calls-play}

-- without calls of the caller's own, the causes are the entries of all bytes taken
all_causes : (k : Connection) (s : Session) (t : ℕ) (cs : List Call) → own_calls cs ≡ [] → Each k s t cs
    → map receives (entries_up_to k t) ++ causes_from k t cs ≡ map receives (entries_up_to k (taken_by t (on_connection cs)))
all_causes k s t [] own e = append-nil (map receives (entries_up_to k t))
all_causes k s t (piece size r s' ∷ cs) own e =
    let t' = t + r.taken in
    sym (append_assoc (map receives (entries_up_to k t)) (map receives (added k t t')) (causes_from k t' cs))
    ∙ ap (λ (l : List Cause). l ++ causes_from k t' cs) (sym (map-append receives (entries_up_to k t) (added k t t')))
    ∙ ap (λ (es : List Entry). map receives es ++ causes_from k t' cs) (sym e.0)
    ∙ all_causes k r.state.session t' cs own e.2
all_causes k s t (tried key receiving sending r ∷ cs) own e = all_causes k r.state.session t cs own e
all_causes k s t (accepted h r ∷ cs) own e = absurd (let z : ◌≡◌ {A = ℕ} 1 0 = cc in omega arith)
all_causes k s t (handed n r ∷ cs) own e = absurd (let z : ◌≡◌ {A = ℕ} 1 0 = cc in omega arith)

-- by the entries of the stream: none before its first byte, and all of them make the call due
pub all-played : SwitchedDemand3 → (sw : Switch) (bytes : List ℕ) (n : ℕ) (call : session.Call) (es : List Entry) → (trace_with sw ours bytes store).entries ≡ es → up_to 0 es ≡ []
    → calls_due (map receives (up_to n es)) ≡ call ∷ [] → Completes sw bytes n call
all-played demand sw bytes n call es has none once s k cs c ch made own all =
    let x : Connection = reading bytes k cs in
    let e : k.state.session ≡ s = ap (λ (d : Delivery). d.session) c.state in
    let each-call = each demand x (on_connection_lem x s c ch) [] k.state store 0 cs refl refl ch in
    let up : (t : ℕ) → entries_up_to x t ≡ up_to t es =
    λ t. trace-first (switch_of x) ours bytes store t ∙ ap (λ (w : Switch). up_to t (trace_with w ours bytes store).entries) made ∙ ap (up_to t) has in
    let due : calls_due (causes_from x 0 cs) ≡ call ∷ [] =
    ap (λ (l : List Entry). calls_due (map receives l ++ causes_from x 0 cs)) (sym (up 0 ∙ none))
    ∙ ap calls_due (all_causes x k.state.session 0 cs own each-call)
    ∙ ap (λ (t : ℕ). calls_due (map receives (entries_up_to x t))) all
    ∙ ap (λ (l : List Entry). calls_due (map receives l)) (up n)
    ∙ once in
    let p : Plays s (call ∷ []) (session_after s cs) (answers_in cs) =
    subst (λ (y : Session). Plays y (call ∷ []) (session_after y cs) (answers_in cs)) e
    (subst (λ (l : List session.Call). Plays k.state.session l (session_after k.state.session cs) (answers_in cs)) due (calls-play x k.state store 0 cs ch each-call)) in
    (p.leads, p.gives)
