-- No message is released before its acknowledgement: each call by what its bytes add to the definition's list, and then all of them.
use mathlib.Core.Path.{◌≡◌, refl, sym, ap, subst, ◌∙◌}
use mathlib.Core.List.{List, [], ◌∷◌, ◌++◌, map, append_assoc, append-nil}
use Prim.Native.Nat.{ℕ, ◌+◌}
use lib.ListN.{length, take, drop}
use lib.Seq.{drop_at}
use Rattle.refusal.specs.declared.Numbers.{Numbers}
use Rattle.refusal.specs.Refusals.{Judged, refused}
use Rattle.banner.specs.declared.Features.{Features}
use Rattle.banner.specs.Banner.{judge_own}
use Rattle.stream.specs.Stream.{Entry, entry, Trace}
use Rattle.stream.proofs.Laws.{trace-refused}
use Rattle.std.specs.Prelude.{Result, Option}
use Rattle.stream.specs.declared.Event.{Event}
use Rattle.receiver.specs.Calls.{piece_at}
use Rattle.secure.specs.Reading.{sealed_trace}
use Rattle.connection.specs.Switched.{Switch, none, behind, spliced, trace_with}
use Rattle.connection.specs.Step.{begun, switched_sending}
use Rattle.connection.specs.Calls as connection
use Rattle.connection.specs.Calls.{Piece, Try, taking, switching, taken_by, switch_by, SwitchedDemand3}
use Rattle.session.specs.declared.Session.{Session}
use Rattle.session.specs.declared.Answer.{Answer}
use Rattle.session.specs.Calls.{fresh_session}
use Rattle.session.specs.Laws as session
use Rattle.session.specs.Laws.{call_of, EveryCall}
use Rattle.session.specs.History as history
use Rattle.session.specs.History.{session_by, Accounted, EveryHistory}
use Rattle.delivery.specs.declared.Delivery.{Delivery}
use Rattle.delivery.specs.declared.Request.{Request}
use Rattle.delivery.specs.declared.Request.TheVariants as request
use Rattle.delivery.specs.declared.Applied.{Applied}
use Rattle.delivery.specs.declared.Delivered.{Delivered}
use Rattle.delivery.specs.declared.SessionCalled.{SessionCalled}
use Rattle.delivery.specs.Requests.{request_by, request_by_report, applied, done_to, received_by, switched_by, Delivers, Called, ConnectedWith}
use Rattle.delivery.specs.Calls.{Call, piece, tried, accepted, handed, Chained, session_after, Connection, Connects, session_after_all, on_connection, switch_of, entries_up_to, added, Cause, sends, receives, causes_from, causes_of, calls_requested, calls_by, calls_due, played, history_of, Does, nothing, one, Each, EachOf, answers_by, answers_in, answers_of, history_answers, StartsOf, Given, SwitchesOf, ReceivedOf, EveryRelease}
use Rattle.connection.proofs.Entries.{and_try, and_piece, taken_try, taken-piece, Adds, silent, again, reports, Grows, defined, grown}
use Rattle.delivery.proofs.Reasons.{after_calls, sent-held}
use Rattle.delivery.proofs.Leaves.{left_of}

-- ---- each call

-- the calls as those of the connection alone
chained-on : (stream : List ℕ) (st : Delivery) (s : List ℕ) (t : ℕ) (cs : List Call) → Chained stream st s t cs → connection.Chained stream st.receiver s t (on_connection cs)
chained-on stream st s t [] ch = tt
chained-on stream st s t (piece size r s' ∷ cs) ch = (ch.0.received, chained-on stream r.state s' (t + r.taken) cs ch.1)
chained-on stream st s t (tried key receiving sending r ∷ cs) ch = (ch.0.switched, chained-on stream r.state s t cs ch.1)
chained-on stream st s t (accepted h r ∷ cs) ch = rw (ap (λ (o : Delivery). o.receiver) ch.0.state) at (chained-on stream r.state s t cs ch.1)
chained-on stream st s t (handed n r ∷ cs) ch = rw (ap (λ (o : Delivery). o.receiver) ch.0.state) at (chained-on stream r.state s t cs ch.1)

abbrev pub OnConnection : Connection → Type 0
OnConnection k = connection.Chained k.stream (begun k.own) k.store 0 (on_connection k.calls)

pub on_connection_lem : (k : Connection) (s : Session) → ConnectedWith s k.own k.connected → Chained k.stream k.connected.state k.store 0 k.calls → OnConnection k
on_connection_lem k s c ch = rw (ap (λ (x : Delivery). x.receiver) c.state) at (chained-on k.stream k.connected.state k.store 0 k.calls ch)

does : (s : Session) (d : Applied) (r : Option Event) (t' : ℕ) (s' : List ℕ) (new : List Entry) → d ≡ done_to s (request_by_report r s') → Adds r t' s' new → Does s t' d new
does s d r t' s' new e (silent q) = nothing (e ∙ ap (λ (x : Option Event). done_to s (request_by_report x s')) q)
does s d r t' s' new e (again n q) = nothing (e ∙ ap (λ (x : Option Event). done_to s (request_by_report x s')) q)
does s d r t' s' new e (reports w q) = one (entry w t' s') refl (e ∙ ap (λ (x : Option Event). done_to s (request_by_report x s')) q)

module _ (demand : SwitchedDemand3) (k : Connection) (on : OnConnection k) where
  -- a piece behind the calls past
  module _ (past : List connection.Call) (st : Delivery) (s : List ℕ) (t size : ℕ) (r : Delivered) (s' : List ℕ) (cs : List Call)
      (all : past ++ on_connection (piece size r s' ∷ cs) ≡ on_connection k.calls) (taken : t ≡ taken_by 0 past) (d : Delivers st s (piece_at k.stream t size) r s') where
    abbrev c : Piece
    c = record { size = size; received = received_by r; store = s' }

    grows : Grows k.own k.stream k.store (switch_of k) t c
    grows =
        rw (taken)
        (subst (λ (l : List connection.Call). Grows k.own k.stream k.store (switch_by 0 l) (taken_by 0 past) c) all
        (grown demand k.own k.stream k.store past (on_connection cs) c
        (subst (λ (l : List connection.Call). connection.Chained k.stream (begun k.own) k.store 0 l) (sym all) on)))

    added_is : added k t (t + r.taken) ≡ grows.new
    added_is = ap (drop (length (entries_up_to k t))) grows.grows ∙ drop_at (entries_up_to k t) grows.new (length (entries_up_to k t)) refl

    behind_them : entries_up_to k (t + r.taken) ≡ entries_up_to k t ++ added k t (t + r.taken)
    behind_them = grows.grows ∙ ap (λ (es : List Entry). entries_up_to k t ++ es) (sym added_is)

    done : Does st.session (t + r.taken) (applied r.state.session r.effect) (added k t (t + r.taken))
    done = subst (λ (es : List Entry). Does st.session (t + r.taken) (applied r.state.session r.effect) es) (sym added_is)
        (does st.session (applied r.state.session r.effect) r.report (t + r.taken) s' grows.new d.done grows.adds)

  pub each : (past : List connection.Call) (st : Delivery) (s : List ℕ) (t : ℕ) (cs : List Call) → past ++ on_connection cs ≡ on_connection k.calls → t ≡ taken_by 0 past
      → Chained k.stream st s t cs → Each k st.session t cs
  each past st s t [] all n ch = tt
  each past st s t (piece size r s' ∷ cs) all n ch =
      let c : Piece = record { size = size; received = received_by r; store = s' } in (
        behind_them past st s t size r s' cs all n ch.0,
        done past st s t size r s' cs all n ch.0,
        each (and_piece c past) r.state s' (t + r.taken) cs (append_assoc past (taking c ∷ []) (on_connection cs) ∙ all)
            (ap (λ (i : ℕ). i + r.taken) n ∙ sym (taken-piece c 0 past)) ch.1,
      )
  each past st s t (tried key receiving sending r ∷ cs) all n ch =
      let c : Try = record { key = key; receiving = receiving; sending = sending; switched = switched_by r } in
      each (and_try c past) r.state s t cs (append_assoc past (switching c ∷ []) (on_connection cs) ∙ all) (n ∙ sym (taken_try c 0 past)) ch.1
  each past st s t (accepted h r ∷ cs) all n ch = each past r.state s t cs all n ch.1
  each past st s t (handed h r ∷ cs) all n ch = each past r.state s t cs all n ch.1

-- ---- the session after them, and what the caller is told

due-append : (xs ys : List Cause) → calls_due (xs ++ ys) ≡ calls_due xs ++ calls_due ys
due-append [] ys = refl
due-append (x ∷ xs) ys = ap (λ (cs : List session.Call). calls_by x ++ cs) (due-append xs ys) ∙ sym (append_assoc (calls_by x) (calls_due xs) (calls_due ys))

-- calls of the session, one behind the other, lead from s to s' and give these answers
pub record Plays (s : Session) (calls : List session.Call) (s' : Session) (answers : List (Result Answer Numbers)) : Type 0 where
  pub leads : s' ≡ after_calls s calls
  pub gives : answers ≡ history_answers (played s calls)

after-append : (s : Session) (xs ys : List session.Call) → after_calls s (xs ++ ys) ≡ after_calls (after_calls s xs) ys
after-append s [] ys = refl
after-append s (x ∷ xs) ys = after-append (call_of s x).session xs ys

answers-append : (s : Session) (xs ys : List session.Call) → history_answers (played s (xs ++ ys)) ≡ history_answers (played s xs) ++ history_answers (played (after_calls s xs) ys)
answers-append s [] ys = refl
answers-append s (x ∷ xs) ys = ap (λ (rs : List (Result Answer Numbers)). (call_of s x).answer ∷ rs) (answers-append (call_of s x).session xs ys)

plays_then : {s s' s'' : Session} {xs ys : List session.Call} {rs qs : List (Result Answer Numbers)} → Plays s xs s' rs → Plays s' ys s'' qs → Plays s (xs ++ ys) s'' (rs ++ qs)
plays_then {s} {s'} {s''} {xs} {ys} {rs} {qs} x y = record {
  leads = y.leads ∙ ap (λ (z : Session). after_calls z ys) x.leads ∙ sym (after-append s xs ys);
  gives =
      ap (λ (l : List (Result Answer Numbers)). l ++ qs) x.gives
      ∙ ap (λ (l : List (Result Answer Numbers)). history_answers (played s xs) ++ l) (y.gives ∙ ap (λ (z : Session). history_answers (played z ys)) x.leads)
      ∙ sym (answers-append s xs ys);
}

-- what is asked is done by the calls that are asked for
request_plays : (s : Session) (a : Request) → Plays s (calls_requested a) (done_to s a).session (answers_by (done_to s a).effect)
request_plays s request.Nothing = record { leads = refl; gives = refl }
request_plays s (request.Ack n) = record { leads = refl; gives = refl }
request_plays s (request.Reconnect n) = record { leads = refl; gives = refl }
request_plays s (request.Reset full) = record { leads = refl; gives = refl }
request_plays s (request.Malformed n) = record { leads = refl; gives = refl }

does_plays : (s : Session) (t' : ℕ) (d : Applied) (es : List Entry) → Does s t' d es → Plays s (calls_due (map receives es)) d.session (answers_by d.effect)
does_plays s t' d es (nothing e) = subst (λ (x : Applied). Plays s [] x.session (answers_by x.effect)) (sym e) (record { leads = refl; gives = refl })
does_plays s t' d es (one w at e) =
    let a = request_by w.event w.store in
    subst (λ (x : Applied). Plays s (calls_requested a ++ []) x.session (answers_by x.effect)) (sym e)
    (subst (λ (cs : List session.Call). Plays s cs (done_to s a).session (answers_by (done_to s a).effect)) (sym (append-nil (calls_requested a))) (request_plays s a))

called_plays : (st : Delivery) (c : session.Call) (r : SessionCalled) → Called st c r → Plays st.session (c ∷ []) r.state.session (r.answer ∷ [])
called_plays st c r x = record { leads = ap (λ (d : Delivery). d.session) x.state; gives = ap (λ (q : Result Answer Numbers). q ∷ []) x.answer }

pub calls-play : (k : Connection) (st : Delivery) (s : List ℕ) (t : ℕ) (cs : List Call) → Chained k.stream st s t cs → Each k st.session t cs
    → Plays st.session (calls_due (causes_from k t cs)) (session_after st.session cs) (answers_in cs)
calls-play k st s t [] ch e = record { leads = refl; gives = refl }
calls-play k st s t (piece size r s' ∷ cs) ch e =
    let xs = map receives (added k t (t + r.taken)) in
    let ys = causes_from k (t + r.taken) cs in
    subst (λ (l : List session.Call). Plays st.session l (session_after r.state.session cs) (answers_by r.effect ++ answers_in cs)) (sym (due-append xs ys))
    (plays_then (does_plays st.session (t + r.taken) (applied r.state.session r.effect) (added k t (t + r.taken)) e.1) (calls-play k r.state s' (t + r.taken) cs ch.1 e.2))
calls-play k st s t (tried key receiving sending r ∷ cs) ch e =
    subst (λ (x : Session). Plays x (calls_due (causes_from k t cs)) (session_after r.state.session cs) (answers_in cs)) ch.0.session (calls-play k r.state s t cs ch.1 e)
calls-play k st s t (accepted h r ∷ cs) ch e = plays_then (called_plays st (session.accept h) r ch.0) (calls-play k r.state s t cs ch.1 e)
calls-play k st s t (handed n r ∷ cs) ch e = plays_then (called_plays st (session.ack n) r ch.0) (calls-play k r.state s t cs ch.1 e)

-- ---- every connection

each_of : SwitchedDemand3 → (s : Session) (ks : List Connection) → Connects s ks → EachOf s ks
each_of demand s [] c = tt
each_of demand s (k ∷ ks) c =
    let st = k.connected.state in
    let e : st.session ≡ s = ap (λ (x : Delivery). x.session) c.0.state in
    (subst (λ (x : Session). Each k x 0 k.calls) e (each demand k (on_connection_lem k s c.0 c.1) [] st k.store 0 k.calls refl refl c.1), each_of demand (session_after s k.calls) ks c.2)

all-play : (s : Session) (ks : List Connection) → Connects s ks → EachOf s ks → Plays s (calls_due (causes_of ks)) (session_after_all s ks) (answers_of ks)
all-play s [] c e = record { leads = refl; gives = refl }
all-play s (k ∷ ks) c e =
    let st = k.connected.state in
    let q : st.session ≡ s = ap (λ (x : Delivery). x.session) c.0.state in
    let xs = causes_from k 0 k.calls in
    let now : Plays s (calls_due xs) (session_after s k.calls) (answers_in k.calls) =
    subst (λ (x : Session). Plays x (calls_due xs) (session_after x k.calls) (answers_in k.calls)) q
    (calls-play k st k.store 0 k.calls c.1 (subst (λ (x : Session). Each k x 0 k.calls) (sym q) e.0)) in
    subst (λ (l : List session.Call). Plays s l (session_after_all (session_after s k.calls) ks) (answers_in k.calls ++ answers_of ks)) (sym (due-append xs (causes_of ks)))
    (plays_then now (all-play (session_after s k.calls) ks c.2 e.1))

-- where our own features are refused, the definition has no entry
no-entries : (sw : Switch) (own : Features) (n : Numbers) (bytes store : List ℕ) → judge_own own.supported own.required ≡ refused n → (trace_with sw own bytes store).entries ≡ []
unfolding spliced
no-entries none own n bytes store e = ap (λ (y : Trace). y.entries) (trace-refused own bytes store n e)
no-entries (behind m key nonce) own n bytes store e =
    ap (λ (y : Trace). (spliced m (λ at s. sealed_trace key nonce 0 at (drop at bytes) s) y.entries y.store).entries) (trace-refused own bytes store n e)

starts_of : (s : Session) (ks : List Connection) → Connects s ks → StartsOf ks
starts_of s [] c = tt
starts_of s (k ∷ ks) c = (record { judgement = c.0.judgement; refuses = λ n e t. no-entries (switch_of k) k.own n (take t k.stream) k.store (sym c.0.judgement ∙ e) }, starts_of (session_after s k.calls) ks c.2)

-- what each try to switch gives the builder
given_of_lem : (stream : List ℕ) (st : Delivery) (s : List ℕ) (t : ℕ) (cs : List Call) → Chained stream st s t cs → Given cs
given_of_lem stream st s t [] ch = tt
given_of_lem stream st s t (piece size r s' ∷ cs) ch = given_of_lem stream r.state s' (t + r.taken) cs ch.1
given_of_lem stream st s t (tried key receiving sending r ∷ cs) ch =
    let w = ch.0.switched in
    (w.sends ∙ ap (λ (j : Judged). switched_sending j key sending) (sym w.judgement), given_of_lem stream r.state s t cs ch.1)
given_of_lem stream st s t (accepted h r ∷ cs) ch = given_of_lem stream r.state s t cs ch.1
given_of_lem stream st s t (handed n r ∷ cs) ch = given_of_lem stream r.state s t cs ch.1

received_of : SwitchedDemand3 → (s : Session) (ks : List Connection) → Connects s ks → ReceivedOf ks
received_of demand s [] c = tt
received_of demand s (k ∷ ks) c = (
  defined demand k.own k.stream k.store (on_connection k.calls) (on_connection_lem k s c.0 c.1),
  received_of demand (session_after s k.calls) ks c.2,
)

switches_of : SwitchedDemand3 → (s : Session) (ks : List Connection) → Connects s ks → SwitchesOf ks
switches_of demand s [] c = tt
switches_of demand s (k ∷ ks) c = (
  (defined demand k.own k.stream k.store (on_connection k.calls) (on_connection_lem k s c.0 c.1)).one,
  given_of_lem k.stream k.connected.state k.store 0 k.calls c.1,
  switches_of demand (session_after s k.calls) ks c.2,
)

played-chained : (s : Session) (cs : List session.Call) → history.Chained s (played s cs)
played-chained s [] = tt
played-chained s (c ∷ cs) = (refl, played-chained (call_of s c).session cs)

-- THE CLAIM
pub every_release : SwitchedDemand3 → EveryCall → EveryHistory → EveryRelease
unfolding EveryRelease EveryHistory
every_release demand calls histories ks c =
    let e = each_of demand fresh_session ks c in
    let p = all-play fresh_session ks c e in
    let final : session_after_all fresh_session ks ≡ session_by fresh_session (history_of (causes_of ks)) = p.leads in
    let accounted : Accounted (history_of (causes_of ks)) = histories (history_of (causes_of ks)) (played-chained fresh_session (calls_due (causes_of ks))) in
    record {
      received = received_of demand fresh_session ks c;
      each = e;
      leaves = left_of calls fresh_session ks c e (record { agreeing = calls.fresh; sized = refl });
      final = final;
      accounted = accounted;
      answers = p.gives;
      starts = starts_of fresh_session ks c;
      switches = switches_of demand fresh_session ks c;
      released = λ before since h m q a.
          let d : calls_due (causes_of ks) ≡ calls_due before ++ (session.accept h ∷ calls_due since) = ap calls_due q ∙ due-append before (sends h ∷ since) in
          rw (final, accounted.holds, d) (sent-held fresh_session (calls_due before) since h m a);
    }
