-- Lists of entries and of calls, one behind the other.
use mathlib.Core.Path.{◌≡◌, refl}
use mathlib.Core.Bool.{Bool, true, false, true≢false}
use mathlib.Core.List.{List, [], ◌∷◌, ◌++◌}
use Prim.Native.Nat.{ℕ, ◌+◌, ◌≤◌}
use native.Mathlib.Omega.{arith}
use Rattle.refusal.specs.Refusals.{fine, by_judgement}
use Rattle.banner.specs.declared.Revision.{Revision}
use Rattle.stream.specs.declared.Event.{Event}
use Rattle.stream.specs.Events.{role_of, judge_role, judge_event, passing}
use Rattle.stream.specs.Stream.{Entry, refused_in}
use Rattle.stream.specs.Adds.{Adds}
use Rattle.stream.proofs.Events.{by_event, by_adds}
use Rattle.receiver.specs.declared.State.{State}
use Rattle.receiver.specs.Report.{Report}
use Rattle.std.specs.Prelude.{Some, None}
use Rattle.receiver.proofs.Entries.{at-report}
use Rattle.receiver.specs.Calls.{Call, Chained, taken_by, state_by, store_by, entered, reported_by}

-- ---- events

-- where no refusal is among an event and those behind it, it is passed, and none is among those
pub clean-here : (w : Event) (b : Bool) → passing w b (λ n. true) ≡ false → judge_event w ≡ fine
clean-here w b e = by_event (λ v. passing v b (λ n. true) ≡ false → judge_event v ≡ fine) (λ v p d. p) (λ n d. absurd (true≢false d)) w e

pub clean-behind : (w : Event) (b : Bool) → passing w b (λ n. true) ≡ false → b ≡ false
clean-behind w b e = rw (clean-here w b e) at e

pub passing-same : {A : Type 0} (w : Event) (a : A) → passing w a (λ n. a) ≡ a
passing-same w a = by_event (λ v. passing v a (λ n. a) ≡ a) (λ v p. rw p) (λ n. refl) w

-- ---- entries

pub refused-append : (es fs : List Entry) → refused_in es ≡ false → refused_in (es ++ fs) ≡ refused_in fs
refused-append [] fs h = refl
refused-append (e ∷ es) fs h = rw (clean-here e.event (refused_in es) h) (refused-append es fs (clean-behind e.event (refused_in es) h))

-- behind entries that are no refusal, the others add up from some byte on
pub adds-behind : (r : Revision) (P : ℕ) (es fs : List Entry) → refused_in es ≡ false → Adds r P (es ++ fs) → (Q : ℕ) × Adds r Q fs
adds-behind r P [] fs h a = (P, a)
adds-behind r P (e ∷ es) fs h a =
    by_adds (λ w. by_judgement (judge_role w) (refused_in es) (λ n. true) ≡ false → (Q : ℕ) × Adds r Q fs) r P e.at (λ Q. Adds r Q (es ++ fs))
    (λ f x c. adds-behind r P es fs c x)
    (λ f q x c. adds-behind r e.at es fs c x)
    (λ n l c. absurd (true≢false c))
    (role_of e.event)
    a
    h

-- entries from byte u to byte E
abbrev pub Between : ℕ → ℕ → List Entry → Type 0
Between u E [] = Unit {0}
Between u E (e ∷ es) = (u ≤ e.at) × (e.at ≤ E) × Between u E es

between-later : (u v E : ℕ) (es : List Entry) → u ≤ v → Between v E es → Between u E es
between-later u v E [] h b = tt
between-later u v E (e ∷ es) h b = (omega arith, b.1, between-later u v E es h b.2)

-- ---- calls

pub taken-append : (t : ℕ) (cs ds : List Call) → taken_by t (cs ++ ds) ≡ taken_by (taken_by t cs) ds
taken-append t [] ds = refl
taken-append t (c ∷ cs) ds = taken-append (t + c.received.taken) cs ds

pub state-append : (st : State) (cs ds : List Call) → state_by st (cs ++ ds) ≡ state_by (state_by st cs) ds
state-append st [] ds = refl
state-append st (c ∷ cs) ds = state-append c.received.state cs ds

pub store-append : (s : List ℕ) (cs ds : List Call) → store_by s (cs ++ ds) ≡ store_by (store_by s cs) ds
store-append s [] ds = refl
store-append s (c ∷ cs) ds = store-append c.store cs ds

pub chained_append : (stream : List ℕ) (st : State) (s : List ℕ) (t : ℕ) (cs ds : List Call) → Chained stream st s t cs → Chained stream (state_by st cs) (store_by s cs) (taken_by t cs) ds → Chained stream st s t (cs ++ ds)
chained_append stream st s t [] ds a b = b
chained_append stream st s t (c ∷ cs) ds a b = (a.0, chained_append stream c.received.state c.store (t + c.received.taken) cs ds a.1 b)

pub entered-append : (r : Report) (at : ℕ) (s : List ℕ) (xs es fs : List Entry) → refused_in (entered r at s es) ≡ false → (refused_in es ≡ false → xs ≡ es ++ fs) → entered r at s xs ≡ entered r at s es ++ fs
entered-append None at s xs es fs h f = f h
entered-append (Some w) at s xs es fs h f =
    by_event (λ v. refused_in (entered (Some v) at s es) ≡ false → entered (Some v) at s xs ≡ entered (Some v) at s es ++ fs)
    (λ v p c. rw (p, f (rw p at c))) (λ n c. absurd (true≢false c)) w h

pub reported-append : (t : ℕ) (cs ds : List Call) → refused_in (reported_by t cs) ≡ false → reported_by t (cs ++ ds) ≡ reported_by t cs ++ reported_by (taken_by t cs) ds
reported-append t [] ds h = refl
reported-append t (c ∷ cs) ds h =
    let u = t + c.received.taken in
    entered-append c.received.report u c.store (reported_by u (cs ++ ds)) (reported_by u cs) (reported_by (taken_by u cs) ds) h (reported-append u cs ds)

pub taken_more : (t : ℕ) (cs : List Call) → t ≤ taken_by t cs
taken_more t [] = omega arith
taken_more t (c ∷ cs) = omega (arith, taken_more (t + c.received.taken) cs)

pub reported-between : (t : ℕ) (cs : List Call) → Between t (taken_by t cs) (reported_by t cs)
reported-between t [] = tt
reported-between t (c ∷ cs) =
    let u = t + c.received.taken in
    let b = between-later t u (taken_by u cs) (reported_by u cs) (omega arith) (reported-between u cs) in
    at-report (λ (r : Report). Between t (taken_by u cs) (entered r u c.store (reported_by u cs))) c.received.report (λ _. b)
    (λ w _. (omega arith, taken_more u cs, by_event (λ v. Between t (taken_by u cs) (passing v (reported_by u cs) (λ n. []))) (λ v p. rw p b) (λ n. tt) w))
