-- One more call on a connection: what its bytes add to the definition's list, with the switch that is made before it or later. From demand 3, of the calls
-- before it and of the calls with it.
use mathlib.Core.Path.{◌≡◌, refl, sym, ap, subst, ◌∙◌}
use mathlib.Core.List.{List, [], ◌∷◌, ◌++◌, append-nil, append_assoc}
use mathlib.Core.Bool.{true, false, cond, true≢false}
use Prim.Native.Nat.{ℕ, ◌+◌, ◌≤◌}
use native.Mathlib.Omega.{arith}
use lib.ListN.{length, take}
use borrow.Author.Tests.{le-leb}
use Rattle.refusal.specs.declared.Numbers.{Numbers}
use Rattle.refusal.specs.Refusals.{Judged, fine, refused, judged_by}
use Rattle.refusal.proofs.Booleans.{by_test}
use Rattle.refusal.proofs.Judgements.{by_judgement_lem}
use Rattle.banner.specs.declared.Features.{Features}
use Rattle.banner.specs.Banner.{judge_own}
use Rattle.stream.specs.declared.Event.{Event}
use Rattle.stream.specs.declared.Event.TheVariants as event
use Rattle.stream.specs.Stream.{Entry, entry, refused_in}
use Rattle.receiver.specs.Report.{Report}
use Rattle.std.specs.Prelude.{Some, None}
use Rattle.stream.proofs.Events.{by_event}
use Rattle.receiver.proofs.Appended.{passing-same}
use Rattle.stream.specs.Events.{passing}
use Rattle.receiver.specs.Calls.{piece_at, entered, due_report}
use Rattle.connection.specs.declared.State.{State}
use Rattle.connection.specs.Switched.{Switch, behind, trace_with}
use Rattle.connection.specs.Step.{begun}
use Rattle.connection.specs.Calls.{Piece, Try, Call, taking, switching, Chained, taken_by, reported_by, list_of, counted, made_or, switch_by, Each, Repeats, AsSwitched, SwitchedDemand3}
use Rattle.connection.proofs.Splices.{AllBy}
use Rattle.connection.proofs.Prefixes.{up_to, trace-earlier}

-- ---- the first calls of a list

front : (stream : List ℕ) (st : State) (s : List ℕ) (t : ℕ) (xs ys : List Call) → Chained stream st s t (xs ++ ys) → Chained stream st s t xs
front stream st s t [] ys ch = tt
front stream st s t (taking c ∷ xs) ys ch = (ch.0, front stream c.received.state c.store (t + c.received.taken) xs ys ch.1)
front stream st s t (switching c ∷ xs) ys ch = (ch.0, front stream c.switched.state s t xs ys ch.1)

-- ---- a list of calls and one more

abbrev pub and_try : Try → List Call → List Call
and_try c cs = cs ++ (switching c ∷ [])

module _ (c : Try) where
  pub taken_try : (t : ℕ) (cs : List Call) → taken_by t (and_try c cs) ≡ taken_by t cs
  taken_try t [] = refl
  taken_try t (taking d ∷ cs) = taken_try (t + d.received.taken) cs
  taken_try t (switching d ∷ cs) = taken_try t cs

  reported_try : (t : ℕ) (cs : List Call) → reported_by t (and_try c cs) ≡ reported_by t cs
  reported_try t [] = refl
  reported_try t (taking d ∷ cs) = ap (entered d.received.report (t + d.received.taken) d.store) (reported_try (t + d.received.taken) cs)
  reported_try t (switching d ∷ cs) = reported_try t cs

  list_try : (j : Judged) (cs : List Call) → list_of j (and_try c cs) ≡ list_of j cs
  list_try fine cs = reported_try 0 cs
  list_try (refused n) cs = refl

entered-more : (r : Report) (at : ℕ) (s : List ℕ) (xs es ys : List Entry) → xs ≡ es ++ cond (refused_in es) [] ys
    → entered r at s xs ≡ entered r at s es ++ cond (refused_in (entered r at s es)) [] ys
entered-more None at s xs es ys ih = ih
entered-more (Some w) at s xs es ys ih =
    by_event (λ v. entered (Some v) at s xs ≡ entered (Some v) at s es ++ cond (refused_in (entered (Some v) at s es)) [] ys)
    (λ v p. rw (p, ih)) (λ n. refl) w

abbrev pub and_piece : Piece → List Call → List Call
and_piece c cs = cs ++ (taking c ∷ [])

module _ (c : Piece) where
  pub taken-piece : (t : ℕ) (cs : List Call) → taken_by t (and_piece c cs) ≡ taken_by t cs + c.received.taken
  taken-piece t [] = refl
  taken-piece t (taking d ∷ cs) = taken-piece (t + d.received.taken) cs
  taken-piece t (switching d ∷ cs) = taken-piece t cs

  switch-piece : (k : ℕ) (cs : List Call) → switch_by k (and_piece c cs) ≡ switch_by k cs
  switch-piece k [] = refl
  switch-piece k (taking d ∷ cs) = switch-piece (counted k d.received.report) cs
  switch-piece k (switching d ∷ cs) = ap (made_or (judged_by d.switched.judgement) (behind k d.key d.receiving)) (switch-piece k cs)

  -- the last of them
  each_last : (es : List Entry) (stream : List ℕ) (t : ℕ) (cs : List Call) → Each es stream t (and_piece c cs)
      → c.received.report ≡ due_report es (taken_by t cs) (length (piece_at stream (taken_by t cs) c.size))
  each_last es stream t [] e = e.1
  each_last es stream t (taking d ∷ cs) e = each_last es stream (t + d.received.taken) cs e.2
  each_last es stream t (switching d ∷ cs) e = each_last es stream t cs e

  repeats-last : (n : Numbers) (cs : List Call) → Repeats n (and_piece c cs) → c.received.report ≡ Some (event.Refused n)
  repeats-last n [] e = e.1
  repeats-last n (taking d ∷ cs) e = repeats-last n cs e.2
  repeats-last n (switching d ∷ cs) e = repeats-last n cs e

  -- its report is entered, unless a refusal was
  abbrev lastly : ℕ → List Entry
  lastly t = entered c.received.report (t + c.received.taken) c.store []

  reported-piece : (t : ℕ) (cs : List Call) → reported_by t (and_piece c cs) ≡ reported_by t cs ++ cond (refused_in (reported_by t cs)) [] (lastly (taken_by t cs))
  reported-piece t [] = refl
  reported-piece t (switching d ∷ cs) = reported-piece t cs
  reported-piece t (taking d ∷ cs) =
      let u = t + d.received.taken in
      entered-more d.received.report u d.store (reported_by u (and_piece c cs)) (reported_by u cs) (lastly (taken_by u cs)) (reported-piece u cs)

-- ---- behind a refusal

taken_more : (t : ℕ) (cs : List Call) → t ≤ taken_by t cs
taken_more t [] = omega arith
taken_more t (switching c ∷ cs) = taken_more t cs
taken_more t (taking c ∷ cs) = omega (arith, taken_more (t + c.received.taken) cs)

entered_by : (r : Report) (at t : ℕ) (s : List ℕ) (es : List Entry) → at ≤ t → AllBy t es → AllBy t (entered r at s es)
entered_by None at t s es h b = b
entered_by (Some w) at t s es h b = (h, by_event (λ v. AllBy t (passing v es (λ n. []))) (λ v p. rw p b) (λ n. tt) w)

up-to : (t : ℕ) (cs : List Call) → AllBy (taken_by t cs) (reported_by t cs)
up-to t [] = tt
up-to t (switching c ∷ cs) = up-to t cs
up-to t (taking c ∷ cs) = let u = t + c.received.taken in entered_by c.received.report u (taken_by u cs) c.store (reported_by u cs) (taken_more u cs) (up-to u cs)

-- what is due there is the refusal again
record Again (r : Report) : Type 0 where
  refusal : Numbers
  is : r ≡ Some (event.Refused refusal)

due-again : (es : List Entry) (t k : ℕ) → AllBy t es → refused_in es ≡ true → Again (due_report es t k)
unfolding due_report
due-again [] t k u e = absurd (true≢false (sym e))
due-again (e ∷ es) t k u i =
    rw (le-leb e.at t u.0)
    (by_event (λ w. passing w (refused_in es) (λ n. true) ≡ true → Again (passing w (due_report es t k) (λ n. Some (event.Refused n))))
    (λ w p j. rw p (due-again es t k u.1 (rw p at j))) (λ n j. record { refusal = n; is = refl }) e.event i)

-- ---- what one more call adds

pub data Adds (r : Report) (t' : ℕ) (s' : List ℕ) : List Entry → Type 0 where
  silent : r ≡ None → Adds r t' s' []
  again : (n : Numbers) → r ≡ Some (event.Refused n) → Adds r t' s' []
  reports : (e : Event) → r ≡ Some e → Adds r t' s' (entry e t' s' ∷ [])

-- t bytes were taken before it, and sw is the switch that is made
pub record Grows (own : Features) (stream store : List ℕ) (sw : Switch) (t : ℕ) (c : Piece) : Type 0 where
  pub new : List Entry
  pub grows : (trace_with sw own (take (t + c.received.taken) stream) store).entries ≡ (trace_with sw own (take t stream) store).entries ++ new
  pub adds : Adds c.received.report (t + c.received.taken) c.store new

module _ (demand : SwitchedDemand3) (own : Features) (stream store : List ℕ) where
  abbrev E : Switch → ℕ → List Entry
  E sw n = (trace_with sw own (take n stream) store).entries

  abbrev Calls : List Call → Type 0
  Calls cs = Chained stream (begun own) store 0 cs

  pub defined : (cs : List Call) → Calls cs → AsSwitched own stream store cs (switch_by 0 cs)
  unfolding SwitchedDemand3
  defined cs ch = demand own stream store cs ch

  -- ---- with the switch that was made before

  module _ (cs : List Call) (c : Piece) (ch : Calls (and_piece c cs)) where
    abbrev t : ℕ
    t = taken_by 0 cs

    abbrev sw : Switch
    sw = switch_by 0 cs

    D₀ : AsSwitched own stream store cs sw
    D₀ = defined cs (front stream (begun own) store 0 cs (taking c ∷ []) ch)

    D₁ : AsSwitched own stream store (and_piece c cs) sw
    D₁ = subst (AsSwitched own stream store (and_piece c cs)) (switch-piece c 0 cs) (defined (and_piece c cs) ch)

    by_refused : (n : Numbers) → judge_own own.supported own.required ≡ refused n → Grows own stream store sw t c
    by_refused n j =
        let e₀ : [] ≡ E sw t = rw j at D₀.reports in
        let e₁ : [] ≡ E sw (t + c.received.taken) = rw (j, taken-piece c 0 cs) at D₁.reports in
        record { new = []; grows = sym e₁ ∙ e₀ ∙ sym (append-nil (E sw t)); adds = again n (repeats-last c n cs (rw j at D₁.each)) }

    module _ (j : judge_own own.supported own.required ≡ fine) where
      e₀ : reported_by 0 cs ≡ E sw t
      e₀ = rw j at D₀.reports

      e₁ : reported_by 0 cs ++ cond (refused_in (reported_by 0 cs)) [] (lastly c t) ≡ E sw (t + c.received.taken)
      e₁ = sym (reported-piece c 0 cs) ∙ rw (j, taken-piece c 0 cs) at D₁.reports

      by_stopped : refused_in (reported_by 0 cs) ≡ true → Grows own stream store sw t c
      by_stopped stop =
          let all = (trace_with sw own stream store).entries in
          let w : reported_by 0 cs ≡ all = (rw j at (D₀.whole (rw j stop))).0 in
          let l = each_last c all stream 0 cs (rw j at D₁.each) in
          let a = due-again all t (length (piece_at stream t c.size)) (rw w at (up-to 0 cs)) (rw w at stop) in
          record { new = []; grows = sym (rw stop at e₁) ∙ ap (λ (es : List Entry). es ++ []) e₀; adds = again a.refusal (l ∙ a.is) }

      by_live : refused_in (reported_by 0 cs) ≡ false → Grows own stream store sw t c
      by_live live = go c.received.report refl
        where
          go : (r : Report) → c.received.report ≡ r → Grows own stream store sw t c
          go None e = record { new = []; grows = sym (rw (live, e) at e₁) ∙ ap (λ (es : List Entry). es ++ []) e₀; adds = silent e }
          go (Some w) e = record {
            new = entry w (t + c.received.taken) c.store ∷ [];
            grows = sym (rw (live, e, passing-same {A = List Entry} w []) at e₁) ∙ ap (λ (es : List Entry). es ++ (entry w (t + c.received.taken) c.store ∷ [])) e₀;
            adds = reports w e;
          }

    one_more : Grows own stream store (switch_by 0 cs) (taken_by 0 cs) c
    one_more = by_judgement_lem (judge_own own.supported own.required) (λ j. by_test (refused_in (reported_by 0 cs)) (by_stopped j) (by_live j)) by_refused

  -- ---- with the one that later calls make

  -- up to a call the definition's entries do not depend on it
  same_entries : (cs ds : List Call) → Calls (cs ++ ds) → E (switch_by 0 (cs ++ ds)) (taken_by 0 cs) ≡ E (switch_by 0 cs) (taken_by 0 cs)
  same_entries cs [] ch = ap (λ (l : List Call). E (switch_by 0 l) (taken_by 0 cs)) (append-nil cs)
  same_entries cs (taking c ∷ ds) ch =
      let t = taken_by 0 cs in
      let t' = taken_by 0 (and_piece c cs) in
      let q : cs ++ (taking c ∷ ds) ≡ and_piece c cs ++ ds = sym (append_assoc cs (taking c ∷ []) ds) in
      let ih : E (switch_by 0 (and_piece c cs ++ ds)) t' ≡ E (switch_by 0 (and_piece c cs)) t' = same_entries (and_piece c cs) ds (subst Calls q ch) in
      let n : t' ≡ t + c.received.taken = taken-piece c 0 cs in
      let h : t ≤ t' = omega (arith, n) in
      ap (λ (l : List Call). E (switch_by 0 l) t) q
      ∙ trace-earlier (switch_by 0 (and_piece c cs ++ ds)) own stream store t t' h
      ∙ ap (up_to t) ih
      ∙ sym (trace-earlier (switch_by 0 (and_piece c cs)) own stream store t t' h)
      ∙ ap (λ (sw : Switch). E sw t) (switch-piece c 0 cs)
  same_entries cs (switching c ∷ ds) ch =
      let t = taken_by 0 cs in
      let q : cs ++ (switching c ∷ ds) ≡ and_try c cs ++ ds = sym (append_assoc cs (switching c ∷ []) ds) in
      let ch' : Calls (and_try c cs ++ ds) = subst Calls q ch in
      let now = defined cs (front stream (begun own) store 0 cs (switching c ∷ ds) ch) in
      let next = defined (and_try c cs) (front stream (begun own) store 0 (and_try c cs) ds ch') in
      ap (λ (l : List Call). E (switch_by 0 l) t) q
      ∙ ap (E (switch_by 0 (and_try c cs ++ ds))) (sym (taken_try c 0 cs))
      ∙ same_entries (and_try c cs) ds ch'
      ∙ sym next.reports
      ∙ list_try c (judge_own own.supported own.required) cs
      ∙ now.reports

  pub grown : (cs ds : List Call) (c : Piece) → Calls (cs ++ (taking c ∷ ds)) → Grows own stream store (switch_by 0 (cs ++ (taking c ∷ ds))) (taken_by 0 cs) c
  grown cs ds c ch =
      let t = taken_by 0 cs in
      let sw = switch_by 0 (cs ++ (taking c ∷ ds)) in
      let q : cs ++ (taking c ∷ ds) ≡ and_piece c cs ++ ds = sym (append_assoc cs (taking c ∷ []) ds) in
      let ch' : Calls (and_piece c cs ++ ds) = subst Calls q ch in
      let g = one_more cs c (front stream (begun own) store 0 (and_piece c cs) ds ch') in
      let later : E sw (t + c.received.taken) ≡ E (switch_by 0 cs) (t + c.received.taken) =
      ap (λ (l : List Call). E (switch_by 0 l) (t + c.received.taken)) q
      ∙ ap (E (switch_by 0 (and_piece c cs ++ ds))) (sym (taken-piece c 0 cs))
      ∙ same_entries (and_piece c cs) ds ch'
      ∙ ap (E (switch_by 0 (and_piece c cs))) (taken-piece c 0 cs)
      ∙ ap (λ (x : Switch). E x (t + c.received.taken)) (switch-piece c 0 cs) in
      record {
        new = g.new;
        grows = later ∙ g.grows ∙ ap (λ (es : List Entry). es ++ g.new) (sym (same_entries cs (taking c ∷ ds) ch));
        adds = g.adds;
      }
