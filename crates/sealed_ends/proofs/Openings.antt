-- The parts that calls open have nonces one behind the other.
use mathlib.Core.Path.{◌≡◌, refl, sym, ap, ap₂, subst, ◌∙◌}
use mathlib.Core.Bool.{Bool, true, false}
use mathlib.Core.List.{List, [], ◌∷◌, ◌++◌, append_assoc, append-nil}
use Prim.Native.Nat.{ℕ, suc, ◌+◌, ◌-◌, ◌≤◌}
use native.Mathlib.Nat.{add-zero}
use native.Mathlib.Numerals.{add-one}
use native.Mathlib.Omega.{arith}
use borrow.Author.Tests.{ltb-true}
use lib.Dec.{ltb}
use lib.ListN.{length, take, drop}
use Rattle.refusal.specs.declared.Numbers.{Numbers}
use Rattle.refusal.specs.declared.Refusal.TheVariants as refusal
use Rattle.refusal.specs.Refusals.{Judged, fine, refused, numbers_of, or_else}
use Rattle.refusal.proofs.Booleans.{by_test, at_cond, wrong}
use Rattle.refusal.proofs.Judgements.{passed}
use Rattle.preamble.specs.Judge.{header_of}
use Rattle.body.specs.End.{Ended, whole, dropped, refused_for}
use Rattle.receiver.specs.Report.{Report}
use Rattle.std.specs.Prelude.{Some, None}
use Rattle.gcm.specs.Gcm.{Opened, plain, fail, opened}
use Rattle.secure.specs.Layout.{all_nonces, nonce_after, inline_length, no_second_part, no_last_part}
use Rattle.secure.specs.Reading.{judge_nonce, judge_padding, judge_first, last_ended, zeroed}
use Rattle.sealed_receiver.specs.declared.Stage.{Stage}
use Rattle.sealed_receiver.specs.declared.Stage.TheVariants as stage
use Rattle.sealed_receiver.specs.declared.Receiving.{Receiving}
use Rattle.sealed_receiver.specs.declared.Known.{Known}
use Rattle.sealed_receiver.specs.declared.State as sealed
use Rattle.sealed_receiver.specs.State.{is_refused, opened_of, fresh_receiving, opened_more}
use Rattle.sealed_receiver.specs.State as sealed-states
use Rattle.sealed_receiver.specs.Step as step
use Rattle.sealed_receiver.specs.Step.{at, with_opened, with_header, switched, Stepped, refuse, unless_refused, judge_opened, text_of, judge_part, part_text, end_frame, begin_last, begin_second_part, after_first_part, after_second_part, after_last_part, finish, absorbed, stored, reached, size, on_byte, needed_by, feed}
use Rattle.sealed_receiver.proofs.Openings.{opened-next}
use Rattle.sealed_builder.specs.Nonces.{AllDifferent}
use Rattle.secure.proofs.Runs.{run, length_run, run_on, after-add}
use Rattle.sealed_builder.proofs.NoncesDiffer.{all-different}
use Rattle.connection.specs.declared.State.{State}
use Rattle.connection.specs.declared.Received.{Received}
use Rattle.connection.specs.declared.Mode.TheVariants as mode
use Rattle.connection.specs.Step.{agrees, Answer, answer, by_secure, Answered, judge_switch, switched_state, SwitchedWith}
use Rattle.connection.specs.Calls.{Try}
use Rattle.connection.specs.Every.{Lent, AnyCall, taking, switching, Handed}
use Rattle.sealed_ends.specs.Openings.{Opening, part_bytes, opening_by, opening_at, openings_of, store_left_by, behind_by, finish_by, reached_by, results, byte_by, unless_reported, openings_in, openings_on, openings_by, openings, state_after, opening_nonces, Under, Made, NoNonceOpenedTwice}

-- ---- what a step leaves: what opens the next part, or a refusal

data Keeps (r : Receiving) (x : Stepped) : Type 0 where
  kept : is_refused x.state.position.stage ≡ false → x.state.known.receiving ≡ r → Keeps r x
  refusing : (n : Numbers) (t : List ℕ) → x ≡ refuse n t → Keeps r x

keeps-unless : {r : Receiving} (j : Judged) (s : List ℕ) (x : Stepped) → Keeps r x → Keeps r (unless_refused j s x)
keeps-unless fine s x k = k
keeps-unless (refused n) s x k = refusing n s refl

keeps-end : (x : Ended) (v : Known) (p s : List ℕ) → Keeps v.receiving (end_frame x v p s)
keeps-end whole v p s = kept refl refl
keeps-end dropped v p s = kept refl refl
keeps-end (refused_for n) v p s = refusing n (zeroed v.header s) refl

keeps-last : (v : Known) (s : List ℕ) → Keeps v.receiving (begin_last v s)
keeps-last v s = at_cond (Keeps v.receiving) (no_last_part v.header) (keeps-end whole v (take v.header.s1.len s) s) (kept refl refl)

keeps-rest : (v : Known) (s : List ℕ) → Keeps v.receiving (begin_second_part v s)
keeps-rest v s = at_cond (Keeps v.receiving) (no_second_part v.header) (keeps-last v s) (kept refl refl)

keeps-behind : (k : Stage) (v : Known) (text s : List ℕ) → Keeps v.receiving (behind_by k v text s)
unfolding after_first_part after_second_part after_last_part
keeps-behind stage.First v text s = keeps-unless (judge_first text (length s)) s _ (keeps-rest (with_header v (header_of text)) _)
keeps-behind stage.Second v text s = keeps-unless (judge_padding (drop (v.header.s1.len - inline_length) text)) (zeroed v.header s) _ (keeps-last v _)
keeps-behind stage.Last v text s = keeps-end (last_ended v.header text) v _ s
keeps-behind stage.Refused v text s = refusing (numbers_of refusal.NoncesSpent) s refl

-- ---- openings one behind the other, from what r opens on

pub record Ran (r : Receiving) (os : List Opening) : Type 0 where
  pub count : ℕ
  pub is : opening_nonces os ≡ run count r.nonce
  pub under : Under r.key os
  pub fits : opened_of r + count ≤ all_nonces

-- what opens the next part is then so many further on
record On (r : Receiving) (k : ℕ) (y : sealed.State) : Type 0 where
  live : is_refused y.position.stage ≡ false
  key : y.known.receiving.key ≡ r.key
  nonce : y.known.receiving.nonce ≡ nonce_after k r.nonce
  opened : opened_of y.known.receiving ≡ opened_of r + k

nonces-two : (os ps : List Opening) → opening_nonces (os ++ ps) ≡ opening_nonces os ++ opening_nonces ps
nonces-two [] ps = refl
nonces-two (o ∷ os) ps = ap (λ (l : List (List ℕ)). o.nonce ∷ l) (nonces-two os ps)

under-two : (key : List ℕ) (os ps : List Opening) → Under key os → Under key ps → Under key (os ++ ps)
under-two key [] ps u v = v
under-two key (o ∷ os) ps u v = (u.0, under-two key os ps u.1 v)

ran_none : (r : Receiving) → opened_of r ≤ all_nonces → Ran r []
ran_none r l = record { count = 0; is = refl; under = tt; fits = omega arith }

ran_two : (r : Receiving) (os ps : List Opening) (y : sealed.State) (a : Ran r os) → On r a.count y → Ran y.known.receiving ps → Ran r (os ++ ps)
ran_two r os ps y a o b = record {
  count = a.count + b.count;
  is = nonces-two os ps ∙ ap₂ ◌++◌ a.is (b.is ∙ ap (run b.count) o.nonce) ∙ run_on a.count b.count r.nonce;
  under = under-two r.key os ps a.under (subst (λ (k : List ℕ). Under k ps) o.key b.under);
  fits = omega (arith, b.fits, o.opened);
}

on-two : (r : Receiving) (j k : ℕ) (x y : sealed.State) → On r j x → On x.known.receiving k y → On r (j + k) y
on-two r j k x y a b = record {
  live = b.live;
  key = b.key ∙ a.key;
  nonce = b.nonce ∙ ap (nonce_after k) a.nonce ∙ after-add j k r.nonce;
  opened = b.opened ∙ omega (arith, a.opened);
}

on_none : (y : sealed.State) → is_refused y.position.stage ≡ false → On y.known.receiving 0 y
unfolding nonce_after
on_none y e = record { live = e; key = refl; nonce = refl; opened = sym (add-zero (opened_of y.known.receiving)) }

-- ---- one byte

data Byte (r : Receiving) (os : List Opening) (x : Stepped) : Type 0 where
  stays-live : (a : Ran r os) → On r a.count x.state → Byte r os x
  stops : Ran r os → (n : Numbers) (t : List ℕ) → x ≡ refuse n t → Byte r os x

one-opening : (r : Receiving) (bytes : List ℕ) → judge_nonce (opened_of r) ≡ fine → Ran r (opening_by fine r bytes)
one-opening r bytes e =
    let l = ltb-true (opened_of r) all_nonces (passed (ltb (opened_of r) all_nonces) refusal.NoncesSpent e) in
    record { count = 1; is = refl; under = (refl, tt); fits = omega arith }

module _ (r : Receiving) (bytes left : List ℕ) (next : List ℕ → Stepped) (keeps : (text : List ℕ) → Keeps (opened_more r) (next text)) (l : opened_of r ≤ all_nonces) where
  by_kept : judge_nonce (opened_of r) ≡ fine → judge_part r bytes ≡ fine → (x : Stepped) → Keeps (opened_more r) x → Byte r (opening_by fine r bytes) x
  unfolding opened_more nonce_after one-opening
  by_kept e j x (kept live q) =
      stays-live (one-opening r bytes e) (record {
        live = live;
        key = ap (λ (y : Receiving). y.key) q;
        nonce = ap (λ (y : Receiving). y.nonce) q;
        opened = ap opened_of q ∙ opened-next r bytes j ∙ sym (add-one (opened_of r));
      })
  by_kept e j x (refusing n t q) = stops (one-opening r bytes e) n t q

  part_byte : Byte r (opening_by (judge_nonce (opened_of r)) r bytes) (unless_refused (judge_part r bytes) left (next (part_text r bytes)))
  unfolding judge_part part_text
  part_byte = go (judge_nonce (opened_of r)) refl (opened r.key r.nonce bytes) refl
    where
      go : (j : Judged) → judge_nonce (opened_of r) ≡ j → (o : Opened) → opened r.key r.nonce bytes ≡ o
          → Byte r (opening_by j r bytes) (unless_refused (or_else j (judge_opened o)) left (next (text_of o)))
      go (refused n) e o q = stops (ran_none r l) n left refl
      go fine e fail q = stops (one-opening r bytes e) (numbers_of refusal.AuthTag) left refl
      go fine e (plain text) q = by_kept e (ap₂ (λ (j : Judged) (o : Opened). or_else j (judge_opened o)) e q) (next text) (keeps text)

finish-is : (k : Stage) (b : List ℕ) (v : Known) (s : List ℕ) → is_refused k ≡ false
    → finish k b v s
    ≡ unless_refused (judge_part v.receiving (part_bytes k b v.header s)) (store_left_by k v.header s)
    (behind_by k (with_opened v) (part_text v.receiving (part_bytes k b v.header s)) s)
unfolding finish
finish-is stage.First b v s e = refl
finish-is stage.Second b v s e = refl
finish-is stage.Last b v s e = refl
finish-is stage.Refused b v s e = wrong (sym e)

reached_byte : (c : Bool) (y : sealed.State) (s : List ℕ) → is_refused y.position.stage ≡ false → opened_of y.known.receiving ≤ all_nonces
    → Byte y.known.receiving (opening_at c y s) (reached y s c)
unfolding ran_none
reached_byte true y s e l = stays-live (ran_none y.known.receiving l) (on_none y e)
reached_byte false y s e l =
    rw (finish-is y.position.stage y.position.block y.known s e)
    (part_byte y.known.receiving (part_bytes y.position.stage y.position.block y.known.header s) (store_left_by y.position.stage y.known.header s) _
    (λ text. keeps-behind y.position.stage (with_opened y.known) text s) l)

byte_opens : (st : sealed.State) (s : List ℕ) (b : ℕ) → is_refused st.position.stage ≡ false → opened_of st.known.receiving ≤ all_nonces
    → Byte st.known.receiving (openings_of st s b) (on_byte st s b)
unfolding openings_of on_byte
byte_opens st s b e l = reached_byte (ltb (st.position.got + 1) (size st)) (absorbed st (b ∷ [])) (stored st s (b ∷ [])) e l

-- what it comes to by the openings alone
part-only : (r : Receiving) (bytes left : List ℕ) (next : List ℕ → Stepped) (by : List Opened → Stepped)
    → by [] ≡ refuse (numbers_of refusal.NoncesSpent) left → ((o : Opened) → by (o ∷ []) ≡ unless_refused (judge_opened o) left (next (text_of o)))
    → unless_refused (judge_part r bytes) left (next (part_text r bytes)) ≡ by (results (opening_by (judge_nonce (opened_of r)) r bytes))
unfolding judge_part part_text
part-only r bytes left next by none one =
    by_test (ltb (opened_of r) all_nonces) (λ c. rw c (sym (one (opened r.key r.nonce bytes)))) (λ c. rw c (sym none))

reached-only : (c : Bool) (y : sealed.State) (s : List ℕ) → is_refused y.position.stage ≡ false → reached y s c ≡ reached_by (results (opening_at c y s)) c y s
reached-only true y s e = refl
reached-only false y s e =
    let r = y.known.receiving in
    let h = y.known.header in
    let k = y.position.stage in
    let bytes : List ℕ = part_bytes k y.position.block h s in
    finish-is k y.position.block y.known s e
    ∙ part-only r bytes (store_left_by k h s) (λ text. behind_by k (with_opened y.known) text s) (λ os. finish_by os k y.known s) refl (λ o. refl)

only : (st : sealed.State) (s : List ℕ) (b : ℕ) → is_refused st.position.stage ≡ false → on_byte st s b ≡ byte_by (results (openings_of st s b)) st s b
unfolding openings_of on_byte byte_by
only st s b e = reached-only (ltb (st.position.got + 1) (size st)) (absorbed st (b ∷ [])) (stored st s (b ∷ [])) e

-- ---- a piece

data AfterOpenings (r : Receiving) (os : List Opening) (y : sealed.State) : Type 0 where
  further : (a : Ran r os) → On r a.count y → AfterOpenings r os y
  over : Ran r os → is_refused y.position.stage ≡ true → AfterOpenings r os y

after_none : (y : sealed.State) → is_refused y.position.stage ≡ false → opened_of y.known.receiving ≤ all_nonces → AfterOpenings y.known.receiving [] y
unfolding ran_none
after_none y e l = further (ran_none y.known.receiving l) (on_none y e)

-- behind openings that left x
after_more : (r : Receiving) (os ps : List Opening) (x y : sealed.State) (a : Ran r os) → On r a.count x → AfterOpenings x.known.receiving ps y → AfterOpenings r (os ++ ps) y
unfolding ran_two
after_more r os ps x y a o (further b u) = further (ran_two r os ps x a o b) (on-two r a.count b.count x y o u)
after_more r os ps x y a o (over b z) = over (ran_two r os ps x a o b) z

fewer : (r : Receiving) (os : List Opening) (x : sealed.State) (a : Ran r os) → On r a.count x → opened_of x.known.receiving ≤ all_nonces
fewer r os x a o = omega (arith, a.fits, o.opened)

module _ (r : Receiving) (os : List Opening) (later : sealed.State → List ℕ → List Opening) (rest : sealed.State → List ℕ → step.Answer)
    (ih : (y : sealed.State) (s : List ℕ) → is_refused y.position.stage ≡ false → opened_of y.known.receiving ≤ all_nonces → AfterOpenings y.known.receiving (later y s) (rest y s).received.state) where
  by_report : (p : Report) (x : Stepped) (a : Ran r os) → On r a.count x.state
      → AfterOpenings r (os ++ unless_reported p (later x.state x.store)) (step.onward p 1 x (rest x.state x.store)).received.state
  by_report None x a o =
      after_more r os (later x.state x.store) x.state (rest x.state x.store).received.state a o (ih x.state x.store o.live (fewer r os x.state a o))
  by_report (Some e) x a o = rw (append-nil os) (further a o)

  by_byte : (x : Stepped) → Byte r os x
      → AfterOpenings r (os ++ unless_reported x.report (later x.state x.store)) (step.onward x.report 1 x (rest x.state x.store)).received.state
  by_byte x (stays-live a o) = by_report x.report x a o
  by_byte x (stops a n t q) = rw (q, append-nil os) (over a refl)

after-feed : (st : sealed.State) (s bs : List ℕ) → is_refused st.position.stage ≡ false → opened_of st.known.receiving ≤ all_nonces
    → AfterOpenings st.known.receiving (openings_in st s bs) (feed st s bs).received.state
unfolding feed openings_in
after-feed st s [] e l = after_none st e l
after-feed st s (b ∷ bs) e l =
    by_byte st.known.receiving (openings_of st s b) (λ y t. openings_in y t bs) (λ y t. feed y t bs) (λ y t. after-feed y t bs) (on_byte st s b) (byte_opens st s b e l)

-- ---- a call

module _ (st : sealed.State) (s piece : List ℕ) where
  after_call : is_refused st.position.stage ≡ false → opened_of st.known.receiving ≤ all_nonces
      → AfterOpenings st.known.receiving (openings_on st s piece) (step.answer st s piece).received.state
  unfolding step.answer
  after_call e l =
      by_test (sealed-states.agrees st)
      (λ a. by_test (ltb (length s) (needed_by st)) (λ t. rw (a, t, e) (over (ran_none st.known.receiving l) refl)) (λ t. rw (a, t, e) (after-feed st s piece e l)))
      (λ a. rw a (after_none st e l))

  call-refused : is_refused st.position.stage ≡ true → (openings_on st s piece ≡ []) × (is_refused (step.answer st s piece).received.state.position.stage ≡ true)
  unfolding step.answer
  call-refused e = by_test (sealed-states.agrees st) (λ a. rw (a, e) (refl, e)) (λ a. rw a (refl, e))

-- ---- a connection behind its switch

record Secured (st : State) : Type 0 where
  mode : st.mode ≡ mode.Secure
  ready : st.ready ≡ false

secure_answer_lem : (st : State) (s piece : List ℕ) → Secured st
    → (answer st s piece ≡ by_secure st (step.answer st.sealed s piece)) × (openings_by st s piece ≡ openings_on st.sealed s piece)
unfolding answer openings_by
secure_answer_lem st s piece z = (rw (z.ready, z.mode), rw (z.ready, z.mode))

-- a try to switch is refused and leaves everything as it is
switch-refused : (st : State) → st.ready ≡ false → (n : Numbers) × (judge_switch st ≡ refused n)
unfolding judge_switch
switch-refused st e = by_test (agrees st) (λ a. (numbers_of refusal.SwitchRefused, rw (a, e))) (λ a. (numbers_of refusal.StateContradicts, rw a))

still : (st : State) (c : Try) → st.ready ≡ false → SwitchedWith st c.key c.receiving c.sending c.switched → c.switched.state ≡ st
still st c e w = (let d = switch-refused st e in w.state ∙ ap (λ (j : Judged). switched_state j st c.key c.receiving) d.1)

-- the state that a call hands back
module _ (st : State) (c : Lent) (z : Secured st) (a : Answered st c.store c.piece c.received c.after) where
  handed-back : c.received.state ≡ (by_secure st (step.answer st.sealed c.store c.piece)).received.state
  handed-back = ap (λ (y : Received). y.state) (a.received ∙ ap (λ (y : Answer). y.received) (secure_answer_lem st c.store c.piece z).0)

  still-secured : Secured c.received.state
  still-secured = record { mode = ap (λ (y : State). y.mode) handed-back ∙ z.mode; ready = ap (λ (y : State). y.ready) handed-back ∙ z.ready }

  after-secured : is_refused st.sealed.position.stage ≡ false → opened_of st.sealed.known.receiving ≤ all_nonces
      → AfterOpenings st.sealed.known.receiving (openings_by st c.store c.piece) c.received.state.sealed
  after-secured e l = rw (handed-back, (secure_answer_lem st c.store c.piece z).1) (after_call st.sealed c.store c.piece e l)

  secured-refused : is_refused st.sealed.position.stage ≡ true → (openings_by st c.store c.piece ≡ []) × (is_refused c.received.state.sealed.position.stage ≡ true)
  secured-refused e =
      let g = call-refused st.sealed c.store c.piece e in
      ((secure_answer_lem st c.store c.piece z).1 ∙ g.0, ap (λ (y : State). is_refused y.sealed.position.stage) handed-back ∙ g.1)

-- ---- lists of calls

by_after : (r : Receiving) (os ps : List Opening) (x y : sealed.State)
    → (is_refused x.position.stage ≡ false → opened_of x.known.receiving ≤ all_nonces → AfterOpenings x.known.receiving ps y)
    → (is_refused x.position.stage ≡ true → (ps ≡ []) × (is_refused y.position.stage ≡ true)) → AfterOpenings r os x → AfterOpenings r (os ++ ps) y
by_after r os ps x y live has_refused (further a o) = after_more r os ps x y a o (live o.live (fewer r os x a o))
by_after r os ps x y live has_refused (over a e) = (let g = has_refused e in rw (g.0, append-nil os) (over a g.1))

after_list : (r : Receiving) (os : List Opening) (st : State) (cs : List AnyCall) → Secured st → Handed st cs → AfterOpenings r os st.sealed
    → AfterOpenings r (os ++ openings st cs) (state_after st cs).sealed
after_list r os st [] z ch a = rw (append-nil os) a
after_list r os st (taking c ∷ cs) z ch a =
    let ps : List Opening = openings_by st c.store c.piece in
    rw (← (append_assoc os ps (openings c.received.state cs)))
    (after_list r (os ++ ps) c.received.state cs (still-secured st c z ch.0) ch.1
    (by_after r os ps st.sealed c.received.state.sealed (after-secured st c z ch.0) (secured-refused st c z ch.0) a))
after_list r os st (switching c ∷ cs) z ch a = (let q = still st c z.ready ch.0 in rw q (after_list r os st cs z (rw q at ch.1) a))

-- from the switch on
after-switch : (st : State) (c : Try) (cs : List AnyCall) → Made st c → Handed c.switched.state cs
    → AfterOpenings (fresh_receiving c.key c.receiving) (openings c.switched.state cs) (state_after c.switched.state cs).sealed
unfolding switched fresh_receiving
after-switch st c cs m ch =
    let S : State = switched_state fine st c.key c.receiving in
    let w = m.switched in
    let q : c.switched.state ≡ S = w.state ∙ ap (λ (j : Judged). switched_state j st c.key c.receiving) (sym w.judgement ∙ m.judgement) in
    let z : Secured S = record { mode = refl; ready = refl } in
    rw q (after_list (fresh_receiving c.key c.receiving) [] S cs z (rw q at ch) (after_none S.sealed refl (omega arith)))

ran_of : {r : Receiving} {os : List Opening} {y : sealed.State} → AfterOpenings r os y → Ran r os
ran_of (further a o) = a
ran_of (over a e) = a

pub from-switch : (st : State) (c : Try) (cs : List AnyCall) → Made st c → Handed c.switched.state cs → Ran (fresh_receiving c.key c.receiving) (openings c.switched.state cs)
from-switch st c cs m ch = ran_of (after-switch st c cs m ch)

-- as many as the state counts
length-nonces : (os : List Opening) → length (opening_nonces os) ≡ length os
length-nonces [] = refl
length-nonces (o ∷ os) = ap (λ (n : ℕ). suc n) (length-nonces os)

count_of : {r : Receiving} {os : List Opening} {y : sealed.State} → AfterOpenings r os y → is_refused y.position.stage ≡ false → opened_of y.known.receiving ≡ opened_of r + length os
count_of {r} {os} (further a o) e =
    o.opened ∙ ap (λ (n : ℕ). opened_of r + n) (sym (length_run a.count r.nonce) ∙ sym (ap length a.is) ∙ length-nonces os)
count_of (over a g) e = wrong (sym e ∙ g)

counted : (st : State) (c : Try) (cs : List AnyCall) → Made st c → Handed c.switched.state cs
    → is_refused (state_after c.switched.state cs).sealed.position.stage ≡ false
    → opened_of (state_after c.switched.state cs).sealed.known.receiving ≡ length (openings c.switched.state cs)
unfolding fresh_receiving
counted st c cs m ch e = count_of (after-switch st c cs m ch) e ∙ omega arith

different : (st : State) (c : Try) (cs : List AnyCall) → Made st c → Handed c.switched.state cs → AllDifferent (opening_nonces (openings c.switched.state cs))
unfolding fresh_receiving
different st c cs m ch = (let a = from-switch st c cs m ch in rw a.is (all-different a.count c.receiving (omega (arith, a.fits))))

one_key_lem : (st : State) (c : Try) (cs : List AnyCall) → Made st c → Handed c.switched.state cs → Under c.key (openings c.switched.state cs)
unfolding fresh_receiving
one_key_lem st c cs m ch = (from-switch st c cs m ch).under

pub no_nonce_opened_twice : NoNonceOpenedTwice
no_nonce_opened_twice = record { different = different; one_key = one_key_lem; counted = counted; only = only }
