-- Laws of calls, of tries to switch, and of the record.
use mathlib.Core.Path.{◌≡◌, refl, ◌∙◌}
use mathlib.Core.Bool.{Bool, true, false, ◌&&◌}
use mathlib.Core.List.{List, [], ◌∷◌, ◌++◌, append-nil}
use Prim.Native.Nat.{ℕ, suc, ◌+◌, ◌*◌, ◌≤◌, ◌<◌}
use native.Mathlib.Omega.{arith}
use borrow.Author.Tests.{leb-true, ltb-true}
use lib.Dec.{leb}
use lib.ListN.{length, take, drop, get_or, drop_of_length-le}
use lib.Seq.{take_all}
use Rattle.buffer.specs.Le.{number_at}
use Rattle.refusal.specs.Refusals.{Judged, judged_by}
use Rattle.refusal.proofs.Booleans.{both_left, both_right}
use Rattle.banner.specs.Banner.{judge_own}
use Rattle.connection.specs.declared.State.{State}
use Rattle.connection.specs.declared.Switched.{Switched}
use Rattle.connection.specs.Step.{answer, begun, SwitchedWith}
use Rattle.text.specs.Line.{Piece, codes}
use Rattle.text.specs.Page.{Page}
use Rattle.records.specs.Records.{is_whole, print, prints, counted}
use Rattle.records.proofs.Laws.{sized-good, whole-within}
use Rattle.build_cases.specs.Sealed.{sealed_line}
use Rattle.connection_cases.specs.declared.places.Layout.{Layout}
use Rattle.connection_cases.specs.declared.places.Call.{Call}
use Rattle.connection_cases.specs.declared.Called.{Called}
use Rattle.connection_cases.specs.Lines.{judgement_line}
use Rattle.connection_cases.specs.Places.{count_at, calls_at, calls_of, call_width, stream_at, stream_of, call_at, calls_from, is_try, try_at, call_good, calls_good, in_range, receiver_size}
use Rattle.connection_cases.specs.Calls.{lent_answer, opened_by, empty_done, try_outcome, call_outcome, CallDid, call_lines, own_of, receiver_lines}

-- ---- calls

pub calls-next : (lends : Bool) (s : List ℕ) (n m i : ℕ) → n ≡ suc m → calls_from lends s n i ≡ call_at lends s i ∷ calls_from lends s m (i + call_width lends)
unfolding calls_from
calls-next lends s n m i h = rw h

pub calls-none : (lends : Bool) (s : List ℕ) (n i : ℕ) → n ≡ 0 → calls_from lends s n i ≡ []
unfolding calls_from
calls-none lends s n i e = rw e

module _ (l : Layout) (s : List ℕ) (n m i : ℕ) (h : n ≡ suc m) where
  pub good-next : (j : ℕ) → j ≡ i + call_width l.lends → call_good l (call_at l.lends s i) ≡ true → calls_good l (calls_from l.lends s n i) ≡ calls_good l (calls_from l.lends s m j)
  unfolding calls_good
  good-next j f e = rw (calls-next l.lends s n m i h, e, f)

  pub good_stop : call_good l (call_at l.lends s i) ≡ false → calls_good l (calls_from l.lends s n i) ≡ false
  unfolding calls_good
  good_stop e = rw (calls-next l.lends s n m i h, e)

-- where a call stands
pub place-on : (from width i : ℕ) → from + width * (i + 1) ≡ from + width * i + width
place-on from width i = omega arith

-- a store that is lent whole
pub lent-whole : (st : State) (s piece : List ℕ) (lent : ℕ) → length s ≤ lent → lent_answer st s piece lent ≡ answer st s piece
unfolding lent_answer
lent-whole st s piece lent h = rw (take_all lent s h, drop_of_length-le s {i = lent} h, append-nil)

-- ---- tries to switch

-- the switch's bytes stand in front of the calls
pub try_fits : (l : Layout) (n : ℕ) → is_try l n ≡ true → (4294967040 ≤ n) × (n < 4294967040 + l.switches) × (try_at l n + 48 ≤ count_at l)
try_fits l n e =
    let a = leb-true 4294967040 n (both_left (leb 4294967040 n) _ e) in
    let b = ltb-true n (4294967040 + l.switches) (both_right (leb 4294967040 n) _ e) in
    (a, b, omega arith)

pub try_did : (s : List ℕ) (i : ℕ) (st : State) (o : Switched) {key receiving sending : List ℕ} {spent : ℕ} {before after : Page} {r : Called} {q : Page}
    → key ≡ take 16 (drop i s)
    → receiving ≡ take 12 (drop (i + 16) s)
    → sending ≡ take 12 (drop (i + 28) s)
    → spent ≡ number_at 8 (i + 40) s
    → SwitchedWith st key receiving sending o
    → r.state ≡ opened_by (judged_by o.judgement) o.state spent
    → r.taken ≡ 0
    → q ≡ print (judgement_line (codes "switch") (judged_by o.judgement)) before
    → after ≡ print (sealed_line (empty_done o.sending)) q
    → (store : List ℕ) → CallDid (try_outcome s i st store) before store after r
unfolding try_outcome prints
try_did s i st o ek er es ep w e t eq f store =
    record {
      state = rw (w.judgement, w.state, ek, er, ep) at e;
      taken = t;
      store = refl;
      printed = rw (w.sends, ek, es, eq, w.judgement) at f;
    }

-- ---- calls and tries

prints-append : (xs ys : List (List Piece)) (p : Page) → prints (xs ++ ys) p ≡ prints ys (prints xs p)
unfolding prints
prints-append [] ys p = refl
prints-append (x ∷ xs) ys p = prints-append xs ys (print x p)

-- a call and its lines
calls-step : (l : Layout) (s : List ℕ) (xs : List Call) (st : State) (x : Call) (rest store : List ℕ) {before : Page} {store' : List ℕ} {after : Page} {r : Called}
    → CallDid (call_outcome l s st x rest store) before store' after r
    → prints (call_lines l s xs (drop r.taken rest) r.state store') after ≡ prints (call_lines l s (x ∷ xs) rest st store) before
unfolding call_lines
calls-step l s xs st x rest store d =
    rw (d.printed, d.store, d.state, d.taken, prints-append (call_outcome l s st x rest store).lines)

pub calls-on : (l : Layout) (s : List ℕ) (n m i j : ℕ) (st : State) (x : Call) (rest store : List ℕ) {rest' : List ℕ} {before : Page} {store' : List ℕ} {after : Page} {r : Called}
    → n ≡ suc m
    → j ≡ i + call_width l.lends
    → x ≡ call_at l.lends s i
    → CallDid (call_outcome l s st x rest store) before store' after r
    → rest' ≡ drop r.taken rest
    → prints (call_lines l s (calls_from l.lends s m j) rest' r.state store') after ≡ prints (call_lines l s (calls_from l.lends s n i) rest st store) before
calls-on l s n m i j st x rest store h f ex d e =
    rw (f, e, calls-next l.lends s n m i h, ← ex) (calls-step l s (calls_from l.lends s m (i + call_width l.lends)) st x rest store d)

-- ---- the record

module _ (room : ℕ) (l : Layout) (s : List ℕ) (e : is_whole (receiver_size room l s) s ≡ true) where
  in-range : in_range room l s ≡ true
  unfolding receiver_size
  in-range = sized-good (in_range room l s) (stream_at l s + 4 + stream_of l s) s e

  -- the store's length
  pub receiver-store : number_at 4 17 s ≤ room
  receiver-store =
      let h = both_right (leb l.switches 8 && leb (calls_of l s) 4096) _ in-range in
      leb-true (number_at 4 17 s) room (both_left (leb (number_at 4 17 s) room) _ (both_left (leb (number_at 4 17 s) room && leb (stream_of l s) 131072) _ h))

  -- the switches are there
  pub switches-there : count_at l ≤ length s
  unfolding receiver_size
  switches-there =
      let h = whole-within (receiver_size room l s) s e in
      let t : receiver_size room l s ≡ stream_at l s + 4 + stream_of l s = rw in-range in
      omega arith

-- the start and the calls of a record
pub receiver-printed : (l : Layout) (s : List ℕ) (p : Page) {n from : ℕ} {stream : List ℕ} {st : State} {store : List ℕ} {v : Judged} {q r : Page}
    → n ≡ calls_of l s
    → from ≡ calls_at l
    → stream ≡ take (stream_of l s) (drop (stream_at l s + 4) s)
    → st ≡ begun (own_of s)
    → store ≡ counted (get_or s 21 0) (number_at 4 17 s)
    → v ≡ judge_own (number_at 8 1 s) (number_at 8 9 s)
    → q ≡ print (judgement_line (codes "start") v) p
    → r ≡ prints (call_lines l s (calls_from l.lends s n from) stream st store) q
    → r ≡ prints (receiver_lines l s) p
unfolding receiver_lines prints
receiver-printed l s p en ef es est eb ev eq er = er ∙ rw (eq, en, ef, es, est, eb, ev)
