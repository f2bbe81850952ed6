-- Laws of the messages that a session holds.
use mathlib.Core.Logic.{◌≢◌}
use mathlib.Core.Path.{◌≡◌, refl, sym, ap, ◌∙◌}
use mathlib.Core.Bool.{true}
use mathlib.Core.List.{List, [], ◌∷◌, ◌++◌}
use Prim.Native.Nat.{ℕ, zero, suc, ◌+◌, ◌-◌, ◌≤◌, ◌<◌, ◌%◌}
use native.Mathlib.Omega.{arith}
use lib.ListN.{length, set}
use lib.Seq.{get_or-set_same, get_or-set_other}
use lib.Dec.{leb, ltb}
use borrow.Author.Tests.{lt-ltb, le-ltb, ltb-true, leb-true, le-leb}
use Rattle.refusal.specs.declared.Refusal.TheVariants as why
use Rattle.refusal.specs.Refusals.{fine, unless}
use Rattle.refusal.proofs.Judgements.{passed, all-fine}
use Rattle.refusal.proofs.Booleans.{by_less, each_true}
use Rattle.session.specs.declared.Session.{Session}
use Rattle.session.specs.declared.Message.{Message}
use Rattle.std.specs.Prelude.{Some, None}
use Rattle.session.specs.Laws.{above}
use Rattle.session.specs.Calls.{places, final_number, message, message_at, held_from, held_of, agrees, judge_state, judge_accept, found}

-- ---- the messages of the k numbers above n

pub held-length : (hs : List ℕ) (n k : ℕ) → length (held_from hs n k) ≡ k
unfolding held_from
held-length hs n zero = refl
held-length hs n (suc k) = ap suc (held-length hs (n + 1) k)

held_snoc : (hs : List ℕ) (n k : ℕ) → held_from hs n (suc k) ≡ held_from hs n k ++ (message_at hs (n + suc k) ∷ [])
unfolding held_from
held_snoc hs n zero = refl
held_snoc hs n (suc k) =
    let e : n + 1 + suc k ≡ n + suc (suc k) = omega arith in
    ap (λ (l : List Message). message_at hs (n + 1) ∷ l) (rw e at (held_snoc hs (n + 1) k))

-- a store at the place of a later number leaves them, where it is none of theirs
held-store : (hs : List ℕ) (n k m h : ℕ) → n + k < m → m ≤ n + places → held_from (set hs (m % places) h) n k ≡ held_from hs n k
unfolding held_from
held-store hs n zero m h low high = refl
held-store hs n (suc k) m h low high =
    let apart : (n + 1) % places ≢ m % places = omega arith in
    rw (get_or-set_other hs (m % places) ((n + 1) % places) h 0 apart, held-store hs (n + 1) k m h (omega arith) (omega arith))

-- one more message behind them
pub held_more : (hs : List ℕ) (n k h : ℕ) → length hs ≡ places → k < places → held_from (set hs ((n + suc k) % places) h) n (suc k) ≡ held_from hs n k ++ (message (n + suc k) h ∷ [])
held_more hs n k h sized room =
    let inside : (n + suc k) % places < length hs = omega arith in
    held_snoc (set hs ((n + suc k) % places) h) n k
    ∙ rw (held-store hs n k (n + suc k) h (omega arith) (omega arith), get_or-set_same hs ((n + suc k) % places) h 0 inside)

-- those above a number
pub all_above : (hs : List ℕ) (n k m : ℕ) → m ≤ n → above m (held_from hs n k) ≡ held_from hs n k
unfolding held_from above
all_above hs n zero m h = refl
all_above hs n (suc k) m h =
    let t : ltb m (n + 1) ≡ true = lt-ltb m (n + 1) (omega arith) in
    rw (t, all_above hs (n + 1) k m (omega arith))

pub some-above : (hs : List ℕ) (n k m : ℕ) → n ≤ m → m ≤ n + k → above m (held_from hs n k) ≡ held_from hs m (n + k - m)
unfolding held_from above
some-above hs n zero m low high =
    let z : n + 0 - m ≡ 0 = omega arith in
    rw z
some-above hs n (suc k) m low high =
    by_less m (n + 1)
    (λ l.
    let e : n ≡ m = omega arith in
    let z : m + suc k - m ≡ suc k = omega arith in
    rw (lt-ltb m (n + 1) l, all_above hs (n + 1) k m (omega arith), e, z))
    (λ g.
    let z : n + suc k - m ≡ n + 1 + k - m = omega arith in
    rw (le-ltb m (n + 1) g, z) (some-above hs (n + 1) k m g (omega arith)))

-- the message at a place
pub found-held : (hs : List ℕ) (n k i : ℕ) → i < k → found (held_from hs n k) i ≡ Some (message_at hs (n + 1 + i))
unfolding held_from found
found-held hs n zero i h = absurd (omega arith)
found-held hs n (suc k) zero h =
    let e : n + 1 + 0 ≡ n + 1 = omega arith in
    rw e
found-held hs n (suc k) (suc i) h =
    let e : n + 1 + 1 + i ≡ n + 1 + suc i = omega arith in
    rw e at (found-held hs (n + 1) k i (omega arith))

found-beyond : (hs : List ℕ) (n k i : ℕ) → k ≤ i → found (held_from hs n k) i ≡ None
unfolding held_from found
found-beyond hs n zero i h = refl
found-beyond hs n (suc k) zero h = absurd (omega arith)
found-beyond hs n (suc k) (suc i) h = found-beyond hs (n + 1) k i (omega arith)

-- ---- sessions

pub held_size : (s : Session) → length (held_of s) ≡ s.last - s.released
held_size s = held-length s.handles s.released (s.last - s.released)

-- the message at a place, by the count k of those held
pub at_place : (s : Session) (i k : ℕ) → k ≡ s.last - s.released → i < k → Some (message_at s.handles (s.released + 1 + i)) ≡ found (held_of s) i
at_place s i k e h = sym (found-held s.handles s.released (s.last - s.released) i (rw e at h))

pub beyond_place : (s : Session) (i k : ℕ) → k ≡ s.last - s.released → k ≤ i → None ≡ found (held_of s) i
beyond_place s i k e h = sym (found-beyond s.handles s.released (s.last - s.released) i (rw e at h))

-- what the fields of a session that agrees with itself say
pub record Agreeing (s : Session) : Type 0 where
  pub order : s.released ≤ s.last
  pub room : s.last - s.released ≤ places

pub agreeing : (s : Session) → agrees s ≡ true → Agreeing s
unfolding agrees
agreeing s e =
    let b = each_true (leb s.released s.last) (leb (s.last - s.released) places) e in
    record { order = leb-true s.released s.last b.0; room = leb-true (s.last - s.released) places b.1 }

pub agrees_by : (s : Session) → s.released ≤ s.last → s.last - s.released ≤ places → agrees s ≡ true
unfolding agrees
agrees_by s order room = rw (le-leb s.released s.last order, le-leb (s.last - s.released) places room)

-- where a session is not turned away
pub fine_accept : (s : Session) → judge_accept s ≡ fine → s.last < final_number
unfolding judge_accept
fine_accept s e =
    ltb-true s.last final_number
    (passed (ltb s.last final_number) why.NumbersSpent (all-fine (judge_state s ∷ unless (ltb s.last final_number) why.NumbersSpent ∷ unless (ltb (length (held_of s)) places) why.TableFull ∷ []) e).1.0)
