-- A machine that takes bytes, of any state and any step: the step run over a list of bytes, and what a piece takes of it.
use Prim.Native.Nat.{ℕ, suc, ◌+◌, ◌≤◌, ◌<◌, zero-le, suc-le-suc}
use mathlib.Core.List.{List, [], ◌∷◌, ◌++◌}
use mathlib.Core.Path.{◌≡◌, refl, ap, ◌∙◌}
use native.Mathlib.Omega.{arith}
use native.Mathlib.Numerals.{add-one, one-add}
use native.Mathlib.Nat.{add-zero, add-suc, suc-add}
use lib.ListN.{length, take}
use Rattle.refusal.specs.declared.Numbers.{Numbers}
use Rattle.stream.specs.declared.Event.TheVariants as event
use Rattle.stream.specs.Stream.{Entry}
use Rattle.stream.proofs.Events.{by_event}
use Rattle.receiver.specs.Report.{Report}
use Rattle.std.specs.Prelude.{Some, None}
use Rattle.stream.specs.Events.{passing}
use Rattle.receiver.proofs.Entries.{at-report, noted, noted-append, Behind, behind-noted, Fills, Passes}

-- what a byte comes to
pub record Stepped (State : Type 0) : Type 0 where
  pub state : State
  pub store : List ℕ
  pub report : Report

-- what a piece comes to
pub record Answer (State : Type 0) : Type 0 where
  pub state : State
  pub taken : ℕ
  pub report : Report
  pub store : List ℕ

-- what every byte of a list comes to
pub record Scanned (State : Type 0) : Type 0 where
  pub entries : List Entry
  pub state : State
  pub store : List ℕ

-- a byte that gives no report, leaves the store and keeps what Q says of the state
pub record Silent {State : Type 0} (Q : State → Type 0) (s : List ℕ) (y : Stepped State) : Type 0 where
  pub state : Q y.state
  pub store : y.store ≡ s
  pub report : y.report ≡ None

-- one byte came to x; without a report, what follows counts on
abbrev pub onward : {State : Type 0} → Report → Stepped State → Answer State → Answer State
onward None x a = record { state = a.state; taken = 1 + a.taken; report = a.report; store = a.store }
onward (Some e) x a = record { state = x.state; taken = 1; report = Some e; store = x.store }

-- a report, before what comes after
abbrev pub with : {State : Type 0} → Report → ℕ → List ℕ → Scanned State → Scanned State
with r at s c = record { entries = noted r at s c.entries; state = c.state; store = c.store }

-- first es, then what comes after
abbrev pub before : {State : Type 0} → List Entry → Scanned State → Scanned State
before es c = record { entries = es ++ c.entries; state = c.state; store = c.store }

module _ {State : Type 0} (on_byte : State → List ℕ → ℕ → Stepped State) where
  -- a piece: byte after byte, up to and including the first that gives a report
  unfoldable pub feed : State → List ℕ → List ℕ → Answer State
  feed x s [] = record { state = x; taken = 0; report = None; store = s }
  feed x s (b ∷ bs) = onward (on_byte x s b).report (on_byte x s b) (feed (on_byte x s b).state (on_byte x s b).store bs)

  -- every byte, from the state x and the store s, P bytes being taken before
  unfoldable pub scan : State → List ℕ → ℕ → List ℕ → Scanned State
  scan x s P [] = record { entries = []; state = x; store = s }
  scan x s P (b ∷ bs) = with (on_byte x s b).report (suc P) (on_byte x s b).store (scan (on_byte x s b).state (on_byte x s b).store (suc P) bs)

  pub scan-none : (x : State) (s : List ℕ) (P : ℕ) → scan x s P [] ≡ record { entries = []; state = x; store = s }
  unfolding scan
  scan-none x s P = refl

  pub scan-append : (x : State) (s : List ℕ) (P : ℕ) (xs ys : List ℕ)
      → scan x s P (xs ++ ys) ≡ before (scan x s P xs).entries (scan (scan x s P xs).state (scan x s P xs).store (P + length xs) ys)
  unfolding scan
  scan-append x s P [] ys = simp add-zero
  scan-append x s P (b ∷ xs) ys =
      rw (scan-append (on_byte x s b).state (on_byte x s b).store (suc P) xs ys)
      (rw (noted-append (on_byte x s b).report (suc P) (on_byte x s b).store) (rw (add-suc P (length xs), ← (suc-add P (length xs)))))

  -- entries lie behind the bytes taken before
  pub scan-behind : (x : State) (s : List ℕ) (P : ℕ) (bs : List ℕ) → Behind P (scan x s P bs).entries
  unfolding scan
  scan-behind x s P [] = tt
  scan-behind x s P (b ∷ bs) =
      let y = on_byte x s b in
      behind-noted y.report P y.store (scan y.state y.store (suc P) bs).entries (scan-behind y.state y.store (suc P) bs)

  pub scan-silent : (Q : State → Type 0) → ((x : State) (s : List ℕ) (b : ℕ) → Q x → Silent Q s (on_byte x s b))
      → (x : State) (s : List ℕ) (P : ℕ) (bs : List ℕ) → Q x → ((scan x s P bs).entries ≡ []) × ((scan x s P bs).store ≡ s)
  unfolding scan
  scan-silent Q keeps x s P [] q = (refl, refl)
  scan-silent Q keeps x s P (b ∷ bs) q =
      let k = keeps x s b q in
      let ih = scan-silent Q keeps (on_byte x s b).state (on_byte x s b).store (suc P) bs k.state in
      (rw k.report ih.0, ih.1 ∙ k.store)

  -- what feeding a piece comes to, in terms of the scan
  pub record AsScan (x : State) (s piece : List ℕ) (P : ℕ) (a : Answer State) : Type 0 where
    pub le : a.taken ≤ length piece
    pub fills : Fills a.report a.taken (length piece)
    pub scanned : scan x s P (take a.taken piece)
        ≡ record { entries = noted a.report (P + a.taken) a.store []; state = a.state; store = a.store }

  pub feed-scan : (x : State) (s piece : List ℕ) (P : ℕ) → AsScan x s piece P (feed x s piece)
  unfolding feed scan
  feed-scan x s [] P = record { le = zero-le; fills = refl; scanned = refl }
  feed-scan x s (b ∷ bs) P =
      let y = on_byte x s b in
      let f = feed y.state y.store bs in
      let ih = feed-scan y.state y.store bs (suc P) in
      at-report (λ (r : Report). AsScan x s (b ∷ bs) P (onward r y f)) y.report
      (λ e. rw (one-add f.taken) (record {
        le = suc-le-suc ih.le;
        fills = at-report (λ (r : Report). Fills r f.taken (length bs) → Fills r (suc f.taken) (suc (length bs))) f.report (λ _ h. ap suc h) (λ _ _ h. omega arith) ih.fills;
        scanned = rw e (ih.scanned ∙ rw (add-suc P f.taken, ← (suc-add P f.taken)));
      }))
      (λ v e. record { le = suc-le-suc zero-le; fills = suc-le-suc zero-le; scanned = rw (e, add-one) })

-- ---- a machine that runs, until it is refused

module _ {State : Type 0} (Running : State → List ℕ → Type 0) (RefusedFor : Numbers → State → Type 0) where
  -- what holds behind a report
  abbrev pub After : Report → State → List ℕ → Type 0
  After None x s = Running x s
  After (Some e) x s = passing e (Running x s) (λ n. RefusedFor n x)

  pub passed-running : (r : Report) (x : State) (s : List ℕ) → Passes r → After r x s → Running x s
  passed-running None x s p a = a
  passed-running (Some e) x s p a = rw p at a

  pub by_after : {C : Type 0} (r : Report) (x : State) (s : List ℕ) → (Running x s → C) → ((n : Numbers) → RefusedFor n x → C) → After r x s → C
  by_after None x s f g a = f a
  by_after {C} (Some e) x s f g a = by_event (λ w. After (Some w) x s → C) (λ w p b. f (rw p at b)) g e a

  module _ (on_byte : State → List ℕ → ℕ → Stepped State)
      (keeps : (x : State) (s : List ℕ) (b : ℕ) → Running x s → After (on_byte x s b).report (on_byte x s b).state (on_byte x s b).store) where
    pub feed-after : (x : State) (s piece : List ℕ) → Running x s
        → After (feed on_byte x s piece).report (feed on_byte x s piece).state (feed on_byte x s piece).store
    unfolding feed
    feed-after x s [] r = r
    feed-after x s (b ∷ bs) r =
        let y = on_byte x s b in
        at-report (λ (w : Report). let a = onward w y (feed on_byte y.state y.store bs) in After a.report a.state a.store) y.report
        (λ e. feed-after y.state y.store bs (rw e at (keeps x s b r))) (λ v e. rw e at (keeps x s b r))

-- what holds behind a report of one machine, of another
pub after_map : {A B : Type 0} (R : A → List ℕ → Type 0) (G : Numbers → A → Type 0) (R' : B → List ℕ → Type 0) (G' : Numbers → B → Type 0) (r : Report) (x : A) (y : B) (s : List ℕ)
    → (R x s → R' y s) → ((n : Numbers) → G n x → G' n y) → After R G r x s → After R' G' r y s
after_map R G R' G' None x y s f g a = f a
after_map R G R' G' (Some e) x y s f g a =
    by_event (λ w. After R G (Some w) x s → After R' G' (Some w) y s) (λ w p b. rw p (f (rw p at b))) g e a

-- a call of a refused machine takes nothing, changes nothing and repeats the refusal
abbrev pub refused_again : {State : Type 0} → Numbers → State → List ℕ → Answer State
refused_again n x s = record { state = x; taken = 0; report = Some (event.Refused n); store = s }

-- A MACHINE, and what is asked of it
pub record Machine : Type 1 where
  pub State : Type 0
  pub on_byte : State → List ℕ → ℕ → Stepped State
  -- it runs, with a store; or it is refused, with these numbers
  pub Running : State → List ℕ → Type 0
  pub RefusedFor : Numbers → State → Type 0
  -- a call: the size of the piece that it was lent, and its answer; what it promises, from a state and a store, on a piece
  pub Call : Type 0
  pub size : Call → ℕ
  pub answer : Call → Answer State
  pub Answered : State → List ℕ → List ℕ → Call → Type 0
  -- a byte leaves it running, or refused by a refusal; behind that no byte gives a report or changes the store
  pub keeps : (x : State) (s : List ℕ) (b : ℕ) → Running x s → After Running RefusedFor (on_byte x s b).report (on_byte x s b).state (on_byte x s b).store
  pub silent : (n : Numbers) (x : State) (s : List ℕ) (P : ℕ) (bs : List ℕ) → RefusedFor n x
      → ((scan on_byte x s P bs).entries ≡ []) × ((scan on_byte x s P bs).store ≡ s)
  -- a call takes its piece byte by byte; behind a refusal it repeats it
  pub feeds : (x : State) (s piece : List ℕ) (c : Call) → Running x s → Answered x s piece c → answer c ≡ feed on_byte x s piece
  pub repeats : (n : Numbers) (x : State) (s piece : List ℕ) (c : Call) → RefusedFor n x → Answered x s piece c → answer c ≡ refused_again n x s

-- ---- a machine stands: it runs, or it is refused

pub data Stands (m : Machine) (x : m.State) (s : List ℕ) : Type 0 where
  runs : m.Running x s → Stands m x s
  refuses : (n : Numbers) → m.RefusedFor n x → Stands m x s

-- ---- a machine that stands, and one call on it

module _ (m : Machine) (x : m.State) (s piece : List ℕ) (c : m.Call) where
  pub fed-after : m.Running x s → m.Answered x s piece c → (let a = m.answer c in After m.Running m.RefusedFor a.report a.state a.store)
  fed-after r a = rw (m.feeds x s piece c r a) (feed-after m.Running m.RefusedFor m.on_byte m.keeps x s piece r)

  pub next-stands : Stands m x s → m.Answered x s piece c → Stands m (m.answer c).state (m.answer c).store
  next-stands (runs r) a =
      by_after m.Running m.RefusedFor (m.answer c).report (m.answer c).state (m.answer c).store (λ b. runs b) (λ n b. refuses n b) (fed-after r a)
  next-stands (refuses n g) a = rw (m.repeats n x s piece c g a) (refuses n g)

  -- behind a refusal it is refused
  pub refuses-next : Stands m x s → m.Answered x s piece c → (n : Numbers) → (m.answer c).report ≡ Some (event.Refused n) → m.RefusedFor n (m.answer c).state
  refuses-next (runs r) a n q = rw q at (fed-after r a)
  refuses-next (refuses k g) a n q =
      let e = m.repeats k x s piece c g a in
      let w : Some (event.Refused k) ≡ Some (event.Refused n) = rw e at q in
      let i : k ≡ n = cc in
      rw (e, ← i) g

-- a piece is begun
module _ {A : Type 0} (on_byte : A → List ℕ → ℕ → Stepped A) where
  onward-some : (r : Report) (y : Stepped A) (a : Answer A) → 0 < (onward r y a).taken
  onward-some None y a = omega arith
  onward-some (Some e) y a = omega arith

  pub feed-some : (x : A) (s piece : List ℕ) → 0 < length piece → 0 < (feed on_byte x s piece).taken
  unfolding feed
  feed-some x s [] h = absurd (omega arith)
  feed-some x s (b ∷ bs) h = onward-some (on_byte x s b).report (on_byte x s b) (feed on_byte (on_byte x s b).state (on_byte x s b).store bs)

  pub feed-none : (x : A) (s piece : List ℕ) → length piece ≡ 0 → ((feed on_byte x s piece).taken ≡ 0) × ((feed on_byte x s piece).report ≡ None)
  unfolding feed
  feed-none x s [] h = (refl, refl)
  feed-none x s (b ∷ bs) h = absurd (omega arith)
