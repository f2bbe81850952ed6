-- A machine whose step gathers bytes up to a number and then finishes: bytes taken together give what they give one after the other, and a list of bytes ends
-- within what is gathered, or fills it.
use Prim.Native.Nat.{ℕ, suc, ◌+◌, ◌≤◌, ◌<◌}
use mathlib.Core.List.{List, [], ◌∷◌, ◌++◌, append-nil}
use mathlib.Core.Path.{◌≡◌, refl, sym, ap, ◌∙◌}
use mathlib.Core.Bool.{Bool, true, false}
use native.Mathlib.Omega.{arith}
use native.Mathlib.Numerals.{add-one}
use native.Mathlib.Nat.{add_assoc}
use lib.ListN.{length, take, drop, length-append, take-append-drop}
use lib.Seq.{length-take-le}
use lib.Dec.{ltb}
use borrow.Author.Tests.{lt-ltb, le-ltb}
use Rattle.refusal.proofs.Booleans.{by_less}
use Rattle.stream.specs.Stream.{Trace, ended, after}
use Rattle.receiver.specs.Report.{Report}
use Rattle.std.specs.Prelude.{Some, None}
use Rattle.receiver.proofs.Machine.{Stepped, Scanned, with, scan, scan-none}

-- so many bytes and more
pub got-append : (got : ℕ) (xs ys : List ℕ) → (got + length xs) + length ys ≡ got + length (xs ++ ys)
got-append got xs ys = add_assoc got (length xs) (length ys) ∙ ap (λ (n : ℕ). got + n) (sym (length-append xs ys))

-- WHAT GATHERS: how many bytes came, how many there are to be, where they go, and what is reached, silently before the last one (true) and with it (false)
pub record Gathering : Type 1 where
  pub State : Type 0
  pub got : State → ℕ
  pub size : State → ℕ
  pub absorbed : State → List ℕ → State
  pub stored : State → List ℕ → List ℕ → List ℕ
  pub reached : State → List ℕ → Bool → Stepped State
  pub silent : (x : State) (s : List ℕ) → reached x s true ≡ record { state = x; store = s; report = None }
  pub got-absorbed : (x : State) (xs : List ℕ) → got (absorbed x xs) ≡ got x + length xs
  pub size-absorbed : (x : State) (xs : List ℕ) → size (absorbed x xs) ≡ size x
  pub absorbed-append : (x : State) (xs ys : List ℕ) → absorbed (absorbed x xs) ys ≡ absorbed x (xs ++ ys)
  pub stored-append : (x : State) (s xs ys : List ℕ) → stored (absorbed x xs) (stored x s xs) ys ≡ stored x s (xs ++ ys)
  pub stored-none : (x : State) (s : List ℕ) → stored x s [] ≡ s

-- what a scan comes to, as the definition over streams has it
abbrev pub trace_by : {State : Type 0} → Scanned State → Trace
trace_by c = record { entries = c.entries; store = c.store }

abbrev pub note_trace : Report → ℕ → List ℕ → Trace → Trace
note_trace None at s t = t
note_trace (Some e) at s t = after e at s t

with-trace : {State : Type 0} (r : Report) (at : ℕ) (s : List ℕ) (c : Scanned State) → trace_by (with r at s c) ≡ note_trace r at s (trace_by c)
with-trace None at s c = refl
with-trace (Some e) at s c = refl

module _ (g : Gathering) where
  -- bytes that do not go past the last one
  abbrev pub chunk : g.State → List ℕ → List ℕ → Stepped g.State
  chunk x s xs = g.reached (g.absorbed x xs) (g.stored x s xs) (ltb (g.got x + length xs) (g.size x))

  abbrev pub byte_step : g.State → List ℕ → ℕ → Stepped g.State
  byte_step x s b = chunk x s (b ∷ [])

  pub chunk-append : (x : g.State) (s xs ys : List ℕ) → chunk (g.absorbed x xs) (g.stored x s xs) ys ≡ chunk x s (xs ++ ys)
  chunk-append x s xs ys = rw (chunk, g.absorbed-append x xs ys, g.stored-append x s xs ys, g.got-absorbed x xs, got-append (g.got x) xs ys, g.size-absorbed x xs)

  -- bytes before the last one are silent
  pub inside : (x : g.State) (s xs : List ℕ) → g.got x + length xs < g.size x
      → chunk x s xs ≡ record { state = g.absorbed x xs; store = g.stored x s xs; report = None }
  inside x s xs h = rw (chunk, lt-ltb (g.got x + length xs) (g.size x) h) (g.silent (g.absorbed x xs) (g.stored x s xs))

  pub scan-chunk : (x : g.State) (s : List ℕ) (P b : ℕ) (bs ys : List ℕ) → g.got x + length (b ∷ bs) ≤ g.size x
      → scan byte_step x s P (b ∷ bs ++ ys) ≡ (let y = chunk x s (b ∷ bs) in with y.report (P + length (b ∷ bs)) y.store (scan byte_step y.state y.store (P + length (b ∷ bs)) ys))
  unfolding scan
  scan-chunk x s P b [] ys h = rw (add-one P)
  scan-chunk x s P b (c ∷ cs) ys h =
      let k : g.got x + 1 < g.size x = omega arith in
      let z : g.got (g.absorbed x (b ∷ [])) + length (c ∷ cs) ≤ g.size (g.absorbed x (b ∷ [])) = rw (g.got-absorbed x (b ∷ []), g.size-absorbed x (b ∷ [])) (omega arith) in
      let ih = scan-chunk (g.absorbed x (b ∷ [])) (g.stored x s (b ∷ [])) (suc P) c cs ys z in
      let p : suc P + length (c ∷ cs) ≡ P + length (b ∷ c ∷ cs) = omega arith in
      rw (inside x s (b ∷ []) k) (ih ∙ rw (p, chunk-append x s (b ∷ []) (c ∷ cs)))

  -- what a step and the bytes behind it come to
  abbrev pub run : Stepped g.State → ℕ → List ℕ → Trace
  run y P ys = note_trace y.report P y.store (trace_by (scan byte_step y.state y.store P ys))

  chunk-trace : (x : g.State) (s : List ℕ) (P b : ℕ) (bs ys : List ℕ) → g.got x + length (b ∷ bs) ≤ g.size x
      → trace_by (scan byte_step x s P (b ∷ bs ++ ys)) ≡ run (chunk x s (b ∷ bs)) (P + length (b ∷ bs)) ys
  chunk-trace x s P b bs ys h =
      let y = chunk x s (b ∷ bs) in
      ap trace_by (scan-chunk x s P b bs ys h)
      ∙ with-trace y.report (P + length (b ∷ bs)) y.store (scan byte_step y.state y.store (P + length (b ∷ bs)) ys)

  -- the bytes end within what is gathered
  pub short : (x : g.State) (s : List ℕ) (P : ℕ) (ys : List ℕ) → g.got x + length ys < g.size x → trace_by (scan byte_step x s P ys) ≡ ended (g.stored x s ys)
  short x s P [] h = ap trace_by (scan-none byte_step x s P) ∙ ap ended (sym (g.stored-none x s))
  short x s P (b ∷ bs) h =
      ap (λ (l : List ℕ). trace_by (scan byte_step x s P l)) (sym (append-nil (b ∷ bs)))
      ∙ chunk-trace x s P b bs [] (omega arith)
      ∙ rw (inside x s (b ∷ bs) h, scan-none byte_step)

  -- n of them fill it
  filled : (x : g.State) (s : List ℕ) (P : ℕ) (xs ys : List ℕ) → 0 < length xs → g.got x + length xs ≡ g.size x
      → trace_by (scan byte_step x s P (xs ++ ys)) ≡ run (g.reached (g.absorbed x xs) (g.stored x s xs) false) (P + length xs) ys
  filled x s P [] ys h e = absurd (omega arith)
  filled x s P (b ∷ bs) ys h e = chunk-trace x s P b bs ys (omega arith) ∙ rw (chunk, le-ltb (g.got x + length (b ∷ bs)) (g.size x) (omega arith))

  pub full : (x : g.State) (s : List ℕ) (P n : ℕ) (ys : List ℕ) → 0 < n → g.got x + n ≡ g.size x → n ≤ length ys
      → trace_by (scan byte_step x s P ys) ≡ run (g.reached (g.absorbed x (take n ys)) (g.stored x s (take n ys)) false) (P + n) (drop n ys)
  full x s P n ys h e l =
      let k : length (take n ys) ≡ n = length-take-le n ys l in
      ap (λ (t : List ℕ). trace_by (scan byte_step x s P t)) (sym (take-append-drop n ys)) ∙ filled x s P (take n ys) (drop n ys) (omega arith) (omega arith) ∙ rw k

  -- both at once
  pub staged : (x : g.State) (s : List ℕ) (P n : ℕ) (ys : List ℕ) {t : Trace} → 0 < n → g.got x + n ≡ g.size x → (length ys < n → ended (g.stored x s ys) ≡ t)
      → (n ≤ length ys → run (g.reached (g.absorbed x (take n ys)) (g.stored x s (take n ys)) false) (P + n) (drop n ys) ≡ t) → trace_by (scan byte_step x s P ys) ≡ t
  staged x s P n ys h e within past = by_less (length ys) n (λ l. short x s P ys (omega arith) ∙ within l) (λ l. full x s P n ys h e l ∙ past l)
