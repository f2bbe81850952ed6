-- A machine that gathers (Gathers), fed with a piece: chunk after chunk gives what its bytes give one after the other.
use Prim.Native.Nat.{ℕ, suc, ◌+◌, ◌-◌, ◌≤◌, ◌<◌, zero-le, min}
use mathlib.Core.List.{List, [], ◌∷◌, ◌++◌}
use mathlib.Core.Path.{◌≡◌, refl, sym, ap, ◌∙◌}
use mathlib.Core.Bool.{true, false}
use native.Mathlib.Omega.{arith}
use native.Mathlib.Numerals.{one-add}
use native.Mathlib.Nat.{zero-add, add-zero, add_assoc, le_refl}
use lib.ListN.{length, take, drop, length-drop, take-append-drop, drop_of_length-le}
use lib.Seq.{drop-drop, take_all, length-take-le}
use Rattle.refusal.specs.declared.Numbers.{Numbers}
use Rattle.refusal.proofs.Booleans.{wrong}
use Rattle.buffer.proofs.Parts.{rest, rest-is}
use Rattle.receiver.specs.Report.{Report}
use Rattle.std.specs.Prelude.{Some, None}
use Rattle.receiver.specs.Step.{is_more}
use Rattle.receiver.proofs.Machine.{Stepped, Answer, onward, feed, After}
use Rattle.receiver.proofs.Gathers.{Gathering, chunk, byte_step, chunk-append, inside}

-- k bytes before
abbrev pub behind : {State : Type 0} → ℕ → Answer State → Answer State
behind k a = record { state = a.state; taken = k + a.taken; report = a.report; store = a.store }

-- k bytes came to y; without a report, what follows counts on
abbrev pub onwards : {State : Type 0} → Report → ℕ → Stepped State → Answer State → Answer State
onwards None k y a = behind k a
onwards (Some e) k y a = record { state = y.state; taken = k; report = Some e; store = y.store }

onward-one : {State : Type 0} (r : Report) (y : Stepped State) (a : Answer State) → onward r y a ≡ onwards r 1 y a
onward-one None y a = refl
onward-one (Some e) y a = refl

one_more : {State : Type 0} (r : Report) (k : ℕ) (y : Stepped State) (a : Answer State) → behind 1 (onwards r k y a) ≡ onwards r (suc k) y a
one_more None k y a = let e : 1 + (k + a.taken) ≡ suc k + a.taken = omega arith in rw e
one_more (Some v) k y a = rw (one-add k)

onwards-report : {State : Type 0} (r : Report) (k : ℕ) (y : Stepped State) (a : Answer State) → is_more r ≡ false
    → onwards r k y a ≡ record { state = y.state; taken = k; report = r; store = y.store }
onwards-report None k y a e = wrong (sym e)
onwards-report (Some v) k y a e = refl

is-more : (r : Report) → is_more r ≡ true → r ≡ None
is-more None e = refl
is-more (Some v) e = wrong e

-- ---- a chunk

module _ (g : Gathering) where
  -- a step of k bytes, and the piece behind them
  abbrev then : ℕ → Stepped g.State → List ℕ → Answer g.State
  then k y ys = onwards y.report k y (feed (byte_step g) y.state y.store ys)

  feed-chunk : (x : g.State) (s : List ℕ) (b : ℕ) (bs ys : List ℕ) → g.got x + length (b ∷ bs) ≤ g.size x
      → feed (byte_step g) x s (b ∷ bs ++ ys) ≡ then (length (b ∷ bs)) (chunk g x s (b ∷ bs)) ys
  unfolding feed
  feed-chunk x s b [] ys h = let y = byte_step g x s b in onward-one y.report y (feed (byte_step g) y.state y.store ys)
  feed-chunk x s b (c ∷ cs) ys h =
      let k : g.got x + 1 < g.size x = omega arith in
      let x' = g.absorbed x (b ∷ []) in
      let s' = g.stored x s (b ∷ []) in
      let z : g.got (g.absorbed x (b ∷ [])) + length (c ∷ cs) ≤ g.size (g.absorbed x (b ∷ [])) =
      rw (g.got-absorbed x (b ∷ []), g.size-absorbed x (b ∷ [])) (omega arith)
      in
      let y = chunk g x s (b ∷ c ∷ cs) in
      let e : feed (byte_step g) x' s' (c ∷ cs ++ ys) ≡ then (length (c ∷ cs)) y ys =
      feed-chunk x' s' c cs ys z ∙ ap (λ (q : Stepped g.State). then (length (c ∷ cs)) q ys) (chunk-append g x s (b ∷ []) (c ∷ cs))
      in
      rw (inside g x s (b ∷ []) k, e) (one_more y.report (length (c ∷ cs)) y (feed (byte_step g) y.state y.store ys))

  -- a piece from its first m bytes on
  feed-step : (x : g.State) (s piece : List ℕ) (m : ℕ) → 0 < m → m ≤ length piece → g.got x + m ≤ g.size x
      → feed (byte_step g) x s piece ≡ then m (chunk g x s (take m piece)) (drop m piece)
  feed-step x s piece m h l k = ap (feed (byte_step g) x s) (sym (take-append-drop m piece)) ∙ go (take m piece) (length-take-le m piece l)
    where
      go : (xs : List ℕ) → length xs ≡ m → feed (byte_step g) x s (xs ++ drop m piece) ≡ then m (chunk g x s xs) (drop m piece)
      go [] e = absurd (omega arith)
      go (b ∷ bs) e = feed-chunk x s b bs (drop m piece) (omega arith) ∙ ap (λ (n : ℕ). then n (chunk g x s (b ∷ bs)) (drop m piece)) e

  -- a piece that ends within what is gathered
  pub held : ((x : g.State) → g.absorbed x [] ≡ x) → (x : g.State) (s piece : List ℕ) → g.got x + length piece < g.size x
      → feed (byte_step g) x s piece ≡ record { state = g.absorbed x piece; taken = length piece; report = None; store = g.stored x s piece }
  unfolding feed
  held none x s [] l = rw (none x, g.stored-none x s)
  held none x s (b ∷ bs) l =
      let p : List ℕ = b ∷ bs in
      let n : ℕ = length p in
      feed-step x s p n (omega arith) (le_refl n) (omega arith) ∙ rw (take_all n p (le_refl n), inside g x s p l, drop_of_length-le p {i = n} (le_refl n), add-zero n)

  -- as many bytes as are still to be gathered, or as the piece has
  abbrev pub fitting : g.State → List ℕ → ℕ
  fitting x piece = min (g.size x - g.got x) (length piece)

-- ---- what runs keeps running until it is refused

pub record Lasting (g : Gathering) : Type 1 where
  pub Running : g.State → List ℕ → Type 0
  pub RefusedFor : Numbers → g.State → Type 0
  pub unfilled : {x : g.State} {s : List ℕ} → Running x s → g.got x < g.size x
  pub keeps : (x : g.State) (s xs : List ℕ) → Running x s → (let y = chunk g x s xs in After Running RefusedFor y.report y.state y.store)

-- ---- in the middle of a piece: what is left of it, from the state that the last chunk left, gives what the whole gives

pub record Midway {g : Gathering} (w : Lasting g) (piece store₀ : List ℕ) (x₀ : g.State) (store : List ℕ) (x : g.State) (at : ℕ) : Type 0 where
  pub within : at ≤ length piece
  pub running : w.Running x store
  pub fed : feed (byte_step g) x₀ store₀ piece ≡ behind at (feed (byte_step g) x store (drop at piece))
  pub same : length store ≡ length store₀

module _ {g : Gathering} (w : Lasting g) where
  pub begin : (piece s : List ℕ) (x : g.State) → w.Running x s → Midway w piece s x s x 0
  begin piece s x r = record { within = zero-le; running = r; fed = rw zero-add; same = refl }

  pub finished : {piece store₀ : List ℕ} {x₀ : g.State} {store : List ℕ} {x : g.State} {at : ℕ} → Midway w piece store₀ x₀ store x at → length piece ≤ at
      → feed (byte_step g) x₀ store₀ piece ≡ record { state = x; taken = at; report = None; store = store }
  unfolding feed
  finished {piece} {at = at} m l = m.fed ∙ rw (drop_of_length-le piece {i = at} l, add-zero at)

-- one turn: a chunk of what is left of the piece, of n bytes, came to y, and the store is as long as it was
pub record Turn {g : Gathering} (w : Lasting g) (piece store₀ : List ℕ) (x₀ : g.State) (store : List ℕ) (x : g.State) (at n : ℕ) (y : Stepped g.State) : Type 0 where
  pub midway : Midway w piece store₀ x₀ store x at
  pub some : at < length piece
  pub taken : n ≡ fitting g x (rest piece at)
  pub step : y ≡ chunk g x store (take (fitting g x (rest piece at)) (rest piece at))
  pub kept : length y.store ≡ length store

module _ {g : Gathering} {w : Lasting g} {piece store₀ : List ℕ} {x₀ : g.State} {store : List ℕ} {x : g.State} {at n : ℕ} {y : Stepped g.State}
    (t : Turn w piece store₀ x₀ store x at n y) where
  abbrev left : List ℕ
  left = drop at piece

  left_is : length (drop at piece) ≡ length piece - at
  left_is = length-drop at piece

  unfilled : g.got x < g.size x
  unfilled = w.unfilled t.midway.running

  taken : n ≡ fitting g x left
  taken = t.taken ∙ ap (fitting g x) (rest-is piece at)

  chunked : y ≡ chunk g x store (take n left)
  chunked = t.step ∙ rw (rest-is piece at, ← taken)

  pub progress : 0 < n
  progress = omega (arith, taken, left_is, unfilled, t.some)

  pub within : at + n ≤ length piece
  within = omega (arith, taken, left_is, t.some)

  on : feed (byte_step g) x store left ≡ then g n y (drop (at + n) piece)
  on = feed-step g x store left n progress (omega (arith, taken, left_is)) (omega (arith, taken, unfilled)) ∙ rw (← chunked, drop-drop n at piece)

  pub again : is_more y.report ≡ true → Midway w piece store₀ x₀ y.store y.state (at + n)
  again e =
      let q = is-more y.report e in
      let after : After w.Running w.RefusedFor y.report y.state y.store = rw chunked (w.keeps x store (take n left) t.midway.running) in
      record { within = within; running = rw q at after; fed = t.midway.fed ∙ rw (on, q, add_assoc); same = t.kept ∙ t.midway.same }

  pub reported : is_more y.report ≡ false
      → feed (byte_step g) x₀ store₀ piece ≡ record { state = y.state; taken = at + n; report = y.report; store = y.store }
  reported e =
      t.midway.fed ∙ ap (behind at) (on ∙ onwards-report y.report n y (feed (byte_step g) y.state y.store (drop (at + n) piece)) e)
