-- Laws of handshake steps, and of modes.
use mathlib.Core.Path.{◌≡◌, sym, ◌∙◌}
use mathlib.Core.Bool.{Bool, true, false, ◌&&◌}
use mathlib.Core.List.{List}
use Prim.Native.Nat.{ℕ, suc, ◌+◌, ◌*◌, ◌≤◌}
use native.Mathlib.Omega.{arith}
use borrow.Author.Tests.{leb-true}
use lib.Dec.{leb}
use lib.ListN.{length, take, drop, get_or}
use Rattle.refusal.proofs.Booleans.{both_left, both_right}
use Rattle.fields.specs.Field.{words_of}
use Rattle.handshake.specs.declared.State.{State}
use Rattle.handshake.specs.declared.Step.{Step}
use Rattle.handshake.specs.Runs.{Side}
use Rattle.handshake.specs.Pick.{pick_of}
use Rattle.text.specs.Page.{Page}
use Rattle.records.specs.Records.{Record, print, is_whole, bad_record}
use Rattle.records.proofs.Laws.{sized-good, words_take, Left, left-next}
use Rattle.handshake_cases.specs.Steps.{step_line, step_of, step_good, steps_from}
use Rattle.handshake_cases.specs.Modes.{own_at, mode_size, picked_of}

-- ---- the steps of a record

-- one that stands there whole
pub good-within : (s : List ℕ) (i : ℕ) {b : Bool} → b ≡ step_good s i → b ≡ true → i + 2 ≤ length s
unfolding step_good
good-within s i {b} e h = leb-true (i + 2) (length s) (both_left (leb (i + 2) (length s)) _ (sym e ∙ h))

module _ (s : List ℕ) (side : Side) (σ : State) (n m i : ℕ) {all : Record} {p q : Page} {b : Bool} (h : n ≡ suc m) (e : b ≡ step_good s i) where
  pub steps-broken : b ≡ false → Left all (steps_from s side σ n i) p q → Left all bad_record p q
  unfolding steps_from
  steps-broken g l = rw (h, ← e, g) at l

  -- a step is made
  pub steps_on : {k tag v : ℕ} {t : Step} {r : Page} → b ≡ true
      → k ≡ i + 2
      → tag ≡ get_or s i 0
      → v ≡ get_or s (i + 1) 0
      → t ≡ step_of side σ tag v
      → r ≡ print (step_line t) q
      → Left all (steps_from s side σ n i) p q
      → Left all (steps_from s side t.state m k) p r
  unfolding steps_from
  steps_on g f et ev k printed l = rw (f, k, et, ev) (left-next (rw (h, ← e, g) at l) (rw (k, et, ev) at printed))

-- ---- the record of modes

module _ (s : List ℕ) (e : is_whole (mode_size s) s ≡ true) where
  lists : (leb (get_or s 1 0) 32 && leb (get_or s (own_at s) 0) 32) ≡ true
  lists = sized-good (leb (get_or s 1 0) 32 && leb (get_or s (own_at s) 0) 32) (own_at s + 1 + 4 * get_or s (own_at s) 0) s e

  pub preferred-few : get_or s 1 0 ≤ 32
  preferred-few = leb-true (get_or s 1 0) 32 (both_left (leb (get_or s 1 0) 32) _ lists)

  pub own-few : get_or s (own_at s) 0 ≤ 32
  own-few = leb-true (get_or s (own_at s) 0) 32 (both_right (leb (get_or s 1 0) 32) _ lists)

  pub mode-picked : {n m from : ℕ} {xs ys : List ℕ}
      → n ≡ get_or s 1 0
      → from ≡ own_at s
      → m ≡ get_or s from 0
      → xs ≡ words_of 64 (drop 2 s)
      → ys ≡ words_of 64 (drop (from + 1) s)
      → pick_of (take n xs) (take m ys) ≡ picked_of s
  unfolding picked_of
  mode-picked en ef em ex ey =
      let hn = preferred-few in
      let hm = own-few in
      rw (ex, ey, en, em, ef, words_take (get_or s 1 0) 64 (drop 2 s) (omega arith), words_take (get_or s (own_at s) 0) 64 (drop (own_at s + 1) s) (omega arith))
