-- What follows bytes of the file, by the tests.
use mathlib.Core.Path.{◌≡◌, refl, sym, ap, subst, ◌∙◌}
use mathlib.Core.Bool.{Bool, true, false, cond, not, ◌&&◌}
use mathlib.Core.List.{List}
use Prim.Native.Nat.{ℕ, suc, ◌+◌, ◌*◌, ◌-◌, ◌≤◌, ◌<◌, min}
use native.Mathlib.Nat.{add-zero}
use native.Mathlib.Omega.{arith}
use lib.Dec.{leb, ltb, eqb}
use lib.ListN.{length, take, drop, length-take}
use lib.Seq.{drop-drop}
use borrow.Author.Tests.{leb-true, ltb-false, not-true}
use Rattle.refusal.proofs.Booleans.{at_test, each_true}
use Rattle.buffer.specs.Le.{number_at}
use Rattle.buffer.proofs.Numbers.{number-drop}
use Rattle.std.specs.Prelude.{is_some, Ok, Err}
use Rattle.text.specs.Page.{Page, page}
use Rattle.link.specs.declared.Walk.{Walk}
use Rattle.link.specs.declared.Part.{Part}
use Rattle.link.specs.declared.Part.TheVariants.{Count, Table, Bodies, Ended}
use Rattle.link.specs.declared.Link.{Link}
use Rattle.link.specs.File.{sum_of}
use Rattle.link.specs.Reads.{Outcome, Ends, wanted_by, wanted_of, link_after, count_outcome, table_outcome, bodies_outcome, link_at, ready, WalkRead, ReadBy, ReadOn}
use Rattle.link.specs.Walks.{Fits}

-- one more length of a table
pub sum_more : (m i : ℕ) (table : List ℕ) → sum_of (suc m) (drop (4 * i) table) ≡ number_at 4 (4 * i) table + sum_of m (drop (4 * (i + 1)) table)
unfolding sum_of
sum_more m i table =
    let k : 4 * i + 4 ≡ 4 * (i + 1) = omega arith in
    rw (drop-drop 4 (4 * i) table, number-drop 4 0 (4 * i) table, add-zero, k)

-- a walk that can go on, and at most 16,384 bytes
pub ready-fits : (w : Walk) (n : ℕ) → ready w ≡ true → n ≤ 16384 → Fits w n
ready-fits w n e h =
    let a = each_true (not (is_some w.refused)) (leb w.taken 4611686018427387904 && leb w.frames 4611686018427387904) e in
    let b = each_true (leb w.taken 4611686018427387904) (leb w.frames 4611686018427387904) a.1 in
    record {
      live = not-true (is_some w.refused) a.0;
      taken = omega (arith, leb-true w.taken 4611686018427387904 b.0);
      frames = omega (arith, leb-true w.frames 4611686018427387904 b.1);
    }

-- ---- a read, by what comes next

module _ (l : Link) (p : Part) (bytes lent : List ℕ) (n : ℕ) (part : l.part ≡ p) (wanted : n ≡ wanted_of l) (taken : lent ≡ take n bytes) where
  pub read_by : (s : List ℕ) (text : Page) (r : Link) (s' : List ℕ) (text' : Page) → ReadBy p l.walk s lent (page text.bytes 0) r s' text' → ReadOn l s bytes text r s' text'
  unfolding ReadOn
  read_by s text r s' text' x =
      let q : lent ≡ take (wanted_of l) bytes = taken ∙ ap (λ (m : ℕ). take m bytes) wanted in
      subst (λ (b : List ℕ). ReadBy l.part l.walk s b (page text.bytes 0) r s' text') q
      (subst (λ (k : Part). ReadBy k l.walk s lent (page text.bytes 0) r s' text') (sym part) x)

  pub bodies_few : (left : ℕ) → p ≡ Bodies left → length lent ≤ 16384
  bodies_few left e =
      let m : n ≡ min left 16384 = wanted ∙ ap wanted_by (part ∙ e) in
      omega (arith, ap length taken ∙ length-take n bytes)

pub walk-read : (left : ℕ) (w : Walk) (s bytes : List ℕ) (text : Page) (r : Link) (s' : List ℕ) (text' : Page) (b : Bool) → ready w ≡ b → WalkRead b left w s bytes text r s' text' → WalkRead (ready w) left w s bytes text r s' text'
walk-read left w s bytes text r s' text' b e x = subst (λ (k : Bool). WalkRead k left w s bytes text r s' text') (sym e) x

pub read-nothing : (left : ℕ) (w : Walk) (s bytes : List ℕ) (text : Page) → ready w ≡ false → WalkRead (ready w) left w s bytes text (link_at Ended w) s text
read-nothing left w s bytes text e = walk-read left w s bytes text (link_at Ended w) s text false e (record { link = refl; store = refl; kept = refl })

-- ---- reading ends

-- a number that falls with each read, so that reading ends
abbrev pub remaining_by : Part → ℕ
remaining_by Count = 18446744073709551617
remaining_by (Table n) = 18446744073709551616
remaining_by (Bodies left) = left
remaining_by Ended = 0

abbrev pub remaining : Link → ℕ
remaining l = remaining_by l.part

-- the bytes of the bodies are a number of 64 bits
abbrev pub Few : Part → Type 0
Few Count = Unit {0}
Few (Table n) = Unit {0}
Few (Bodies left) = left < 18446744073709551616
Few Ended = Unit {0}

-- where they are one in every link of which P holds
pub few_by : (P : Link → Type 0) (l : Link) → P l → ((left : ℕ) (w : Walk) → P (link_at (Bodies left) w) → left < 18446744073709551616) → Few l.part
few_by P l x f = by_part l.part l.walk x
  where
    by_part : (p : Part) (w : Walk) → P (link_at p w) → Few p
    by_part Count w x = tt
    by_part (Table n) w x = tt
    by_part (Bodies left) w x = f left w x
    by_part Ended w x = tt

after-falls : (m : ℕ) (o : Outcome) (w : Walk) (r : Link) → Few r.part → r ≡ link_after o w → ((p : Part) → o ≡ Ok p → Few p → remaining_by p < m) → 0 < m → remaining r < m
after-falls m (Ok p) w r h e f z =
    let l : r.part ≡ p = ap (λ (x : Link). x.part) e in
    rw e (f p refl (subst Few l h))
after-falls m (Err b) w r h e f z = rw e z

three : (P : Part → Type 0) (a b c : Bool) (q p : Part) → cond a (Ends true) (cond b (Ends true) (cond c (Ends false) (Ok q))) ≡ Ok p → P q → P Ended → P p
three P true b c q p e x y = absurd (let z : ◌≡◌ {A = ℕ} 0 1 = cc in omega arith)
three P false true c q p e x y = absurd (let z : ◌≡◌ {A = ℕ} 0 1 = cc in omega arith)
three P false false true q p e x y = let k : Ended ≡ p = cc in subst P k y
three P false false false q p e x y = let k : q ≡ p = cc in subst P k x

bodies_fall : (left n : ℕ) (a b c : Bool) (p : Part) → ltb n (min left 16384) ≡ b → leb left n ≡ c → 0 < left
    → cond a (Ends false) (cond b (Ends true) (cond c (Ends false) (Ok (Bodies (left - n))))) ≡ Ok p → remaining_by p < left
bodies_fall left n true b c p eb ec h e = let k : Ended ≡ p = cc in rw (← k) h
bodies_fall left n false true c p eb ec h e = absurd (let z : ◌≡◌ {A = ℕ} 0 1 = cc in omega arith)
bodies_fall left n false false true p eb ec h e = let k : Ended ≡ p = cc in rw (← k) h
bodies_fall left n false false false p eb ec h e =
    let k : Bodies (left - n) ≡ p = cc in
    rw (← k) (omega (arith, ltb-false n (min left 16384) eb))

falls_by : (p : Part) (w : Walk) (s bytes : List ℕ) (text : Page) (r : Link) (s' : List ℕ) (text' : Page) → ReadBy p w s bytes text r s' text' → 0 < wanted_by p → Few r.part → remaining r < remaining_by p
falls_by Count w s bytes text r s' text' x h f =
    let n = number_at 2 0 bytes in
    after-falls _ (count_outcome bytes) _ r f x.settled.link
    (λ p e g. three (λ q. remaining_by q < 18446744073709551617) (ltb (length bytes) 2) (ltb 512 n) (eqb n 0) (Table n) p e (omega arith) (omega arith)) (omega arith)
falls_by (Table n) w s bytes text r s' text' x h f =
    let k = min n 512 in
    after-falls _ (table_outcome k bytes) _ r f x.settled.link
    (λ p e g. three (λ q. Few q → remaining_by q < 18446744073709551616) false (ltb (length bytes) (4 * k)) (eqb (sum_of k bytes) 0) (Bodies (sum_of k bytes)) p e (λ i. i) (λ i. omega arith) g) (omega arith)
falls_by (Bodies left) w s bytes text r s' text' x h f =
    at_test (λ b. WalkRead b left w s bytes text r s' text' → remaining r < left) (ready w)
    (λ e y.
    after-falls left (bodies_outcome left (length bytes) (is_some y.walk.refused)) _ r f y.settled.link
    (λ p e g. bodies_fall left (length bytes) (is_some y.walk.refused) (ltb (length bytes) (min left 16384)) (leb left (length bytes)) p refl refl (omega arith) e) (omega arith))
    (λ e y. rw y.link (omega arith))
    x
falls_by Ended w s bytes text r s' text' x h f = absurd (omega arith)

pub falls : (l : Link) (s bytes : List ℕ) (text : Page) (r : Link) (s' : List ℕ) (text' : Page) → ReadOn l s bytes text r s' text' → 0 < wanted_of l → Few r.part → remaining r < remaining l
unfolding ReadOn
falls l s bytes text r s' text' x h f = falls_by l.part l.walk s (take (wanted_of l) bytes) (page text.bytes 0) r s' text' x h f
