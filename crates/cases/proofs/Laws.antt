-- Laws of builds, and of bytes that are moved to the front of a list.
use mathlib.Core.Path.{◌≡◌, sym, ap, ◌∙◌}
use mathlib.Core.Bool.{true, false, ◌&&◌}
use mathlib.Core.List.{List, ◌++◌}
use Prim.Native.Nat.{ℕ, ◌+◌, ◌-◌, ◌≤◌, ◌<◌}
use native.Mathlib.Nat.{add_comm}
use native.Mathlib.Omega.{arith}
use borrow.Author.Tests.{leb-true, eq-eqb, ne_eqb}
use lib.Dec.{leb, eqb}
use lib.ListN.{length, take, drop, get_or, set, length-drop}
use lib.Seq.{get_or-append-add, get_or-drop, length-take-le, take_at}
use Rattle.refusal.proofs.Booleans.{both_left, both_right}
use Rattle.buffer.proofs.CopyLoop.{copy_more}
use Rattle.buffer.proofs.Parts.{back}
use Rattle.buffer.specs.Le.{number_at}
use Rattle.records.specs.Records.{allowed, is_whole}
use Rattle.records.proofs.Laws.{sized-good}
use Rattle.cases.specs.Builds.{banner_size, frame_size}

-- ---- kinds

-- the first byte is n, or is not
pub kind-is : {k b n : ℕ} → k ≡ b → k ≡ n → eqb b n ≡ true
kind-is {k} {b} {n} e f = eq-eqb b n (sym e ∙ f)

pub kind_isnt : {k b n : ℕ} → k ≡ b → (k ≡ n → ⊥) → eqb b n ≡ false
kind_isnt {k} {b} {n} e f = ne_eqb b n (λ g. f (e ∙ g))

-- as much space as the longest buffer needs
pub space-lent : (l : List ℕ) → 65536 ≤ length l → length (take 65536 l) ≡ 65536
space-lent l h = length-take-le 65536 l h

-- ---- builds

-- the buffer's length of a build that is whole
pub banner-buffer : (s : List ℕ) → is_whole (banner_size s) s ≡ true → number_at 4 17 s ≤ 65536
banner-buffer s e = leb-true (number_at 4 17 s) 65536 (sized-good (allowed (number_at 4 17 s)) 30 s e)

pub frame-buffer : (s : List ℕ) → is_whole (frame_size s) s ≡ true → number_at 4 29 s ≤ 65536
frame-buffer s e =
    let g = sized-good ((leb (get_or s 1 0) 1 && leb (get_or s 28 0) 1) && (allowed (number_at 4 29 s) && allowed (number_at 4 42 s))) (46 + number_at 4 42 s) s e in
    leb-true (number_at 4 29 s) 65536 (both_left (allowed (number_at 4 29 s)) _ (both_right (leb (get_or s 1 0) 1 && leb (get_or s 28 0) 1) _ g))

-- ---- moving

-- a byte that is moved still stands where it was
pub moved_more : (l : List ℕ) (at i : ℕ)
    → at + i < length l
    → set (take i (drop at l) ++ drop i l) i (get_or (take i (drop at l) ++ drop i l) (at + i) 0) ≡ take (i + 1) (drop at l) ++ drop (i + 1) l
moved_more l at i h =
    let n : length (drop at l) ≡ length l - at = length-drop at l in
    let k : length (take i (drop at l)) ≡ i = length-take-le i (drop at l) (omega arith) in
    let j : at + i ≡ length (take i (drop at l)) + at = omega arith in
    let e : get_or (take i (drop at l) ++ drop i l) (at + i) 0 ≡ get_or (drop at l) i 0 =
    ap (λ (j : ℕ). get_or (take i (drop at l) ++ drop i l) j 0) j
    ∙ get_or-append-add (take i (drop at l)) (drop i l) at 0
    ∙ get_or-drop i l at 0
    ∙ ap (λ (j : ℕ). get_or l j 0) (add_comm i at)
    ∙ sym (get_or-drop at l i 0)
    in
    rw e (copy_more (drop at l) l i (omega arith) (omega arith))

-- what was moved stays in front of a part that is lent behind it
pub moved-kept : (l l₁ ys : List ℕ) (at n : ℕ) → at + n ≤ length l → l₁ ≡ take n (drop at l) ++ drop n l → take n (back l₁ n ys) ≡ take n (drop at l)
moved-kept l l₁ ys at n h e =
    let d : length (drop at l) ≡ length l - at = length-drop at l in
    let k : length (take n (drop at l)) ≡ n = length-take-le n (drop at l) (omega arith) in
    let t : take n l₁ ≡ take n (drop at l) = ap (take n) e ∙ take_at (take n (drop at l)) (drop n l) n k in
    take_at (take n l₁) _ n (ap length t ∙ k) ∙ t
