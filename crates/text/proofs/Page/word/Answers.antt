use Rattle.std.proofs.Common.{◌≡◌, ℕ, List, ◌++◌, sym, ap₂, append_assoc, arith, length, take, drop, ◌+◌, ◌≤◌, ◌-◌, min}
use Rattle.std.proofs.lemmas.List.Edits.{sets, sets-eq}
use lib.Seq.{drop-drop, length-take-le}
use borrow.Rule.Slice.PartMut.{put_mid}
use Rattle.buffer.proofs.Sets.{sets-room, sets-out}
use Rattle.text.specs.Page.{page, put, write}
use Rattle.text.proofs.Page.word.Goals as goal

-- the front of a word, copied behind the text
copied : (xs ys l : List ℕ) (i n k : ℕ) → n ≡ min (length xs) (length l - i) → i ≤ length l → ys ≡ take n xs → k ≡ n → put_mid i k l ys ≡ sets l i xs
copied xs ys l i n k e h f g =
    let m : length (take n xs) ≡ n = length-take-le n xs (omega arith) in
    let s : sets l i (take n xs) ≡ take i l ++ take n xs ++ drop (i + length (take n xs)) l = sets-eq (take n xs) l i (omega arith) in
    rw (f, g, ← sets-room xs l i n e, s, m, drop-drop n i l, append_assoc)

-- where there is no room nothing is written
full : (xs l : List ℕ) (i : ℕ) → length l ≤ i → page l i ≡ write xs (page l i)
unfolding page write
full xs l i h = ap₂ page (sym (sets-out xs l i h)) (omega arith)

pub returns-then-self-all : goal.returns-then-self-all
unfolding page put write
returns-then-self-all c = rw (← c.self.view_is) (ap₂ page (copied _ _ _ _ _ _ c.min-n.ensures (omega arith) c.copy_from_slice.ensures.after (omega arith)) (omega (arith, c.min-n.ensures)))

pub returns-else-self-all : goal.returns-else-self-all
unfolding page put
returns-else-self-all c = rw (← c.self.view_is) (full _ _ _ (omega arith))
