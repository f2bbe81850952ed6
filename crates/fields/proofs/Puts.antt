-- Laws of bytes written to a buffer from a place on, as far as there is room.
use mathlib.Core.Path.{◌≡◌, refl, ap, ◌∙◌}
use mathlib.Core.List.{List, [], ◌++◌, append_assoc}
use Prim.Native.Nat.{ℕ, ◌+◌, ◌-◌, ◌≤◌, min}
use native.Mathlib.Omega.{arith}
use lib.ListN.{length, take, drop, take-append-drop}
use lib.Seq.{sets, sets-eq, drop-drop, length-take-le}
use borrow.Rule.Slice.PartMut.{put_mid}
use Rattle.refusal.proofs.Booleans.{by_less}
use Rattle.buffer.specs.Splice.{replace_front}
use Rattle.buffer.proofs.Sets.{sets-append, sets-front, sets-out, sets-room}
use Rattle.fields.specs.Writing.{put_at}

pub put-none : (at : ℕ) (l : List ℕ) → put_at at [] l ≡ l
unfolding put_at
put-none at l = refl

-- a second writer behind a first
pub put_next : (at b : ℕ) (xs ys l : List ℕ) → b ≡ at + length xs → put_at b ys (put_at at xs l) ≡ put_at at (xs ++ ys) l
unfolding put_at
put_next at b xs ys l e = ap (λ (i : ℕ). sets (sets l at xs) i ys) e ∙ sets-append l at xs ys

-- with room, all of it is at the front
pub put-over : (xs l : List ℕ) → length xs ≤ length l → put_at 0 xs l ≡ replace_front xs l
unfolding put_at
put-over xs l h = sets-front l xs h

-- as much as there is room for, in place of what stood there
pub put-cut : (at a n : ℕ) (xs l ys : List ℕ) → a ≡ min at (length l) → n ≡ min (length xs) (length l - a) → ys ≡ take n xs → put_mid a (a + n - a) l ys ≡ put_at at xs l
unfolding put_at
put-cut at a n xs l ys ea en ey =
    let k : a + n - a ≡ n = omega arith in
    let m : length ys ≡ n = rw ey (length-take-le n xs (omega arith)) in
    rw (k, ← (sets-room xs l at n (omega arith)), ← ey)
    (by_less (length l) at
    (λ h. let z : n ≡ 0 = omega arith in
    let none : ys ≡ [] = rw (ey, z) refl in
    rw (z, sets-out ys l at (omega arith)) (ap (λ (t : List ℕ). take a l ++ (t ++ drop 0 (drop a l))) none ∙ take-append-drop a l))
    (λ h. let e : a ≡ at = omega arith in rw (e, ← m, sets-eq ys l at (omega arith), drop-drop (length ys) at l, append_assoc)))
