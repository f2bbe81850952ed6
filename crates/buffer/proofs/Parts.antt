-- Parts lent and given back: a writer that is lent a part leaves `overwrite xs` of it; the laws carry that to the whole.
use mathlib.Core.Path.{◌≡◌, refl, sym, ap, ap₂, ◌∙◌}
use mathlib.Core.List.{List, [], ◌∷◌, ◌++◌, append_assoc, append-nil}
use Prim.Native.Nat.{ℕ, zero, suc, ◌+◌, ◌-◌, ◌≤◌}
use native.Mathlib.Nat.{le_refl, zero-add, suc-add, add_assoc, add-zero}
use native.Mathlib.Omega.{arith}
use lib.ListN.{length, take, drop, length-append, length-take, length-drop, drop_of_length-le, take-append-drop, replicate, length-replicate}
use lib.Seq.{take-nil, take_all, take_at, drop_at, drop-append-add, drop-drop, length-take-le, drop-append-le}
use Rattle.buffer.specs.Splice.{replace_front, overwrite, splice}
use Rattle.buffer.proofs.Splices.{splice_at, splice_upto}

-- what a list holds again once the part from i on, lent whole, has come back as ys
abbrev pub back : List ℕ → ℕ → List ℕ → List ℕ
back l i ys = take i l ++ (ys ++ drop (length l - i) (drop i l))

-- the part from i on, as it is lent
abbrev pub rest : List ℕ → ℕ → List ℕ
rest l i = take (length l - i) (drop i l)

pub length-replace_front : (xs l : List ℕ) → length xs ≤ length l → length (replace_front xs l) ≡ length l
length-replace_front xs l h = simp (length-append, length-drop) (omega arith)

pub length-splice : (l : List ℕ) (i : ℕ) (xs : List ℕ) → i + length xs ≤ length l → length (splice l i xs) ≡ length l
length-splice l i xs h = simp (length-append, length-drop, length-take) (omega arith)

-- with room, all of xs is laid down
pub overwrite-fits : (xs l : List ℕ) → length xs ≤ length l → overwrite xs l ≡ replace_front xs l
unfolding overwrite
overwrite-fits xs l h = take_all (length l) (replace_front xs l) (let e = length-replace_front xs l h in omega arith)

-- zeros laid, as a front that is replaced
pub overwrite-zeros : (n : ℕ) (buf : List ℕ) → n ≤ length buf → overwrite (replicate n 0) buf ≡ replace_front (replicate n 0) buf
overwrite-zeros n buf h = overwrite-fits (replicate n 0) buf (rw (length-replicate {A = ℕ} n 0) h)

-- the same, of a buffer and of bytes by another name
pub overwrite_as : (xs ys l after : List ℕ) → after ≡ overwrite xs l → xs ≡ ys → length ys ≤ length l → after ≡ replace_front ys l
overwrite_as xs ys l after e same room = e ∙ ap (λ (x : List ℕ). overwrite x l) same ∙ overwrite-fits ys l room

-- the front of what was laid there is that
pub overwrite-front : (xs l after : List ℕ) → length xs ≤ length l → after ≡ overwrite xs l → take (length xs) after ≡ xs
overwrite-front xs l after k e = ap (take (length xs)) (e ∙ overwrite-fits xs l k) ∙ take_at xs (drop (length xs) l) (length xs) refl

-- nothing lies behind a part that goes to the end
tail-nil : (l : List ℕ) (i : ℕ) → drop (length l - i) (drop i l) ≡ []
tail-nil l i = drop_of_length-le (drop i l) {i = length l - i} (simp length-drop (le_refl (length l - i)))

pub rest-is : (l : List ℕ) (i : ℕ) → rest l i ≡ drop i l
rest-is l i = take_all (length l - i) (drop i l) (simp length-drop (le_refl (length l - i)))

pub length_rest : (l : List ℕ) (i : ℕ) → length (rest l i) ≡ length l - i
length_rest l i = ap length (rest-is l i) ∙ length-drop i l

-- a writer that was lent the part from i on, and left xs at its front, has spliced xs into the whole
lent : (l : List ℕ) (i : ℕ) (xs : List ℕ) → back l i (replace_front xs (rest l i)) ≡ splice l i xs
lent l i xs =
    simp (rest-is l i, tail-nil l i, append-nil, drop-drop)
    (sym (append_assoc (take i l) xs (drop (i + length xs) l)))

-- a second writer behind a first
pub replace_front-next : (l xs ys : List ℕ) → splice (replace_front xs l) (length xs) ys ≡ replace_front (xs ++ ys) l
replace_front-next l xs ys =
    simp (take_at xs (drop (length xs) l) (length xs) refl, drop-append-add, drop-drop, length-append)

-- the two laws as a caller meets them: ys is what the writer left in the part from n on
pub placed : (l xs ys : List ℕ) (n : ℕ) → ys ≡ replace_front xs (rest l n) → back l n ys ≡ splice l n xs
placed l xs ys n e = ap (back l n) e ∙ lent l n xs

pub next : (l₀ l₁ xs ys zs : List ℕ) (n : ℕ) → length xs ≡ n → l₁ ≡ replace_front xs l₀ → zs ≡ replace_front ys (rest l₁ n) → back l₁ n zs ≡ replace_front (xs ++ ys) l₀
next l₀ l₁ xs ys zs n en e₁ e₂ =
    placed l₁ ys zs n e₂ ∙ ap₂ (λ (l : List ℕ) (k : ℕ). splice l k ys) e₁ (sym en) ∙ replace_front-next l₀ xs ys

-- and where the writers lay down as far as there is room, and there is
pub next-overwrite : (l₀ l₁ xs ys zs : List ℕ) (n : ℕ) → length xs ≡ n → n + length ys ≤ length l₀ → l₁ ≡ replace_front xs l₀ → zs ≡ overwrite ys (rest l₁ n) → back l₁ n zs ≡ replace_front (xs ++ ys) l₀
next-overwrite l₀ l₁ xs ys zs n en h e₁ e₂ =
    let a : length l₁ ≡ length l₀ = ap length e₁ ∙ length-replace_front xs l₀ (omega arith) in
    let b : length (rest l₁ n) ≡ length l₁ - n = length_rest l₁ n in
    next l₀ l₁ xs ys zs n en e₁ (e₂ ∙ overwrite-fits ys (rest l₁ n) (omega arith))

pub placed-overwrite : (l xs ys : List ℕ) (n : ℕ) → n + length xs ≤ length l → ys ≡ overwrite xs (rest l n) → back l n ys ≡ splice l n xs
placed-overwrite l xs ys n h e = placed l xs ys n (e ∙ overwrite-fits xs (rest l n) (omega (arith, length_rest l n)))

-- a front that is replaced again by a longer one
pub over-longer : (xs ys l : List ℕ) → length xs ≤ length ys → replace_front ys (replace_front xs l) ≡ replace_front ys l
over-longer xs ys l h =
    let n : length ys ≡ length xs + (length ys - length xs) = omega arith in
    rw (n, drop-append-add, drop-drop)

-- and over what a writer laid there
pub replace_longer : (xs ys l after : List ℕ) → length xs ≤ length ys → length xs ≤ length l → after ≡ overwrite xs l → replace_front ys after ≡ replace_front ys l
replace_longer xs ys l after h k e = ap (replace_front ys) (e ∙ overwrite-fits xs l k) ∙ over-longer xs ys l h

-- what stands behind n elements, of the first n + m
pub drop-take : (n m : ℕ) (l : List ℕ) → drop n (take (n + m) l) ≡ take m (drop n l)
drop-take zero m l = rw zero-add
drop-take (suc n) m [] = rw suc-add (rw (take-nil m))
drop-take (suc n) m (x ∷ l) = rw suc-add (drop-take n m l)

-- two splices, one behind the other
pub splice-next : (l : List ℕ) (i : ℕ) (xs ys : List ℕ) → i ≤ length l → splice (splice l i xs) (i + length xs) ys ≡ splice l i (xs ++ ys)
splice-next l i xs ys h =
    let p : List ℕ = take i l ++ xs in
    let r : List ℕ = drop (i + length xs) l in
    let n : ℕ = i + length xs in
    let e : length p ≡ n = simp (length-append, length-take-le i l h) in
    rw (take_at p r n e, ← (drop-drop (length ys) n (p ++ r)), drop_at p r n e, drop-drop (length ys) n l) (simp (append_assoc, length-append, add_assoc))

-- the bytes that stand behind the queued ones
pub written : (buf : List ℕ) (queued : ℕ) (xs : List ℕ) (n : ℕ) → length xs ≡ n → queued ≤ length buf → take n (drop queued (splice buf queued xs)) ≡ xs
written buf queued xs n e h = splice_at buf queued xs h n e

-- what stands from q on, and behind it what was put at Q
pub put-behind : (buf : List ℕ) (q Q : ℕ) (A : List ℕ) → q ≤ Q → Q + length A ≤ length buf
    → take (Q + length A - q) (drop q (splice buf Q A)) ≡ take (Q - q) (drop q buf) ++ A
put-behind buf q Q A h l =
    let m : q + (Q + length A - q) ≡ Q + length A = omega arith in
    let k : q + (Q - q) ≡ Q = omega arith in
    let t : length (take Q buf) ≡ Q = length-take-le Q buf (omega arith) in
    sym (rw m at (drop-take q (Q + length A - q) (splice buf Q A)))
    ∙ rw (splice_upto buf Q A (omega arith), drop-append-le q (take Q buf) A (omega arith)) (ap (λ (x : List ℕ). x ++ A) (rw k at (drop-take q (Q - q) buf)))

-- ---- bytes behind those that are queued

-- xs behind the queued bytes of buf, and the buffer and the queued count then
pub record Queue (buf : List ℕ) (queued : ℕ) (xs after : List ℕ) (count : ℕ) : Type 0 where
  pub buffer : after ≡ splice buf queued xs
  pub queue : count ≡ queued + length xs
  pub room : queued + length xs ≤ length buf

pub queue-none : (buf : List ℕ) (queued : ℕ) → queued ≤ length buf → Queue buf queued [] buf queued
queue-none buf queued h = record {
  buffer = sym (ap₂ (λ (l : List ℕ) (k : ℕ). l ++ drop k buf) (append-nil (take queued buf)) (add-zero queued) ∙ take-append-drop queued buf);
  queue = sym (add-zero queued);
  room = omega arith;
}

-- n bytes xs, which leave a buffer, and ys behind them
pub queue-more : {buf after end ys : List ℕ} {queued n count : ℕ} (xs : List ℕ) → after ≡ splice buf queued xs → length xs ≡ n → queued + n ≤ length buf
    → (queued + n ≤ length after → Queue after (queued + n) ys end count) → Queue buf queued (xs ++ ys) end count
queue-more {buf} {ys = ys} {queued = queued} xs e l h more =
    let s : length (splice buf queued xs) ≡ length buf = length-splice buf queued xs (omega arith) in
    let q = more (rw (e, s) h) in
    let a = length-append xs ys in
    record {
      buffer = q.buffer ∙ rw (e, ← l) (splice-next buf queued xs ys (omega arith));
      queue = q.queue ∙ omega arith;
      room = (let z = ap length e in let r = q.room in omega arith);
    }
