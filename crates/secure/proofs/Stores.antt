-- The end of a frame leaves the same store, whatever bytes of its parts were put there.
use Rattle.std.proofs.Common.{◌≡◌, ℕ, ◌+◌, ◌-◌, ◌≤◌, List, ◌++◌, length, take, drop, replicate, sym, ap, ◌∙◌, arith, length-append, take-append-drop, length-take-le}
use lib.ListN.{length-replicate}
use Rattle.buffer.specs.Splice.{replace_front, splice, overwrite}
use Rattle.buffer.proofs.Parts.{rest, back, overwrite-fits, next-overwrite, over-longer}
use Rattle.buffer.proofs.Splices.{splice-covered}
use Rattle.preamble.specs.declared.Header.{Header}
use Rattle.preamble.specs.Layout.{total}
use Rattle.body.specs.End.{Ended, whole, dropped, refused_for}
use Rattle.stream.specs.declared.Event.TheVariants.{Frame, Dropped}
use Rattle.stream.specs.Stream.{Trace, after, refused_at}
use Rattle.secure.specs.Layout.{needed}
use Rattle.secure.specs.Reading.{zeroed, holding, at_end}
use Rattle.secure.proofs.Bounds.{segments-fit}

length-held : (h : Header) (p : List ℕ) → needed h ≤ length (p ++ replicate (needed h - length p) 0)
length-held h p =
    let l = length-append p (replicate (needed h - length p) 0) in
    let m = length-replicate {A = ℕ} (needed h - length p) 0 in
    omega (arith, l, m)

pub zeroed-over : (h : Header) (s xs : List ℕ) (i : ℕ) → i ≤ length s → i + length xs ≤ needed h → zeroed h (splice s i xs) ≡ zeroed h s
zeroed-over h s xs i k l = let m = length-replicate {A = ℕ} (needed h) 0 in splice-covered s i xs k (replicate (needed h) 0) (omega (arith, m))

pub holding-over : (h : Header) (p s xs : List ℕ) (i : ℕ) → i ≤ length s → i + length xs ≤ needed h → holding h p (splice s i xs) ≡ holding h p s
holding-over h p s xs i k l = let m = length-held h p in splice-covered s i xs k (p ++ replicate (needed h - length p) 0) (omega (arith, m))

pub at-end-same : (h : Header) (payload xs store : List ℕ) → length xs ≤ needed h → (o : Ended) (at : ℕ) (next : List ℕ → Trace)
    → at_end o h at payload (replace_front xs store) next ≡ at_end o h at payload store next
at-end-same h payload xs store l whole at next =
    ap (λ (s : List ℕ). after (Frame h) at s (next s)) (over-longer xs (payload ++ replicate (needed h - length payload) 0) store (omega (arith, length-held h payload)))
at-end-same h payload xs store l dropped at next = ap (λ (s : List ℕ). after (Dropped h) at s (next s)) (over-longer xs (replicate (needed h) 0) store (omega (arith, length-replicate {A = ℕ} (needed h) 0)))
at-end-same h payload xs store l (refused_for n) at next = ap (refused_at n at) (over-longer xs (replicate (needed h) 0) store (omega (arith, length-replicate {A = ℕ} (needed h) 0)))

-- nor do the bytes that the frame needs matter

front_same : (xs s s' : List ℕ) (n : ℕ) → length xs ≡ n → drop n s' ≡ drop n s → replace_front xs s' ≡ replace_front xs s
front_same xs s s' n e d =
    ap (λ (t : List ℕ). xs ++ t) (ap (λ (k : ℕ). drop k s') e ∙ d ∙ ap (λ (k : ℕ). drop k s) (sym e))

module _ (h : Header) (s s' : List ℕ) (d : drop (needed h) s' ≡ drop (needed h) s) where
  pub zeroed-same : zeroed h s' ≡ zeroed h s
  zeroed-same = front_same (replicate (needed h) 0) s s' (needed h) (length-replicate (needed h) 0) d

  pub holding-same : (payload : List ℕ) → length payload ≤ needed h → holding h payload s' ≡ holding h payload s
  holding-same payload l =
      let zeros : List ℕ = replicate (needed h - length payload) 0 in
      front_same (payload ++ zeros) s s' (needed h)
      (length-append payload zeros ∙ omega (arith, length-replicate {A = ℕ} (needed h - length payload) 0)) d

-- zeros over all that the frame needs
pub zeros-over : (h : Header) (s zs : List ℕ) (n : ℕ) → n ≡ needed h → needed h ≤ length s → zs ≡ overwrite (replicate n 0) s → zs ≡ zeroed h s
zeros-over h s zs n en room e =
    e ∙ ap (λ (k : ℕ). overwrite (replicate k 0) s) en
    ∙ overwrite-fits (replicate (needed h) 0) s (omega (arith, length-replicate {A = ℕ} (needed h) 0))

-- and behind the segments, which stand at the front
pub zeros-behind : (h : Header) (s zs : List ℕ) (n m : ℕ) → n ≡ total h → m ≡ needed h → needed h ≤ length s
    → zs ≡ overwrite (replicate (m - n) 0) (rest s n) → back s n zs ≡ holding h (take (total h) s) s
zeros-behind h s zs n m en em room e =
    let f : total h ≤ needed h = segments-fit h in
    let l : length (take n s) ≡ n = length-take-le n s (omega arith) in
    let l' : length (take (total h) s) ≡ total h = length-take-le (total h) s (omega arith) in
    let self : s ≡ replace_front (take n s) s = sym (take-append-drop n s) ∙ ap (λ (k : ℕ). take n s ++ drop k s) (sym l) in
    let left : m - n ≡ needed h - length (take (total h) s) = omega arith in
    next-overwrite s s (take n s) (replicate (m - n) 0) zs n l (omega (arith, length-replicate {A = ℕ} (m - n) 0)) self e
    ∙ ap (λ (k : ℕ). replace_front (take k s ++ replicate (m - n) 0) s) en
    ∙ ap (λ (k : ℕ). replace_front (take (total h) s ++ replicate k 0) s) left
