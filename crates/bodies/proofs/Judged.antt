-- Reading the bytes of filled fields: whole where each is sound, and else malformed at the first fault.
use mathlib.Core.Path.{◌≡◌, refl, sym, ap, ap₂, ◌∙◌}
use mathlib.Core.Bool.{Bool, true, false, cond}
use mathlib.Core.List.{List, [], ◌∷◌, ◌++◌, append_assoc, append-nil}
use Prim.Native.Nat.{ℕ, suc, ◌+◌, ◌-◌, ◌*◌, ◌≤◌, ◌<◌}
use native.Mathlib.Nat.{add-zero}
use native.Mathlib.Omega.{arith}
use lib.Arith.{lt_of_le-ne}
use lib.Dec.{ltb, eqb}
use borrow.Author.Tests.{le-leb, lt-leb, lt-ltb, le-ltb, eq-eqb, ne_eqb, leb-true, leb-false, eqb-true, eqb-false}
use lib.ListN.{length, get_or, length-append}
use lib.Seq.{take_at, drop-append_seam, drop-append-add}
use Rattle.refusal.proofs.Booleans.{by_test, by_less, wrong}
use Rattle.buffer.specs.Le.{le, words}
use Rattle.buffer.proofs.Numbers.{le_of-le, length-le, number-there}
use Rattle.preamble.specs.Judge.{segment_limit}
use Rattle.fields.specs.Layout.{Cursor, Kind, good, fault, past, step_of}
use Rattle.fields.specs.Layout as kind
use Rattle.fields.specs.Field.{Field, number, negative, numbers, payload, opaque, fixed, kind_of, words_of, field_bytes, field_at, Fits}
use Rattle.fields.specs.Writing.{sound, fault_in}
use Rattle.bodies.specs.declared.Request.{Request}
use Rattle.bodies.specs.declared.Request.TheVariants as request
use Rattle.bodies.specs.Rows.{requested}
use Rattle.bodies.specs.Read.{run, fields_of, Answer, whole, malformed, settled, read_of}
use Rattle.bodies.specs.Write.{kinds_of, bytes_of}
use Rattle.bodies.specs.Claims.{AllFit, none, one}
use Rattle.bodies.proofs.Rows.{stuck}

-- the first fault
unfoldable pub judge : List Field → ℕ → Cursor
judge [] at = good at
judge (f ∷ fs) at = cond (sound f) (judge fs (at + length (field_bytes f))) (fault (at + fault_in f))

-- behind opaque bytes stand as many as are said to close the body, and behind fixed ones none
unfoldable pub Closes : Field → List Field → Type 0
Closes (number w n) fs = Unit {0}
Closes (negative n) fs = Unit {0}
Closes (numbers ns) fs = Unit {0}
Closes (payload bs) fs = Unit {0}
Closes (opaque k bs) fs = length (bytes_of fs) ≡ k
Closes (fixed w bs) fs = fs ≡ []

pub data Closed : List Field → Type 0 where
  nil : Closed []
  cons : {f : Field} {fs : List Field} → Closes f fs → Closed fs → Closed (f ∷ fs)

pub closed-request : (r : Request) (ms ns bs : List ℕ) → Closed (requested r ms ns bs)
unfolding Closes bytes_of
closed-request (request.Hello n) ms ns bs = cons tt (cons refl nil)
closed-request (request.AuthRequest m) ms ns bs = cons tt (cons tt (cons refl nil))
closed-request (request.BadMethod m e) ms ns bs = cons tt (cons tt (cons tt (cons tt nil)))
closed-request request.More ms ns bs = cons tt nil
closed-request (request.AuthDone g m) ms ns bs = cons tt (cons tt (cons refl nil))
closed-request (request.Ident n i) ms ns bs = cons tt (cons refl (cons tt (cons tt (cons tt (cons tt (cons tt (cons tt nil)))))))
closed-request (request.Reconnect n k) ms ns bs = cons tt (cons refl (cons tt (cons tt (cons tt (cons tt (cons tt nil))))))
closed-request (request.Number n) ms ns bs = cons tt nil
closed-request (request.Reset n) ms ns bs = cons tt nil
closed-request request.Stamp ms ns bs = cons refl nil

-- ---- fields that stand, one behind the other: they read as their layout says

record Holds (k : Kind) (s : List ℕ) (c : Cursor) (f : Field) (d : Cursor) : Type 0 where
  next : d ≡ step_of k s c
  value : f ≡ field_at k s c.at

-- ---- a field that stands behind pre and before post

words-there : (ns post : List ℕ) → ((i : ℕ) → i < length ns → get_or ns i 0 < 4294967296) → words_of (length ns) (words ns ++ post) ≡ ns
unfolding words_of
words-there [] post h = refl
words-there (n ∷ ns) post h = ap₂ (λ (x : ℕ) (l : List ℕ). x ∷ l) (le_of-le 4 n (h 0 (omega arith))) (words-there ns post (λ i g. h (suc i) (omega arith)))

pub length-words : (ns : List ℕ) → length (words ns) ≡ 4 * length ns
length-words [] = refl
length-words (n ∷ ns) = let e = length-words ns in omega arith

room : (pre xs post : List ℕ) → length (pre ++ (xs ++ post)) - length pre ≡ length xs + length post
room pre xs post = simp (length-append) (omega arith)

module _ (pre post : List ℕ) where
  -- past w bytes that are there
  passes : (w : ℕ) (xs : List ℕ) → length xs ≡ w → good (length pre + length xs) ≡ past w (pre ++ (xs ++ post)) (length pre)
  passes w xs e = rw (le-leb w (length (pre ++ (xs ++ post)) - length pre) (let r = room pre xs post in omega arith), e)

took : (f : Field) (fs : List Field) (pre : List ℕ) → Fits f → sound f ≡ true → Closes f fs → length (field_bytes f) ≤ segment_limit → Holds (kind_of f) (pre ++ (field_bytes f ++ bytes_of fs)) (good (length pre)) f (good (length pre + length (field_bytes f)))
unfolding Fits Closes step_of
took (number w n) fs pre h s k l =
    record { next = passes pre (bytes_of fs) w (le w n) (length-le w n); value = ap (number w) (sym (number-there w n pre (bytes_of fs) h)) }
took (negative n) fs pre h s k l =
    let e = number-there 4 n pre (bytes_of fs) h in
    record { next = rw (e, le-ltb n 2147483648 (leb-true 2147483648 n s)) (passes pre (bytes_of fs) 4 (le 4 n) refl); value = ap negative (sym e) }
took (numbers ns) fs pre h s k l =
    let xs : List ℕ = le 4 (length ns) ++ words ns in
    let few = leb-true (length ns) 32 s in
    let n = number-there 4 (length ns) pre (words ns ++ bytes_of fs) (omega arith) in
    let e : length xs ≡ 4 + 4 * length ns = let w = length-words ns in omega arith in
    record {
      next = rw (n, le-ltb 32 (length ns) few, le-leb (4 + 4 * length ns) (length (pre ++ (xs ++ bytes_of fs)) - length pre) (let r = room pre xs (bytes_of fs) in omega arith), e);
      value = rw (n, drop-append-add pre (xs ++ bytes_of fs) 4) (ap numbers (sym (words-there ns (bytes_of fs) h.at)));
    }
took (payload bs) fs pre h s k l =
    let xs : List ℕ = le 4 (length bs) ++ bs in
    let n = number-there 4 (length bs) pre (bs ++ bytes_of fs) (omega arith) in
    record {
      next = rw n (passes pre (bytes_of fs) (4 + length bs) xs (omega arith));
      value = rw (n, drop-append-add pre (xs ++ bytes_of fs) 4) (ap payload (sym (take_at bs (bytes_of fs) (length bs) refl)));
    }
took (opaque n bs) fs pre h s k l =
    let r = room pre bs (bytes_of fs) in
    let a : length (pre ++ (bs ++ bytes_of fs)) - n ≡ length pre + length bs = simp length-append (omega arith) in
    let b : length (pre ++ (bs ++ bytes_of fs)) - n - length pre ≡ length bs = omega arith in
    record {
      next = rw (le-leb n (length (pre ++ (bs ++ bytes_of fs)) - length pre) (omega arith), a);
      value = rw (b, drop-append_seam pre (bs ++ bytes_of fs)) (ap (opaque n) (sym (take_at bs (bytes_of fs) (length bs) refl)));
    }
took (fixed w bs) fs pre h s k l =
    let e = eqb-true (length bs) w s in
    record { next = passes pre (bytes_of fs) w bs e; value = rw (drop-append_seam pre (bs ++ bytes_of fs)) (ap (fixed w) (sym (take_at bs (bytes_of fs) w e))) }

-- ---- the fault

fixed-stops : (w : ℕ) (bs pre : List ℕ) (a : Answer) → eqb (length bs) w ≡ false → settled (pre ++ (bs ++ [])) (step_of (kind.fixed w) (pre ++ (bs ++ [])) (good (length pre))) a ≡ malformed (length pre + cond (ltb w (length bs)) w 0)
unfolding settled step_of
fixed-stops w bs pre a e =
    let s : List ℕ = pre ++ (bs ++ []) in
    let l : length s ≡ length pre + (length bs + 0) = simp length-append in
    by_less w (length bs)
    (λ h. rw (le-leb w (length s - length pre) (omega arith), lt-ltb w (length bs) h, ne_eqb (length pre + w) (length s) (λ k. omega arith)))
    (λ h. let k : length bs < w = lt_of_le-ne h (eqb-false (length bs) w e) in rw (lt-leb w (length s - length pre) (omega arith), le-ltb w (length bs) h, add-zero))

stops-one : (f : Field) (fs : List Field) (pre : List ℕ) (a : Answer) → sound f ≡ false → Closes f fs → length (field_bytes f) ≤ segment_limit → settled (pre ++ (field_bytes f ++ bytes_of fs)) (run (kinds_of fs) (pre ++ (field_bytes f ++ bytes_of fs)) (step_of (kind_of f) (pre ++ (field_bytes f ++ bytes_of fs)) (good (length pre)))) a ≡ malformed (length pre + fault_in f)
unfolding Closes kinds_of bytes_of settled step_of
stops-one (number w n) fs pre a s k l = wrong (sym s)
stops-one (negative n) fs pre a s k l =
    let h = leb-false 2147483648 n s in
    rw (number-there 4 n pre (bytes_of fs) (omega arith), lt-ltb n 2147483648 h, stuck, add-zero)
stops-one (numbers ns) fs pre a s k l =
    let h = leb-false (length ns) 32 s in
    let w = length-words ns in
    rw (number-there 4 (length ns) pre (words ns ++ bytes_of fs) (omega arith), lt-ltb 32 (length ns) h, stuck, add-zero)
stops-one (payload bs) fs pre a s k l = wrong (sym s)
stops-one (opaque n bs) fs pre a s k l = wrong (sym s)
stops-one (fixed w bs) fs pre a s k l = rw k (fixed-stops w bs pre a s)

stops : (s : List ℕ) (fs : List Field) (pre : List ℕ) → AllFit fs → Closed fs → s ≡ pre ++ bytes_of fs → length (bytes_of fs) ≤ segment_limit → (judge fs (length pre)).failed ≡ true → (a : Answer) → settled s (run (kinds_of fs) s (good (length pre))) a ≡ malformed (judge fs (length pre)).at
unfolding judge kinds_of bytes_of
stops s [] pre none nil e l h a = wrong h
stops s (f ∷ fs) pre (one x xs) (cons y ys) e l h a =
    let w : length (field_bytes f) + length (bytes_of fs) ≤ segment_limit = rw (← (length-append (field_bytes f) (bytes_of fs))) l in
    by_test (sound f) (λ t.
    let n : good (length pre + length (field_bytes f)) ≡ step_of (kind_of f) s (good (length pre)) = rw e (took f fs pre x t y (omega arith)).next in
    let q : (judge fs (length pre + length (field_bytes f))).failed ≡ true = rw t at h in
    let ih = rw (length-append pre (field_bytes f)) at (stops s fs (pre ++ field_bytes f) xs ys (e ∙ sym (append_assoc pre (field_bytes f) (bytes_of fs))) (omega arith) (rw (length-append pre (field_bytes f)) q) a) in
    ap (λ (c : Cursor). settled s (run (kinds_of fs) s c) a) (sym n) ∙ rw t ih)
    (λ t. rw (t, e) (stops-one f fs pre a t y (omega arith)))

-- ---- all sound

stands : (b : Bool) (c : Cursor) (at : ℕ) → (cond b c (fault at)).failed ≡ false → (b ≡ true) × (c.failed ≡ false)
stands true c at h = (refl, h)
stands false c at h = wrong (sym h)

rows : (s : List ℕ) (fs : List Field) (pre : List ℕ) → AllFit fs → Closed fs → s ≡ pre ++ bytes_of fs → length (bytes_of fs) ≤ segment_limit → (judge fs (length pre)).failed ≡ false → (run (kinds_of fs) s (good (length pre)) ≡ good (length s)) × (fields_of (kinds_of fs) s (good (length pre)) ≡ fs)
unfolding judge kinds_of bytes_of
rows s [] pre none nil e l h = (rw (e, append-nil), refl)
rows s (f ∷ fs) pre (one x xs) (cons y ys) e l h =
    let a : length (field_bytes f ++ bytes_of fs) ≡ length (field_bytes f) + length (bytes_of fs) = length-append (field_bytes f) (bytes_of fs) in
    let b = stands (sound f) (judge fs (length pre + length (field_bytes f))) (length pre + fault_in f) h in
    let t = took f fs pre x b.0 y (omega arith) in
    let n : good (length pre + length (field_bytes f)) ≡ step_of (kind_of f) s (good (length pre)) = rw e t.next in
    let v : f ≡ field_at (kind_of f) s (length pre) = rw e t.value in
    let q : (judge fs (length (pre ++ field_bytes f))).failed ≡ false = rw length-append b.1 in
    let ih = rw length-append at (rows s fs (pre ++ field_bytes f) xs ys (e ∙ sym (append_assoc pre (field_bytes f) (bytes_of fs))) (omega arith) q) in
    (ap (run (kinds_of fs) s) (sym n) ∙ ih.0, ap₂ ◌∷◌ (sym v) (ap (fields_of (kinds_of fs) s) (sym n) ∙ ih.1))

-- WHAT THE BYTES OF FILLED FIELDS READ AS
pub read-judged : (fs : List Field) → AllFit fs → Closed fs → length (bytes_of fs) ≤ segment_limit → read_of (kinds_of fs) (bytes_of fs) ≡ cond (judge fs 0).failed (malformed (judge fs 0).at) (whole fs)
unfolding settled
read-judged fs x y l =
    by_test (judge fs 0).failed (λ t. rw t (stops (bytes_of fs) fs [] x y refl l t _)) (λ t.
    let r = rows (bytes_of fs) fs [] x y refl l t in
    rw (t, r.0, r.1, eq-eqb (length (bytes_of fs)) (length (bytes_of fs)) refl))
