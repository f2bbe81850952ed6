-- Laws of records: lines, buffers that count up, steps, records that are run as they are read, and lists of numbers.
use mathlib.Core.Path.{◌≡◌, refl, sym, ap, subst, ◌∙◌}
use mathlib.Core.Bool.{Bool, true, false, cond}
use mathlib.Core.List.{List, [], ◌∷◌, ◌++◌, append_assoc}
use Prim.Native.Nat.{ℕ, zero, suc, ◌+◌, ◌-◌, ◌%◌, ◌≤◌, ◌<◌}
use native.Mathlib.Nat.{not-suc-le-zero, le_of_suc-le-suc}
use native.Mathlib.Numerals.{add-one}
use native.Mathlib.Omega.{arith}
use borrow.Author.Tests.{leb-true, lt-ltb}
use lib.Dec.{ltb, leb}
use lib.ListN.{length, take, drop, get_or, set, length-append}
use lib.Seq.{drop-cons, set_at, take-suc, take-suc-set}
use Rattle.refusal.proofs.Booleans.{at_cond, both_left, both_right}
use Rattle.buffer.specs.Le.{le_of}
use Rattle.crc32c.specs.Crc.{crc_of}
use Rattle.refusal.specs.Writes.{WriteOutcome, Done, done}
use Rattle.fields.specs.Field.{words_of}
use Rattle.fields.proofs.Skips.{length-words}
use Rattle.text.specs.Line.{Piece}
use Rattle.text.specs.Page.{Page, page, IsWithin}
use Rattle.text.proofs.Laws.{puts-within}
use Rattle.std.specs.Prelude.{Option, None, Some}
use Rattle.records.specs.Records.{outcome_line, done_line, Record, Did, taken_of, taking, sized, size_in, whole, is_whole, bad_record, line_then, read_all, roomed, print, prints, counted}

-- ---- buffers

pub length-counted : (first n : ℕ) → length (counted first n) ≡ n
unfolding counted
length-counted first zero = refl
length-counted first (suc n) = length-append (counted first n) _ ∙ (let e = length-counted first n in omega arith)

-- one more byte that counts up
pub counted-more : (l : List ℕ) (first i : ℕ) → i < length l → set (counted first i ++ drop i l) i ((first + i) % 256) ≡ counted first (i + 1) ++ drop (i + 1) l
unfolding counted
counted-more l first i h =
    rw (drop-cons l i 0 h, set_at (counted first i) (get_or l i 0) (drop (suc i) l) ((first + i) % 256) i (length-counted first i), add-one)
    (sym (append_assoc (counted first i) ((first + i) % 256 ∷ []) (drop (suc i) l)))

-- ---- steps

pub whole-within : (n : ℕ) (s : List ℕ) → is_whole n s ≡ true → n ≤ length s
whole-within n s e = leb-true n (length s) (both_right (ltb 0 n) (leb n (length s)) e)

-- a record of which there are bytes is taken
pub taken-whole : (n : ℕ) → ltb 0 n ≡ true → Some n ≡ taking n
taken-whole n e = rw e refl

-- a step that took n bytes, and at least one, answers them
pub taken-some : (r : Option ℕ) (n : ℕ) → taken_of r ≡ n → 0 < n → r ≡ taking n
taken-some None n e h = absurd (omega arith)
taken-some (Some m) n e h = rw e (taken-whole n (lt-ltb 0 n h))

pub taken-taking : (n : ℕ) → taken_of (taking n) ≡ n
taken-taking zero = refl
taken-taking (suc n) = rw (lt-ltb 0 (suc n) (omega arith)) refl

module _ {s : List ℕ} {before after : Page} {r : Option ℕ} where
  -- code that found a record bad, or whole
  pub did_bad : (n : ℕ) (lines : List (List Piece)) {x : Option ℕ} → x ≡ size_in n s → x ≡ None → Did bad_record s before after r → Did (whole n s lines) s before after r
  unfolding whole
  did_bad n lines e h d = go (is_whole n s) (sym h ∙ e)
    where
      go : (b : Bool) → None ≡ cond b (Some n) None → Did (cond b (record { size = n; lines = lines }) bad_record) s before after r
      go false e = d
      go true e = cc

  pub did_whole : (n : ℕ) (lines : List (List Piece)) {m : ℕ} → Some m ≡ size_in n s → taken_of r ≡ m → after ≡ prints lines before → Did (whole n s lines) s before after r
  unfolding whole
  did_whole n lines {m} e t p = go (is_whole n s) refl e
    where
      go : (b : Bool) → is_whole n s ≡ b → Some m ≡ cond b (Some n) None → Did (cond b (record { size = n; lines = lines }) bad_record) s before after r
      go true h e =
          let k : m ≡ n = cc in
          let w = whole-within n s h in
          let some = leb-true 1 n (both_left (ltb 0 n) (leb n (length s)) h) in
          record { taken = taken-some r n (t ∙ k) some; printed = p; within = omega arith }
      go false h e = cc

  -- of a call that writes: what it came to and its buffer's checksum are printed
  pub did_done : (n : ℕ) (w : WriteOutcome) (buf : List ℕ) {d : Done} {m sum : ℕ} → Some m ≡ size_in n s → taken_of r ≡ m
      → done w buf ≡ d
      → sum ≡ crc_of 4294967295 buf
      → after ≡ print (outcome_line w sum) before
      → Did (whole n s (done_line d ∷ [])) s before after r
  unfolding prints
  did_done n w buf e t f g p = did_whole n _ e t (p ∙ rw (g, ← f))

pub size-good : (n : ℕ) (s : List ℕ) {m : ℕ} → Some m ≡ size_in n s → is_whole n s ≡ true
size-good n s {m} e = go (is_whole n s) e
  where
    go : (b : Bool) → Some m ≡ cond b (Some n) None → b ≡ true
    go true e = refl
    go false e = cc

pub size-bad : (n : ℕ) (s : List ℕ) → None ≡ size_in n s → is_whole n s ≡ false
size-bad n s e = go (is_whole n s) e
  where
    go : (b : Bool) → None ≡ cond b (Some n) None → b ≡ false
    go true e = cc
    go false e = refl

-- a size of 0 is no record
pub sized-good : (good : Bool) (n : ℕ) (s : List ℕ) → is_whole (sized good n) s ≡ true → good ≡ true
sized-good true n s e = refl
sized-good false n s e = cc

-- what is left of a record that is run as it is read: d from the page q on is all of it from the page p on
pub record Left (all d : Record) (p q : Page) : Type 0 where
  pub size : d.size ≡ all.size
  pub lines : prints d.lines q ≡ prints all.lines p

pub left-all : {d : Record} {p : Page} → Left d d p p
left-all = record { size = refl; lines = refl }

pub left_is : {all d e : Record} {p q : Page} → e ≡ d → Left all d p q → Left all e p q
left_is {all} {d} {e} {p} {q} k l = rw k l

pub left-next : {all d : Record} {line : List Piece} {p q r : Page} → Left all (line_then line d) p q → r ≡ print line q → Left all d p r
unfolding prints
left-next {all} {d} {line} {p} {q} {r} l e = record { size = l.size; lines = ap (prints d.lines) e ∙ l.lines }

module _ {all : Record} {s : List ℕ} {before after : Page} {r : Option ℕ} where
  pub did_all : (n : ℕ) → Left all (read_all n) before after → r ≡ taking n → n ≤ length s → Did all s before after r
  unfolding prints
  did_all n l t h = record { taken = t ∙ ap taking l.size; printed = l.lines; within = rw (t, taken-taking n) h }

  pub did_broken : {q : Page} → Left all bad_record before q → Did bad_record s q after r → Did all s before after r
  did_broken l d = record { taken = d.taken ∙ ap taking l.size; printed = d.printed ∙ l.lines; within = d.within }

-- a record's bytes are taken, be there any or none
pub did-taken : {d : Record} {s : List ℕ} {before after : Page} {r : Option ℕ} → Did d s before after r → taken_of r ≡ d.size
did-taken {d} h = ap taken_of h.taken ∙ taken-taking d.size

-- ---- pages: a text that ends within its buffer still does

roomed-within : (p : Page) → IsWithin p → IsWithin (roomed p)
unfolding roomed page
roomed-within p h = at_cond (λ (i : ℕ). i ≤ length p.bytes) (leb 32768 (length p.bytes - p.at)) h (omega arith)

pub prints-within : (ls : List (List Piece)) (p : Page) → IsWithin p → IsWithin (prints ls p)
unfolding prints
prints-within [] p h = h
prints-within (l ∷ ls) p h = prints-within ls (print l p) (puts-within l (roomed p) (roomed-within p h))

pub did-within : {d : Record} {s : List ℕ} {before after : Page} {r : Option ℕ} → Did d s before after r → IsWithin before → IsWithin after
did-within {d} {s} {before} h w = subst IsWithin (sym h.printed) (prints-within d.lines before w)

-- ---- lists

pub words_take : (n m : ℕ) (t : List ℕ) → n ≤ m → take n (words_of m t) ≡ words_of n t
unfolding words_of
words_take zero m t h = refl
words_take (suc n) zero t h = absurd (not-suc-le-zero h)
words_take (suc n) (suc m) t h = ap (λ (l : List ℕ). le_of (take 4 t) ∷ l) (words_take n m (drop 4 t) (le_of_suc-le-suc h))

-- 64 numbers hold any list
pub words-room : (t : List ℕ) {n : ℕ} {xs : List ℕ} → xs ≡ words_of 64 t → n ≤ 64 → n ≤ length xs
words-room t e h = rw (e, length-words 64 t) h

-- one more number is stored
pub stored_more : (xs l : List ℕ) (i v : ℕ) → i < length l → i < length xs → take i l ≡ take i xs → v ≡ get_or xs i 0 → take (i + 1) (set l i v) ≡ take (i + 1) xs
stored_more xs l i v h k e f = rw (add-one, take-suc-set l i v h, take-suc xs i 0 k, e, f)
