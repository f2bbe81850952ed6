-- The laws behind counting and appending.
use mathlib.Core.Path.{◌≡◌, refl, sym, ap, ◌∙◌}
use mathlib.Core.Bool.{Bool, true, false, cond}
use Rattle.std.specs.Prelude.{Option, Some, None}
use Rattle.std.specs.Option.{option_or}
use mathlib.Core.List.{List, [], ◌∷◌, ◌++◌}
use Prim.Native.Nat.{ℕ, zero, suc, ◌+◌, ◌<◌}
use native.Mathlib.Omega.{arith}
use native.Mathlib.Nat.{not-suc-le-zero, le_of_suc-le-suc}
use native.Mathlib.Numerals.{add-one}
use lib.ListN.{length, take, get_or, length-append}
use Rattle.buffer.specs.Le.{le, words}
use Rattle.refusal.proofs.Booleans.{by_less}
use Rattle.fields.specs.declared.Draft.{Draft}
use Rattle.fields.specs.Field.{Field, number, field_bytes, Fits}
use Rattle.fields.specs.Writing.{sound, fault_in, capped, counted, put_at, Put, Appended}
use Rattle.fields.proofs.Puts.{put-none, put_next}

-- sound bytes have no fault of their own
same_fault : (o : Option ℕ) (ok : Bool) (m : ℕ) → option_or (option_or o (cond ok None (Some m))) None ≡ option_or o (cond ok None (Some m))
same_fault None true m = refl
same_fault None false m = refl
same_fault (Some x) ok m = refl

-- sound bytes behind others
counted-two : (ok : Bool) (into k a b : ℕ) (p : Draft) → counted true k b (counted ok into a p) ≡ counted ok into (a + b) p
unfolding counted
counted-two ok into k a b p =
    let e : capped (capped (p.len + a) + b) ≡ capped (p.len + (a + b)) = omega arith in
    rw (e, same_fault p.fault ok (capped (p.len + into)))

pub put-len : {xs : List ℕ} {ok : Bool} {into : ℕ} {p q : Draft} {l m : List ℕ} → Put xs ok into p l q m → q.len ≡ capped (p.len + length xs)
unfolding counted
put-len h = ap (λ (d : Draft). d.len) h.next

-- two parts, one behind the other
pub put_two : {xs ys : List ℕ} {ok : Bool} {into k : ℕ} {p q r : Draft} {l m n : List ℕ} → Put xs ok into p l q m → Put ys true k q m r n → Put (xs ++ ys) ok into p l r n
put_two {xs} {ys} {ok} {into} {k} {p} {q} {r} {l} {m} {n} a b =
    let s : length (xs ++ ys) ≡ length xs + length ys = length-append xs ys in
    let e : q.len ≡ capped (p.len + length xs) = put-len a in
    record {
      next = b.next ∙ ap (counted true k (length ys)) a.next ∙ counted-two ok into k (length xs) (length ys) p ∙ ap (λ (i : ℕ). counted ok into i p) (sym s);
      buffer = λ h. b.buffer (omega arith) ∙ ap (put_at q.len ys) (a.buffer (omega arith)) ∙ put_next p.len q.len xs ys l (omega arith);
    }

-- the same bytes
pub put_as : {xs ys : List ℕ} {ok : Bool} {into : ℕ} {p q : Draft} {l m : List ℕ} → xs ≡ ys → Put xs ok into p l q m → Put ys ok into p l q m
put_as e h = rw e at h

-- a field whose bytes were put
pub appended : {xs : List ℕ} {p q : Draft} {l m : List ℕ} (f : Field) → Fits f → xs ≡ field_bytes f → Put xs (sound f) (fault_in f) p l q m → Appended f p l q m
appended f h e x = record { fits = h; bytes = put_as e x }

-- a count, and what it counts
pub appended-counted : {xs ys : List ℕ} {ok : Bool} {into k : ℕ} {p q r : Draft} {l m n : List ℕ} (f : Field) (c : ℕ) → Fits f → xs ≡ le 4 c → field_bytes f ≡ le 4 c ++ ys → ok ≡ sound f → into ≡ fault_in f → Put xs ok into p l q m → Put ys true k q m r n → Appended f p l r n
appended-counted {xs} {ys} f c h a b s i x y = record { fits = h; bytes = rw (b, ← s, ← i) (put_two (put_as a x) y) }

words_more : (i : ℕ) (ns : List ℕ) → i < length ns → words (take (suc i) ns) ≡ words (take i ns) ++ le 4 (get_or ns i 0)
words_more i [] h = absurd (not-suc-le-zero h)
words_more zero (n ∷ ns) h = refl
words_more (suc i) (n ∷ ns) h = ap (λ (t : List ℕ). le 4 n ++ t) (words_more i ns (le_of_suc-le-suc h))

-- what the loop over numbers keeps
pub record Sofar (ns : List ℕ) (i : ℕ) (p : Draft) (l : List ℕ) (q : Draft) (m : List ℕ) : Type 0 where
  pub bytes : Put (words (take i ns)) true 0 p l q m
  pub fits : (j : ℕ) → j < i → get_or ns j 0 < 4294967296

pub one_more : (i : ℕ) (ns : List ℕ) {p q r : Draft} {l m n : List ℕ} → i < length ns → Sofar ns i p l q m → Appended (number 4 (get_or ns i 0)) q m r n → Sofar ns (i + 1) p l r n
unfolding Fits
one_more i ns h a b =
    record {
      bytes = rw (add-one, words_more i ns h) (put_two a.bytes b.bytes);
      fits = λ j l. by_less j i (a.fits j) (λ k. let e : j ≡ i = omega arith in rw e b.fits);
    }

pub none_yet : (ns : List ℕ) {p q : Draft} (l : List ℕ) → q ≡ counted true 0 0 p → Sofar ns 0 p l q l
none_yet ns {p} l e = record { bytes = record { next = e; buffer = λ h. sym (put-none p.len l) }; fits = λ j h. absurd (not-suc-le-zero h) }
