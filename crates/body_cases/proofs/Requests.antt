-- Requests that are read off a record, and the bodies that they write.
use mathlib.Core.Path.{◌≡◌, refl, sym, ap, ◌∙◌}
use mathlib.Core.Bool.{Bool, true, false, ◌&&◌, not}
use mathlib.Core.List.{List, [], ◌∷◌}
use Prim.Native.Nat.{ℕ, ◌+◌, ◌-◌, ◌*◌, ◌≤◌, ◌<◌, min}
use native.Mathlib.Omega.{arith}
use borrow.Author.Tests.{leb-true, le-leb, lt-leb, ne_eqb}
use lib.Dec.{leb}
use lib.ListN.{length, take, drop}
use Rattle.std.specs.Prelude.{Option, None, Result, Ok, IsErrAnd}
use Rattle.std.proofs.lemmas.Result.{err_from_is_err_and, IfOk-weaker}
use Rattle.refusal.proofs.Booleans.{by_test, both_left, wrong}
use Rattle.buffer.specs.Le.{number_at}
use Rattle.fields.specs.declared.Fault.{Fault}
use Rattle.fields.specs.declared.Span.{Span}
use Rattle.fields.specs.Layout.{Kind, Cursor, good, fault, step_of}
use Rattle.fields.specs.Layout as kind
use Rattle.fields.specs.Field.{Field, number, negative, numbers, payload, opaque, fixed, nowhere, bytes_at, words_of}
use Rattle.fields.specs.Reading.{read, failed, take_of, span_in}
use Rattle.bodies.specs.declared.Request.TheVariants as request
use Rattle.bodies.specs.Table.{layout_in, layout_of, unlisted}
use Rattle.bodies.specs.Rows.{requested}
use Rattle.bodies.specs.Write.{write_as, write_body}
use Rattle.bodies.proofs.Rows.{took-read, took-failed}
use Rattle.records.specs.Records.{is_whole, sized, size_in, allowed}
use Rattle.records.proofs.Laws.{sized-good, words_take}
use Rattle.body_cases.specs.declared.writing.Asked.{Asked}
use Rattle.body_cases.specs.Writing.{past_given, fields_given, all_given, kinds_for, given_end, write_size, alone, Given, BytesAt, fields_of, Asks, AsksFor}

-- ---- steps

module _ {s : List ℕ} {at e : ℕ} where
  pub number-given : {w n : ℕ} → read (number w n) nowhere (good e) ≡ take_of (kind.number w) s (good at) → Given (kind.number w) s (good at) (number w n) (good e)
  number-given {w} t = let h = took-read (kind.number w) s (good at) t in record { next = h.next; value = h.value }

  pub error-given : {n : ℕ} → read (number 4 n) nowhere (good e) ≡ take_of (kind.number 4) s (good at) → Given kind.negative s (good at) (negative n) (good e)
  error-given {n} t = let h = took-read (kind.number 4) s (good at) t in let v = h.value in record { next = h.next; value = cc }

  pub stamp-given : {w : ℕ} {p : Span} → read (fixed w (span_in s p)) (bytes_at p) (good e) ≡ take_of (kind.fixed w) s (good at) → Given (kind.fixed w) s (good at) (fixed w (span_in s p)) (good e)
  stamp-given {w} t = let h = took-read (kind.fixed w) s (good at) t in record { next = h.next; value = h.value }

  pub payload-given : {bs : List ℕ} → BytesAt s (good at) bs (good e) → Given kind.payload s (good at) (payload bs) (good e)
  payload-given t = record { next = t.next; value = ap payload t.value }

  pub opaque-given : {bs : List ℕ} (k : ℕ) → BytesAt s (good at) bs (good e) → Given (kind.opaque k) s (good at) (opaque k bs) (good e)
  opaque-given k t = record { next = t.next; value = ap (opaque k) t.value }

-- a step that fails, where the field is read as in a body
pub number_cut : (w : ℕ) (s : List ℕ) (at : ℕ) {p : ℕ} → failed (fault p) ≡ take_of (kind.number w) s (good at) → fault p ≡ step_of (kind.number w) s (good at)
number_cut w s at t = sym (took-failed (kind.number w) s (good at) t)

pub stamp_cut : (w : ℕ) (s : List ℕ) (at : ℕ) {p : ℕ} → failed (fault p) ≡ take_of (kind.fixed w) s (good at) → fault p ≡ step_of (kind.fixed w) s (good at)
stamp_cut w s at t = sym (took-failed (kind.fixed w) s (good at) t)

-- ---- rows of steps

-- a cursor that failed stays so
held : (k : Kind) (s : List ℕ) (p : ℕ) → past_given k s (fault p) ≡ fault p
unfolding step_of
held (kind.number w) s p = refl
held kind.negative s p = refl
held kind.numbers s p = refl
held kind.payload s p = refl
held (kind.opaque k) s p = refl
held (kind.fixed w) s p = refl

held-all : (ks : List Kind) (s : List ℕ) (p : ℕ) → all_given ks s (fault p) ≡ fault p
unfolding all_given
held-all [] s p = refl
held-all (k ∷ ks) s p = rw (held k s p) (held-all ks s p)

-- ---- lists and bytes, by the steps that read them

-- a number that is there ends behind its bytes
number_end : (w : ℕ) (s : List ℕ) (at n : ℕ) → good n ≡ step_of (kind.number w) s (good at) → n ≡ at + w
unfolding step_of
number_end w s at n e =
    by_test (leb w (length s - at)) (λ t. ap (λ (c : Cursor). c.at) (rw t at e)) (λ t. wrong (ap (λ (c : Cursor). c.failed) (rw t at e)))

module _ (s : List ℕ) (at : ℕ) where
  pub count_cut : {p : ℕ} → failed (fault p) ≡ take_of (kind.number 1) s (good at) → fault p ≡ past_given kind.numbers s (good at)
  count_cut {p} t = rw (took-failed (kind.number 1) s (good at) t, held (kind.fixed (4 * number_at 1 at s)) s p)

  module _ (n begin : ℕ) (t : read (number 1 n) nowhere (good begin) ≡ take_of (kind.number 1) s (good at)) where
    count_is : n ≡ number_at 1 at s
    count_is = let v = (took-read (kind.number 1) s (good at) t).value in cc

    pub numbers_cut : {p : ℕ} → failed (fault p) ≡ take_of (kind.fixed (4 * n)) s (good begin) → fault p ≡ past_given kind.numbers s (good at)
    numbers_cut u = rw (← (took-read (kind.number 1) s (good at) t).next, ← count_is, took-failed (kind.fixed (4 * n)) s (good begin) u)

    module _ (q : Span) (e : ℕ) (u : read (fixed (4 * n) (span_in s q)) (bytes_at q) (good e) ≡ take_of (kind.fixed (4 * n)) s (good begin)) where
      pub numbers_over : 64 < n → fault e ≡ past_given kind.numbers s (good at)
      numbers_over h = rw (← (took-read (kind.number 1) s (good at) t).next, ← count_is, ← (took-read (kind.fixed (4 * n)) s (good begin) u).next, lt-leb n 64 h)

      pub numbers-given : n ≤ 64 → Given kind.numbers s (good at) (numbers (words_of n (drop q.at s))) (good e)
      numbers-given h =
          let b : begin ≡ at + 1 = number_end 1 s at begin (took-read (kind.number 1) s (good at) t).next in
          let p = (took-read (kind.fixed (4 * n)) s (good begin) u).place in
          let a : q.at ≡ begin = cc in
          let m : min (number_at 1 at s) 64 ≡ n = omega (arith, count_is) in
          record {
            next = rw (← (took-read (kind.number 1) s (good at) t).next, ← count_is, ← (took-read (kind.fixed (4 * n)) s (good begin) u).next, le-leb n 64 h);
            value = rw (a, b, m);
          }

  pub bytes_cut : {p : ℕ} → failed (fault p) ≡ take_of kind.payload s (good at) → fault p ≡ past_given kind.payload s (good at)
  bytes_cut t = rw (took-failed kind.payload s (good at) t)

  module _ (q : Span) (e : ℕ) (u : read (payload (span_in s q)) (bytes_at q) (good e) ≡ take_of kind.payload s (good at)) where
    long_is : q.len ≡ number_at 4 at s
    long_is = let p = (took-read kind.payload s (good at) u).place in cc

    pub bytes_over : allowed q.len ≡ false → fault e ≡ past_given kind.payload s (good at)
    bytes_over h = rw (← (took-read kind.payload s (good at) u).next, ← long_is, h)

    pub bytes-given : allowed q.len ≡ true → BytesAt s (good at) (span_in s q) (good e)
    bytes-given h =
        let v = (took-read kind.payload s (good at) u).value in
        record { next = rw (← (took-read kind.payload s (good at) u).next, ← long_is, h); value = cc }

pub data Row (s : List ℕ) : Cursor → List Kind → List Field → Cursor → Type 0 where
  end : {c : Cursor} → Row s c [] [] c
  step : {k : Kind} {c d e : Cursor} {f : Field} {ks : List Kind} {fs : List Field} → Given k s c f d → Row s d ks fs e → Row s c (k ∷ ks) (f ∷ fs) e

-- the same as far as a field that fails
pub data Cut (s : List ℕ) : Cursor → List Kind → ℕ → Type 0 where
  stop : {k : Kind} {c : Cursor} {ks : List Kind} {p : ℕ} → fault p ≡ past_given k s c → Cut s c (k ∷ ks) p
  past : {k : Kind} {c d : Cursor} {f : Field} {ks : List Kind} {p : ℕ} → Given k s c f d → Cut s d ks p → Cut s c (k ∷ ks) p

row-end : {s : List ℕ} {c e : Cursor} {ks : List Kind} {fs : List Field} → Row s c ks fs e → all_given ks s c ≡ e
unfolding all_given
row-end end = refl
row-end (step t r) = rw (← t.next) (row-end r)

cut-end : {s : List ℕ} {c : Cursor} {ks : List Kind} {p : ℕ} → Cut s c ks p → all_given ks s c ≡ fault p
unfolding all_given
cut-end {s} (stop {ks = ks} {p = p} e) = rw (← e) (held-all ks s p)
cut-end (past t r) = rw (← t.next) (cut-end r)

row-fields : {s : List ℕ} {c e : Cursor} {ks : List Kind} {fs : List Field} → Row s c ks fs e → fields_given ks s c ≡ fs
unfolding fields_given
row-fields end = refl
row-fields (step {f = f} t r) = rw (← t.next, ← t.value) (ap (λ (l : List Field). f ∷ l) (row-fields r))

pub asked : {s : List ℕ} {ks : List Kind} {fs : List Field} {a : Asked} {e : ℕ}
    → Row s (good 7) ks fs (good e)
    → fields_of s a ≡ fs
    → a.end ≡ e
    → a.first.count ≤ 64
    → a.second.count ≤ 64
    → Asks ks s (Ok a)
asked r f k m n = record { fields = f ∙ sym (row-fields r); end = ap good k ∙ sym (row-end r); few = (m, n) }

-- where a `?` leaves
pub left_at : {s : List ℕ} {ks : List Kind} {r : Result Asked Fault} {e : Fault} → IsErrAnd r (λ why. why ≡ e) → Cut s (good 7) ks e.at → Asks ks s r
left_at {r = r} q t = let h = err_from_is_err_and r q in rw (h.1, h.2) (record { fields = tt; end = sym (cut-end t); few = tt })

-- ---- by tag

pub asks_for : {ks : List Kind} {s : List ℕ} {r : Result Asked Fault} (tag k : ℕ) → tag ≡ k → kinds_for k ≡ ks → Asks ks s r → AsksFor tag s r
asks_for {ks} {s} {r} tag k e q x =
    let t : kinds_for tag ≡ ks = ap kinds_for e ∙ q in
    record {
      writes = IfOk-weaker r _ _ (λ a y. λ out. ap (λ (fs : List Field). write_body tag fs out) (y ∙ ap (λ (l : List Kind). fields_given l s (good 7)) (sym t))) x.fields;
      end = x.end ∙ ap (λ (l : List Kind). all_given l s (good 7)) (sym t);
      few = x.few;
    }

pub not_listed : (tag : ℕ) → (tag ≡ 1 → ⊥) → (tag ≡ 2 → ⊥) → (tag ≡ 3 → ⊥) → (tag ≡ 4 → ⊥) → (tag ≡ 5 → ⊥) → (tag ≡ 6 → ⊥) → (tag ≡ 8 → ⊥) → (tag ≡ 9 → ⊥) → (tag ≡ 10 → ⊥) → (tag ≡ 11 → ⊥) → (tag ≡ 12 → ⊥) → (tag ≡ 15 → ⊥) → (tag ≡ 18 → ⊥) → (tag ≡ 19 → ⊥) → (tag ≡ 20 → ⊥) → layout_of tag ≡ unlisted
unfolding layout_in
not_listed tag n1 n2 n3 n4 n5 n6 n8 n9 n10 n11 n12 n15 n18 n19 n20 =
    rw
    (ne_eqb tag 1 n1, ne_eqb tag 2 n2, ne_eqb tag 3 n3, ne_eqb tag 4 n4, ne_eqb tag 5 n5, ne_eqb tag 6 n6, ne_eqb tag 8 n8, ne_eqb tag 9 n9, ne_eqb tag 10 n10, ne_eqb tag 11 n11, ne_eqb tag 12 n12, ne_eqb tag 15 n15, ne_eqb tag 18 n18, ne_eqb tag 19 n19, ne_eqb tag 20 n20)

pub by_tag : (tag : ℕ) (s : List ℕ) (r : Result Asked Fault) → Asks (kinds_for tag) s r → AsksFor tag s r
by_tag tag s r x = asks_for tag tag refl refl x

pub asks_none : {s : List ℕ} {a : Asked} (tag : ℕ) → layout_of tag ≡ unlisted → a.end ≡ 7 → a.first.count ≤ 64 → a.second.count ≤ 64 → AsksFor tag s (Ok a)
unfolding write_body write_as all_given
asks_none {s} {a} tag e k m n = record { writes = λ out. rw e; end = rw (e, k); few = (m, n) }

-- a number that is no tag's
pub beyond_tags : (tag : ℕ) → ((1 ≤ tag) × (tag ≤ 20) → false ≡ true) → layout_of tag ≡ unlisted
beyond_tags tag h =
    let no : (k : ℕ) → (1 ≤ k) × (k ≤ 20) → tag ≡ k → ⊥ = λ k r e. wrong (h (rw e r)) in
    not_listed tag (no 1 (omega arith, omega arith)) (no 2 (omega arith, omega arith)) (no 3 (omega arith, omega arith)) (no 4 (omega arith, omega arith)) (no 5 (omega arith, omega arith)) (no 6 (omega arith, omega arith)) (no 8 (omega arith, omega arith)) (no 9 (omega arith, omega arith)) (no 10 (omega arith, omega arith)) (no 11 (omega arith, omega arith)) (no 12 (omega arith, omega arith)) (no 15 (omega arith, omega arith)) (no 18 (omega arith, omega arith)) (no 19 (omega arith, omega arith)) (no 20 (omega arith, omega arith))

-- the tags that have no body
pub none_7 : (tag : ℕ) → tag ≡ 7 → layout_of tag ≡ unlisted
unfolding layout_in
none_7 tag e = rw e

pub none_13 : (tag : ℕ) → tag ≡ 13 → layout_of tag ≡ unlisted
unfolding layout_in
none_13 tag e = rw e

pub none_14 : (tag : ℕ) → tag ≡ 14 → layout_of tag ≡ unlisted
unfolding layout_in
none_14 tag e = rw e

pub none_16 : (tag : ℕ) → tag ≡ 16 → layout_of tag ≡ unlisted
unfolding layout_in
none_16 tag e = rw e

pub none_17 : (tag : ℕ) → tag ≡ 17 → layout_of tag ≡ unlisted
unfolding layout_in
none_17 tag e = rw e

pub by_none : (tag : ℕ) (s : List ℕ) (a : Asked) → a ≡ alone request.More 7 → layout_of tag ≡ unlisted → AsksFor tag s (Ok a)
by_none tag s a k e = asks_none tag e (rw k refl) (rw k (omega arith)) (rw k (omega arith))

-- ---- the body

pub fields-same : (s : List ℕ) (a : Asked) (xs ys bs : List ℕ)
    → a.first.count ≤ 64
    → a.second.count ≤ 64
    → xs ≡ words_of 64 (drop a.first.at s)
    → ys ≡ words_of 64 (drop a.second.at s)
    → bs ≡ span_in s a.bytes
    → requested a.request (take a.first.count xs) (take a.second.count ys) bs ≡ fields_of s a
fields-same s a xs ys bs m n ex ey eb =
    rw (ex, ey, eb, words_take a.first.count 64 (drop a.first.at s) m, words_take a.second.count 64 (drop a.second.at s) n)

-- ---- the record

-- no record is whole of which a field is cut off or breaks a limit
cut_size : (b : Bool) (p : ℕ) (s : List ℕ) → None ≡ size_in (sized (b && not true) p) s
cut_size true p s = refl
cut_size false p s = refl

fine_size : (b : Bool) (p : ℕ) (s : List ℕ) → size_in (sized b p) s ≡ size_in (sized (b && not false) p) s
fine_size true p s = refl
fine_size false p s = refl

pub bad_end : (room : ℕ) (s : List ℕ) (p : ℕ) → fault p ≡ given_end s → None ≡ size_in (write_size room s) s
unfolding write_size
bad_end room s p e = rw (← e) (cut_size (leb (number_at 4 2 s) room) p s)

pub good_end : (room n : ℕ) (s : List ℕ) (at : ℕ) {x : Option ℕ} → n ≡ number_at 4 2 s → good at ≡ given_end s → x ≡ size_in (sized (leb n room) at) s → x ≡ size_in (write_size room s) s
unfolding write_size
good_end room n s at k e h = h ∙ rw (k, ← e) (fine_size (leb (number_at 4 2 s) room) at s)

pub write-buffer : (room : ℕ) (s : List ℕ) → is_whole (write_size room s) s ≡ true → number_at 4 2 s ≤ room
unfolding write_size
write-buffer room s e = leb-true (number_at 4 2 s) room (both_left (leb (number_at 4 2 s) room) _ (sized-good _ _ s e))
