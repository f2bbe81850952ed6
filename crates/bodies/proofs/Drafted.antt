-- Fields appended one behind the other decide as the definition does, and leave its bytes.
use mathlib.Core.Path.{◌≡◌, refl, sym, ap, ◌∙◌}
use mathlib.Core.Bool.{Bool, true, false, cond}
use mathlib.Core.List.{List, ◌++◌}
use Prim.Native.Nat.{ℕ, ◌+◌, ◌≤◌, ◌<◌, zero-le}
use native.Mathlib.Omega.{arith}
use lib.Dec.{leb, ltb}
use borrow.Author.Tests.{le-leb, lt-leb, leb-true, leb-false, ltb-true}
use lib.ListN.{length, length-append}
use Rattle.buffer.specs.Splice.{replace_front}
use Rattle.preamble.specs.Judge.{segment_limit}
use Rattle.refusal.proofs.Booleans.{by_test, at_test}
use Rattle.fields.specs.declared.Draft.{Draft}
use Rattle.fields.specs.Layout.{Cursor, good, fault}
use Rattle.fields.specs.Field.{Field, number, negative, numbers, payload, opaque, fixed, field_bytes}
use Rattle.fields.specs.Writing.{sound, fault_in, capped, counted, empty, put_at}
use Rattle.fields.proofs.Puts.{put-none, put_next, put-over}
use Rattle.fields.proofs.Drafts.{put-len}
use Rattle.bodies.specs.declared.Request.{Request}
use Rattle.bodies.specs.declared.Request.TheVariants as request
use Rattle.std.specs.Prelude.{Option, Some, None, Result, Ok, Err}
use Rattle.refusal.specs.declared.Refusal.{Refusal}
use Rattle.refusal.specs.Writes.{wrote, done, outcome_of}
use Rattle.bodies.specs.Table.{listed, layout_of, is_listed}
use Rattle.bodies.specs.Read.{whole, malformed, read_body}
use Rattle.bodies.specs.Rows.{requested}
use Rattle.bodies.specs.Write.{kinds_of, bytes_of, write_as, write_body, writes, AppendedAll, judged, decided}
use Rattle.bodies.specs.Write as w
use Rattle.bodies.specs.Claims.{AllFit, Writes}
use Rattle.bodies.specs.Claims as claims
use Rattle.bodies.proofs.Tags.{is-listed}
use Rattle.bodies.proofs.Judged.{judge, Closed, closed-request, read-judged}

-- ---- the bytes

pub appended_fit : {p q : Draft} {l m : List ℕ} {fs : List Field} → AppendedAll p l fs q m → AllFit fs
appended_fit w.end = claims.none
appended_fit (w.step t r) = claims.one t.fits (appended_fit r)

appended-len : {p q : Draft} {l m : List ℕ} {fs : List Field} (at : ℕ) → AppendedAll p l fs q m → p.len ≡ capped at → q.len ≡ capped (at + length (bytes_of fs))
unfolding bytes_of
appended-len {p} at w.end h = omega arith
appended-len {p} {q} at (w.step {f = f} {fs = fs} {q = r} t s) h =
    let e : r.len ≡ capped (p.len + length (field_bytes f)) = put-len t.bytes in
    let l : length (field_bytes f ++ bytes_of fs) ≡ length (field_bytes f) + length (bytes_of fs) = length-append (field_bytes f) (bytes_of fs) in
    let i = appended-len (at + length (field_bytes f)) s (omega arith) in
    omega arith

appended-bytes : {p q : Draft} {l m : List ℕ} {fs : List Field} (at : ℕ) → AppendedAll p l fs q m → p.len ≡ at → at + length (bytes_of fs) ≤ segment_limit → m ≡ put_at at (bytes_of fs) l
unfolding bytes_of
appended-bytes {p} {q} {l} at w.end e h = sym (put-none at l)
appended-bytes {p} {q} {l} {m} at (w.step {f = f} {fs = fs} {q = r} t s) e h =
    let n : length (field_bytes f ++ bytes_of fs) ≡ length (field_bytes f) + length (bytes_of fs) = length-append (field_bytes f) (bytes_of fs) in
    let k : r.len ≡ capped (p.len + length (field_bytes f)) = put-len t.bytes in
    let j : r.len ≡ at + length (field_bytes f) = omega arith in
    appended-bytes r.len s refl (omega arith)
    ∙ ap (put_at r.len (bytes_of fs)) (t.bytes.buffer (omega arith))
    ∙ ap (λ (i : ℕ). put_at r.len (bytes_of fs) (put_at i (field_bytes f) l)) e
    ∙ put_next at r.len (field_bytes f) (bytes_of fs) l j

-- ---- the first fault

-- where a draft has come to
cursor_in : Option ℕ → ℕ → Cursor
cursor_in (Some at) n = fault at
cursor_in None n = good n

cursor_of : Draft → Cursor
cursor_of p = cursor_in p.fault p.len

by_fault : {P : Type 0} (o : Option ℕ) → ((at : ℕ) → o ≡ Some at → P) → (o ≡ None → P) → P
by_fault (Some at) f g = f at refl
by_fault None f g = g refl

failed-all : {p q : Draft} {l m : List ℕ} {fs : List Field} (at : ℕ) → AppendedAll p l fs q m → p.fault ≡ Some at → q.fault ≡ Some at
unfolding counted
failed-all at w.end b = b
failed-all {p} at (w.step {q = r} t s) b = failed-all at s (ap (λ (y : Draft). y.fault) t.bytes.next ∙ rw b)

fault-within : (f : Field) → fault_in f ≤ length (field_bytes f)
fault-within (number w n) = zero-le
fault-within (negative n) = zero-le
fault-within (numbers ns) = zero-le
fault-within (payload bs) = zero-le
fault-within (opaque k bs) = zero-le
fault-within (fixed w bs) =
    at_test (λ b. cond b w 0 ≤ length bs) (ltb w (length bs)) (λ t. omega (arith, ltb-true w (length bs) t)) (λ t. zero-le)

appended-judge : {p q : Draft} {l m : List ℕ} {fs : List Field} (at : ℕ) → AppendedAll p l fs q m → p.fault ≡ None → p.len ≡ at → at + length (bytes_of fs) ≤ segment_limit → cursor_of q ≡ judge fs at
unfolding bytes_of judge cursor_of cursor_in counted
appended-judge {p} at w.end b e h = rw (b, e)
appended-judge {p} {q} at (w.step {f = f} {fs = fs} {q = r} t s) b e h =
    let l : length (field_bytes f ++ bytes_of fs) ≡ length (field_bytes f) + length (bytes_of fs) = length-append (field_bytes f) (bytes_of fs) in
    let z : r.len ≡ capped (p.len + length (field_bytes f)) = put-len t.bytes in
    let i = fault-within f in
    let c : capped (p.len + fault_in f) ≡ at + fault_in f = omega arith in
    by_test (sound f)
    (λ k. let y : r.fault ≡ None = ap (λ (d : Draft). d.fault) t.bytes.next ∙ rw (b, k) in
    rw k (appended-judge (at + length (field_bytes f)) s y (omega arith) (omega arith)))
    (λ k. let y : r.fault ≡ Some (at + fault_in f) = ap (λ (d : Draft). d.fault) t.bytes.next ∙ rw (b, k, c) in
    rw (k, failed-all (at + fault_in f) s y))

-- ---- the answer

-- the buffer after an answer
after : Result ℕ Refusal → List ℕ → List ℕ → List ℕ
after (Ok n) bs out = replace_front bs out
after (Err r) bs out = out

-- what the bytes of a listed body within the limit read as
pub read-listed : (tag : ℕ) (fs : List Field) → layout_of tag ≡ listed (kinds_of fs) → AllFit fs → Closed fs → length (bytes_of fs) ≤ segment_limit → read_body tag (bytes_of fs) ≡ cond (judge fs 0).failed (malformed (judge fs 0).at) (whole fs)
unfolding read_body
read-listed tag fs e x y l = rw (le-leb (length (bytes_of fs)) segment_limit l, e) (read-judged fs x y l)

pub read-long : (tag : ℕ) (s : List ℕ) → segment_limit < length s → read_body tag s ≡ malformed 0
unfolding read_body
read-long tag s h = rw (lt-leb (length s) segment_limit h)

module _ {q : Draft} {a b : List ℕ} (tag : ℕ) (fs : List Field) (out : List ℕ) (r : AppendedAll empty a fs q b) (y : Closed fs) where
  by_limit : is_listed (layout_of tag) (kinds_of fs) ≡ true → done (outcome_of (judged q (length out))) (after (judged q (length out)) (bytes_of fs) out) ≡ write_as (read_body tag (bytes_of fs)) (bytes_of fs) out
  unfolding judged after write_as cursor_of cursor_in
  by_limit e =
      let i : q.len ≡ capped (0 + length (bytes_of fs)) = appended-len 0 r refl in
      by_test (leb (length (bytes_of fs)) segment_limit) (λ t.
      let h = leb-true (length (bytes_of fs)) segment_limit t in
      let k : q.len ≡ length (bytes_of fs) = omega arith in
      let c : cursor_of q ≡ judge fs 0 = appended-judge 0 r refl refl (omega arith) in
      let z : read_body tag (bytes_of fs) ≡ cond (cursor_of q).failed (malformed (cursor_of q).at) (whole fs) = read-listed tag fs (is-listed (layout_of tag) (kinds_of fs) e) (appended_fit r) y h ∙ rw (← c) in
      by_fault q.fault (λ at f. rw (z, k, t, f)) (λ f. by_test (leb (length (bytes_of fs)) (length out)) (λ u. rw (z, k, t, f, u)) (λ u. rw (z, k, t, f, u)))) (λ t.
      let h = leb-false (length (bytes_of fs)) segment_limit t in
      rw (read-long tag (bytes_of fs) h, lt-leb q.len segment_limit (omega arith)))

  answered : (served : Bool) → served ≡ is_listed (layout_of tag) (kinds_of fs) → done (outcome_of (decided served q (length out))) (after (decided served q (length out)) (bytes_of fs) out) ≡ write_body tag fs out
  unfolding decided write_body after write_as
  answered false e = rw (← e)
  answered true e = rw (← e) (by_limit (sym e))

-- a body was written: there was room
decided-wrote : (served : Bool) (q : Draft) (room n : ℕ) → decided served q room ≡ Ok n → (q.len ≤ segment_limit) × (q.len ≤ room)
unfolding judged decided
decided-wrote served q room n h =
    by_test served
    (λ s. by_test (leb q.len segment_limit)
    (λ a. by_fault q.fault (λ at b. absurd (let e = rw (s, a, b) at h in cc)) (λ b. by_test (leb q.len room) (λ d. (leb-true q.len segment_limit a, leb-true q.len room d)) (λ d. absurd (let e = rw (s, a, b, d) at h in cc))))
    (λ a. absurd (let e = rw (s, a) at h in cc)))
    (λ s. absurd (let e = rw s at h in cc))

-- kinds do not depend on the lists and bytes
pub kinds-requested : (tag : ℕ) (r : Request) (ms ns bs : List ℕ) → writes tag r ≡ is_listed (layout_of tag) (kinds_of (requested r ms ns bs))
unfolding writes kinds_of
kinds-requested tag (request.Hello n) ms ns bs = refl
kinds-requested tag (request.AuthRequest m) ms ns bs = refl
kinds-requested tag (request.BadMethod m e) ms ns bs = refl
kinds-requested tag request.More ms ns bs = refl
kinds-requested tag (request.AuthDone g m) ms ns bs = refl
kinds-requested tag (request.Ident n i) ms ns bs = refl
kinds-requested tag (request.Reconnect n k) ms ns bs = refl
kinds-requested tag (request.Number n) ms ns bs = refl
kinds-requested tag (request.Reset n) ms ns bs = refl
kinds-requested tag request.Stamp ms ns bs = refl

-- THE TWO RETURNS OF `write`
module _ {q : Draft} {a b : List ℕ} {served : Bool} (tag : ℕ) (r : Request) (ms ns bs out : List ℕ) (s : served ≡ writes tag r) (t : AppendedAll empty a (requested r ms ns bs) q b) where
  abbrev fs : List Field
  fs = requested r ms ns bs

  whole-done : (v : Result ℕ Refusal) → v ≡ decided served q (length out) → done (outcome_of v) (after v (bytes_of fs) out) ≡ write_body tag fs out
  whole-done v d = rw d (answered tag fs out t (closed-request r ms ns bs) served (s ∙ kinds-requested tag r ms ns bs))

  pub write-refused : (why : Refusal) → Err why ≡ decided served q (length out) → Writes tag fs out (Err why) out
  unfolding after
  write-refused why d = record { outcome = whole-done (Err why) d; fits = appended_fit t }

  pub write-wrote : {e : Draft} {m : List ℕ} (n : ℕ) → Ok n ≡ decided served q (length out) → AppendedAll empty out fs e m → Writes tag fs out (Ok n) m
  unfolding after
  write-wrote {e} {m} n d x =
      let k = decided-wrote served q (length out) n (sym d) in
      let i : q.len ≡ capped (0 + length (bytes_of fs)) = appended-len 0 t refl in
      record { outcome = ap (done (wrote n)) (appended-bytes 0 x refl (omega arith) ∙ put-over (bytes_of fs) out (omega arith)) ∙ whole-done (Ok n) d; fits = appended_fit t }

-- ---- rows

pub from_empty : {p q : Draft} {fs : List Field} {l m : List ℕ} → p ≡ empty → AppendedAll p l fs q m → AppendedAll empty l fs q m
from_empty e r = rw e at r
