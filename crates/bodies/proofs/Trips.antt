-- Reading what was written gives it back, and writing what was read gives the same bytes.
use mathlib.Core.Path.{◌≡◌, refl, sym, ap, ap₂, ◌∙◌}
use mathlib.Core.Bool.{Bool, true, false, cond}
use mathlib.Core.List.{List, [], ◌∷◌}
use Prim.Native.Nat.{ℕ, ◌+◌, ◌≤◌}
use native.Mathlib.Omega.{arith}
use lib.Dec.{leb, eqb}
use borrow.Author.Tests.{le-leb, eqb-true}
use lib.ListN.{length, take, drop, take-append-drop}
use lib.Seq.{take_at, drop-drop, drop-length}
use Rattle.buffer.specs.Le.{Bytes}
use Rattle.buffer.specs.Splice.{replace_front}
use Rattle.preamble.specs.Judge.{segment_limit}
use Rattle.refusal.specs.declared.Numbers.{Numbers}
use Rattle.refusal.specs.Refusals.{row}
use Rattle.refusal.proofs.Booleans.{by_test, by_less, wrong}
use Rattle.fields.specs.Layout.{Cursor, Kind, good, step_of}
use Rattle.fields.specs.Field.{Field, field_bytes}
use Rattle.fields.specs.Reading.{span_in, numbers_in}
use Rattle.fields.proofs.ReadBack.{over-field, same_kind}
use Rattle.bodies.specs.declared.Body.{Body}
use Rattle.bodies.specs.declared.Body.TheVariants as body
use Rattle.bodies.specs.declared.Request.{Request}
use Rattle.bodies.specs.declared.Request.TheVariants as request
use Rattle.std.specs.Prelude.{Result, Ok, Err}
use Rattle.refusal.specs.declared.Refusal.{Refusal}
use Rattle.refusal.specs.Writes.{WriteOutcome, wrote, refused_for, Done, done, outcome_of}
use Rattle.bodies.specs.Table.{Found, listed, unlisted, layout_of, is_listed}
use Rattle.bodies.specs.Rows.{requested}
use Rattle.bodies.specs.Read.{run, fields_of, Answer, whole, refused, malformed, settled, read_by, read_body, answer_of}
use Rattle.bodies.specs.Write.{kinds_of, bytes_of, write_as, write_body, writes}
use Rattle.bodies.specs.Claims.{AllFit, AllSound, Requested, holds, Reads, Writes, RoundTrips}
use Rattle.bodies.proofs.Rows.{failed-run}
use Rattle.bodies.proofs.Tags.{is-listed, listed-is}
use Rattle.bodies.proofs.Judged.{judge, Closed, closed-request}
use Rattle.bodies.proofs.Drafted.{read-listed, read-long, kinds-requested}

-- ---- what was written

record Written-well (tag n : ℕ) (fs : List Field) (out l : List ℕ) : Type 0 where
  kinds : is_listed (layout_of tag) (kinds_of fs) ≡ true
  gs : List Field
  reads : read_body tag (bytes_of fs) ≡ whole gs
  len : n ≡ length (bytes_of fs)
  buffer : l ≡ replace_front (bytes_of fs) out

outcomes : {a b : WriteOutcome} {l m : List ℕ} → done a l ≡ done b m → a ≡ b
outcomes e = ap (λ (d : Done). d.outcome) e

same_count : {n m : ℕ} → wrote n ≡ wrote m → n ≡ m
same_count e = cc

not_wrote : {A : Type 0} {n : ℕ} {r : Numbers} → wrote n ≡ refused_for r → A
not_wrote e = wrong cc

-- only a body that reads, with room, is written
wrote-well : (tag n : ℕ) (fs : List Field) (out l : List ℕ) → done (wrote n) l ≡ write_body tag fs out → Written-well tag n fs out l
unfolding write_body write_as
wrote-well tag n fs out l = go (is_listed (layout_of tag) (kinds_of fs)) (read_body tag (bytes_of fs)) (leb (length (bytes_of fs)) (length out)) refl refl refl
  where
    go : (a : Bool) (r : Answer) (b : Bool) → is_listed (layout_of tag) (kinds_of fs) ≡ a → read_body tag (bytes_of fs) ≡ r → leb (length (bytes_of fs)) (length out) ≡ b → done (wrote n) l ≡ cond a (write_as r (bytes_of fs) out) (write_as (malformed 0) (bytes_of fs) out) → Written-well tag n fs out l
    go true (whole gs) true x y z e =
        let f : done (wrote n) l ≡ done (wrote (length (bytes_of fs))) (replace_front (bytes_of fs) out) = e ∙ rw z in
        record { kinds = x; gs = gs; reads = y; len = same_count (outcomes f); buffer = ap (λ (d : Done). d.buffer) f }
    go true (whole gs) false x y z e =
        let f : done (wrote n) l ≡ done (refused_for (row 14 (length (bytes_of fs)) 0 0)) out = e ∙ rw z in
        not_wrote (outcomes f)
    go true (refused m) b x y z e = let f : done (wrote n) l ≡ done (refused_for m) out = e in not_wrote (outcomes f)
    go false r b x y z e = let f : done (wrote n) l ≡ done (refused_for (row 20 0 0 0)) out = e in not_wrote (outcomes f)

-- where the bytes of filled fields read at all, they read as those fields
reads_same : (tag : ℕ) (fs gs : List Field) → is_listed (layout_of tag) (kinds_of fs) ≡ true → AllFit fs → Closed fs → read_body tag (bytes_of fs) ≡ whole gs → read_body tag (bytes_of fs) ≡ whole fs
reads_same tag fs gs k x y e =
    by_less segment_limit (length (bytes_of fs)) (λ l. wrong (cc (read-long tag (bytes_of fs) l))) (λ l.
    let h = read-listed tag fs (is-listed (layout_of tag) (kinds_of fs) k) x y l in
    by_test (judge fs 0).failed (λ t. wrong cc) (λ t. h ∙ rw t))

back : (tag n : ℕ) (r : Request) (ms ns bs out l : List ℕ) (b : Result Body Refusal) → Writes tag (requested r ms ns bs) out (Ok n) l → Reads tag (take n l) b → answer_of (take n l) b ≡ whole (requested r ms ns bs)
back tag n r ms ns bs out l b w q =
    let fs : List Field = requested r ms ns bs in
    let g = wrote-well tag n fs out l w.outcome in
    let a : take n l ≡ bytes_of fs = rw g.buffer (take_at (bytes_of fs) (drop (length (bytes_of fs)) out) n (sym g.len)) in
    q.answer ∙ ap (read_body tag) a ∙ reads_same tag fs g.gs g.kinds w.fits (closed-request r ms ns bs) g.reads

-- ---- bytes of what was read

fields-again : (ks : List Kind) (s : List ℕ) (at : ℕ) → Bytes s → at ≤ length s → (run ks s (good at)).failed ≡ false → (run ks s (good at)).at ≡ length s → bytes_of (fields_of ks s (good at)) ≡ drop at s
unfolding bytes_of
fields-again [] s at h l f e = sym (ap (λ (n : ℕ). drop n s) e ∙ drop-length s)
fields-again (k ∷ ks) s at h l f e =
    by_test (step_of k s (good at)).failed (λ t. wrong (sym f ∙ failed-run ks s (step_of k s (good at)) t)) (λ t.
    let o = over-field s at h l k t in
    let i = fields-again ks s (at + o.m) h o.within (rw (o.next, run) at f) (rw (o.next, run) at e) in
    rw (o.next, o.bytes, i, ← (drop-drop o.m at s)) (take-append-drop o.m (drop at s)))

kinds-again : (ks : List Kind) (s : List ℕ) (c : Cursor) → kinds_of (fields_of ks s c) ≡ ks
unfolding kinds_of
kinds-again [] s c = refl
kinds-again (k ∷ ks) s c = ap₂ (λ (x : Kind) (xs : List Kind). x ∷ xs) (same_kind k s c.at) (kinds-again ks s (step_of k s c))

-- a body that reads whole: of a listed layout, with no fault, and with no byte left over
record Read-well (tag : ℕ) (s : List ℕ) (fs : List Field) : Type 0 where
  ks : List Kind
  layout : layout_of tag ≡ listed ks
  fine : (run ks s (good 0)).failed ≡ false
  ended : (run ks s (good 0)).at ≡ length s
  same : fields_of ks s (good 0) ≡ fs

read-well : (tag : ℕ) (s : List ℕ) (fs : List Field) → read_body tag s ≡ whole fs → Read-well tag s fs
unfolding read_body settled
read-well tag s fs e = by_test (leb (length s) segment_limit) (λ a. go (layout_of tag) refl (rw a at e)) (λ a. wrong cc)
  where
    go : (f : Found) → layout_of tag ≡ f → read_by f s ≡ whole fs → Read-well tag s fs
    go (listed ks) x e =
        by_test (run ks s (good 0)).failed (λ y. wrong cc) (λ y. by_test (eqb (run ks s (good 0)).at (length s))
        (λ z. record { ks = ks; layout = x; fine = y; ended = eqb-true (run ks s (good 0)).at (length s) z; same = cc }) (λ z. wrong cc))
    go unlisted x e = wrong cc

-- the fields that a body reads as are of the tag's kinds
pub kinds-read : (tag : ℕ) (s : List ℕ) (fs : List Field) → read_body tag s ≡ whole fs → is_listed (layout_of tag) (kinds_of fs) ≡ true
kinds-read tag s fs e =
    let r = read-well tag s fs e in
    listed-is (layout_of tag) (kinds_of fs) (r.layout ∙ ap listed (sym (kinds-again r.ks s (good 0)) ∙ ap kinds_of r.same))

same_bytes : (tag : ℕ) (s : List ℕ) (fs : List Field) → Bytes s → read_body tag s ≡ whole fs → bytes_of fs ≡ s
same_bytes tag s fs h e =
    let r = read-well tag s fs e in
    ap bytes_of (sym r.same) ∙ fields-again r.ks s 0 h (omega arith) r.fine r.ended

-- it is then written whole, where there is room
written-again : (tag : ℕ) (s : List ℕ) (fs : List Field) (out : List ℕ) → Bytes s → read_body tag s ≡ whole fs → length s ≤ length out → write_body tag fs out ≡ done (wrote (length s)) (replace_front s out)
unfolding write_body write_as
written-again tag s fs out h e l =
    rw (kinds-read tag s fs e, same_bytes tag s fs h e, e, le-leb (length s) (length out) l)

wrote-is : (w : Result ℕ Refusal) (l m : List ℕ) (n : ℕ) → done (outcome_of w) l ≡ done (wrote n) m → (w ≡ Ok n) × (l ≡ m)
wrote-is (Ok k) l m n e = (let h = same_count (outcomes e) in cc, ap (λ (d : Done). d.buffer) e)
wrote-is (Err r) l m n e = not_wrote (sym (outcomes e))

again : (tag : ℕ) (s : List ℕ) (b : Result Body Refusal) (r : Request) (ms ns bs out l : List ℕ) (w : Result ℕ Refusal) → Bytes s → Reads tag s b → answer_of s b ≡ whole (requested r ms ns bs) → length s ≤ length out → Writes tag (requested r ms ns bs) out w l → (w ≡ Ok (length s)) × (l ≡ replace_front s out)
again tag s b r ms ns bs out l w h q e k x =
    wrote-is w l (replace_front s out) (length s) (x.outcome ∙ written-again tag s (requested r ms ns bs) out h (sym q.answer ∙ e) k)

-- ---- what is written

-- sound fields have no fault
sound-judged : (fs : List Field) (at : ℕ) → AllSound fs → (judge fs at).failed ≡ false
unfolding AllSound judge
sound-judged [] at h = refl
sound-judged (f ∷ fs) at h = rw h.0 (sound-judged fs (at + length (field_bytes f)) h.1)

written-whole : (tag : ℕ) (r : Request) (ms ns bs out l : List ℕ) (w : Result ℕ Refusal) → writes tag r ≡ true → AllSound (requested r ms ns bs) → length (bytes_of (requested r ms ns bs)) ≤ segment_limit → length (bytes_of (requested r ms ns bs)) ≤ length out → Writes tag (requested r ms ns bs) out w l → (w ≡ Ok (length (bytes_of (requested r ms ns bs)))) × (l ≡ replace_front (bytes_of (requested r ms ns bs)) out)
unfolding write_body write_as
written-whole tag r ms ns bs out l w t s h k x =
    let fs : List Field = requested r ms ns bs in
    let e : is_listed (layout_of tag) (kinds_of fs) ≡ true = sym (kinds-requested tag r ms ns bs) ∙ t in
    let q : read_body tag (bytes_of fs) ≡ whole fs = read-listed tag fs (is-listed (layout_of tag) (kinds_of fs) e) x.fits (closed-request r ms ns bs) h ∙ rw (sound-judged fs 0 s) in
    wrote-is w l (replace_front (bytes_of fs) out) (length (bytes_of fs)) (x.outcome ∙ rw (e, q, le-leb (length (bytes_of fs)) (length out) k))

-- the request of a body
held_by_lem : (s : List ℕ) (b : Result Body Refusal) (fs : List Field) → answer_of s b ≡ whole fs → Requested fs
held_by_lem s (Ok (body.Hello n p)) fs e = holds (request.Hello n) [] [] (span_in s p) cc
held_by_lem s (Ok (body.AuthRequest m l p)) fs e = holds (request.AuthRequest m) (numbers_in s l) [] (span_in s p) cc
held_by_lem s (Ok (body.BadMethod m x l k)) fs e = holds (request.BadMethod m x) (numbers_in s l) (numbers_in s k) [] cc
held_by_lem s (Ok (body.More p)) fs e = holds request.More [] [] (span_in s p) cc
held_by_lem s (Ok (body.AuthDone g m p)) fs e = holds (request.AuthDone g m) [] [] (span_in s p) cc
held_by_lem s (Ok (body.Ident n p i)) fs e = holds (request.Ident n i) [] [] (span_in s p) cc
held_by_lem s (Ok (body.Reconnect n p k)) fs e = holds (request.Reconnect n k) [] [] (span_in s p) cc
held_by_lem s (Ok (body.Number n)) fs e = holds (request.Number n) [] [] [] cc
held_by_lem s (Ok (body.Reset n)) fs e = holds (request.Reset n) [] [] [] cc
held_by_lem s (Ok (body.Stamp p)) fs e = holds request.Stamp [] [] (span_in s p) cc
held_by_lem s (Err r) fs e = wrong cc

-- THE CLAIM
pub round_trips : RoundTrips
unfolding RoundTrips
round_trips = (written-whole, back, held_by_lem, again)
