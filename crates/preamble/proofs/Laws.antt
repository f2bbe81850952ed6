-- Laws of the preamble: its length, its fields read back, and what is known of one that is accepted.
use mathlib.Core.Path.{◌≡◌, refl, ap, ◌∙◌}
use mathlib.Core.Bool.{Bool, ◌&&◌, and-true}
use mathlib.Core.List.{List, [], ◌∷◌, ◌++◌}
use Prim.Native.Nat.{ℕ, ◌+◌, ◌^◌, ◌<◌, ◌≤◌}
use borrow.Author.Tests.{leb-true, eqb-true, eq-eqb}
use lib.Dec.{lit<, leb, eqb}
use lib.ListN.{length, take, length-append}
use Rattle.buffer.specs.Le.{le, number_at, Bytes}
use Rattle.buffer.proofs.Numbers.{le_of-le, bytes-nil, bytes-cons, bytes-append, le_bytes}
use Rattle.crc32c.specs.Crc.{crc_of}
use Rattle.crc32c.proofs.Laws.{crc_lt}
use Rattle.refusal.specs.declared.Refusal.TheVariants as refusal
use Rattle.refusal.specs.Refusals.{Judged, fine, is_fine, first_of, unless}
use Rattle.refusal.proofs.Judgements.{AllFine, all-fine, fine-all, fine_or, fine-unless, passed}
use Rattle.preamble.specs.declared.Segment.{Segment}
use Rattle.preamble.specs.declared.Header.{Header}
use Rattle.preamble.specs.Layout.{total, front_list, preamble_front, preamble_bytes, segment_fields}
use Rattle.preamble.specs.Judge.{header_of, preamble_of, judge_checksum, shape_fault, limit_fault, judge_shape, judge_tag, judge_limits, judge_store, judge_header, preamble_judgements, judge_preamble}
use Rattle.preamble.specs.Checked.{CheckedPreamble, FineExactly}
use Rattle.preamble.specs.Reading.{HeaderFits}

pub front-is : (h : Header) → front_list h ≡ preamble_front h
unfolding preamble_front
front-is h = refl

pub length_front : (h : Header) → length (preamble_front h) ≡ 28
unfolding preamble_front
length_front h = refl

pub length-preamble : (h : Header) → length (preamble_bytes h) ≡ 32
unfolding preamble_bytes
length-preamble h = length-append (preamble_front h) (le 4 (crc_of 0 (preamble_front h))) ∙ ap (λ (n : ℕ). n + 4) (length_front h)

segment-bytes : (s : Segment) → Bytes (segment_fields s)
segment-bytes s = bytes-append (le_bytes 4 s.len) (le_bytes 2 s.align)

front_bytes : (h : Header) → HeaderFits h → Bytes (preamble_front h)
unfolding preamble_front
front_bytes h f =
    bytes-cons f.tag
    (bytes-cons f.count
    (bytes-append
    (bytes-append
    (bytes-append
    (bytes-append (segment-bytes h.s1) (segment-bytes h.s2))
    (segment-bytes h.s3))
    (segment-bytes h.s4))
    (bytes-cons (lit< tt) (bytes-cons (lit< tt) bytes-nil))))

pub front-crc_lt : (h : Header) → HeaderFits h → crc_of 0 (preamble_front h) < 2 ^ 32
front-crc_lt h f = crc_lt 0 (preamble_front h) (lit< tt) (front_bytes h f).at

pub header-back : (h : Header) (rest : List ℕ) → HeaderFits h → header_of (preamble_front h ++ rest) ≡ h
unfolding preamble_front header_of number_at
header-back h rest f =
    simp (le_of-le 4 h.s1.len f.s1.len, le_of-le 2 h.s1.align f.s1.align, le_of-le 4 h.s2.len f.s2.len, le_of-le 2 h.s2.align f.s2.align, le_of-le 4 h.s3.len f.s3.len, le_of-le 2 h.s3.align f.s3.align, le_of-le 4 h.s4.len f.s4.len, le_of-le 2 h.s4.align f.s4.align)

-- ---- an accepted preamble

-- 5 to 9 and then js: all are fine exactly where the preamble is checked and js are
pub checked-preamble : (bs : List ℕ) (js : List Judged) → first_of (preamble_judgements (preamble_of bs) bs ++ js) ≡ fine → CheckedPreamble bs × AllFine js
checked-preamble bs js e =
    let sum : Bool = eqb (crc_of 0 (take 28 bs)) (number_at 4 28 bs) in
    let f = all-fine (preamble_judgements (preamble_of bs) bs ++ js) e in (
      record {
        checksum = eqb-true (crc_of 0 (take 28 bs)) (number_at 4 28 bs) (passed sum refusal.PreambleChecksum f.0);
        shape = f.1.0;
        flags = f.1.1.0;
        tag = f.1.1.1.0;
        limits = f.1.1.1.1.0;
      },
      f.1.1.1.1.1,
    )

pub preamble-checked : (bs : List ℕ) (js : List Judged) → CheckedPreamble bs → AllFine js → first_of (preamble_judgements (preamble_of bs) bs ++ js) ≡ fine
preamble-checked bs js c f =
    let sum : judge_checksum bs ≡ fine = ap (λ (b : Bool). unless b refusal.PreambleChecksum) (eq-eqb (crc_of 0 (take 28 bs)) (number_at 4 28 bs) c.checksum) in
    fine-all (preamble_judgements (preamble_of bs) bs ++ js) (sum, (c.shape, (c.flags, (c.tag, (c.limits, f)))))

pub fine-exactly : FineExactly
unfolding FineExactly
fine-exactly bs = (λ e. (checked-preamble bs [] e).0, λ c. preamble-checked bs [] c tt)

-- its header is accepted by itself
pub checked-header : {bs : List ℕ} → CheckedPreamble bs → judge_header (header_of bs) ≡ fine
unfolding judge_header
checked-header {bs} c =
    let h = header_of bs in
    fine-all (judge_shape h ∷ judge_tag h.tag ∷ judge_limits h ∷ []) (c.shape, (c.tag, (c.limits, tt)))

-- and so is one that a store of so many bytes is long enough for
pub record AcceptedPreamble (bs : List ℕ) (room : ℕ) : Type 0 where
  pub checked : CheckedPreamble bs
  pub store : judge_store (total (header_of bs)) room ≡ fine

pub accepted-preamble : (bs : List ℕ) (room : ℕ) → judge_preamble bs room ≡ fine → AcceptedPreamble bs room
unfolding judge_preamble
accepted-preamble bs room e =
    let c = checked-preamble bs (judge_store (total (header_of bs)) room ∷ []) e in
    record { checked = c.0; store = c.1.0 }

pub preamble-accepted : (bs : List ℕ) (room : ℕ) → CheckedPreamble bs → judge_store (total (header_of bs)) room ≡ fine → judge_preamble bs room ≡ fine
unfolding judge_preamble
preamble-accepted bs room c s = preamble-checked bs (judge_store (total (header_of bs)) room ∷ []) c (s, tt)

-- and the store is long enough
pub store-fits : {needed room : ℕ} → judge_store needed room ≡ fine → needed ≤ room
store-fits {needed} {room} e = leb-true needed room (passed (leb needed room) (refusal.StoreShort needed) e)

-- what is asked of a header, as one test
pub header-fine : (h : Header) → is_fine (judge_header h) ≡ (eqb (shape_fault h) 0 && ((leb 1 h.tag && leb h.tag 20) && eqb (limit_fault h) 0))
unfolding judge_header
header-fine h = simp (fine_or, fine-unless, and-true)
