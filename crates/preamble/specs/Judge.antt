-- A preamble's fields, and 01's judgements on them: refusals 5 to 10.
use Rattle.std.specs.Prelude.{List, [], ◌∷◌, ◌++◌, Bool, not, cond, ◌&&◌, ℕ, zero, suc, ◌+◌, take, get_or, leb, ltb, eqb}
use Rattle.buffer.specs.Le.{number_at}
use Rattle.crc32c.specs.Crc.{crc_of}
use Rattle.refusal.specs.declared.Refusal.{Refusal}
use Rattle.refusal.specs.declared.Refusal.TheVariants as refusal
use Rattle.refusal.specs.Refusals.{Judged, first_of, unless}
use Rattle.preamble.specs.declared.Segment.{Segment}
use Rattle.preamble.specs.declared.Header.{Header}
use Rattle.preamble.specs.declared.Preamble.{Preamble}
use Rattle.preamble.specs.Layout.{total}

-- ---- the first field at fault, by its place in the preamble; 0, the tag's place, where there is none

abbrev pub first : ℕ → ℕ → ℕ
first zero b = b
first (suc a) b = suc a

abbrev pub first_fault : List ℕ → ℕ
first_fault [] = 0
first_fault (f ∷ fs) = first f (first_fault fs)

abbrev pub fault_when : Bool → ℕ → ℕ
fault_when wrong place = cond wrong place 0

-- a refusal whose detail is that place
abbrev pub unless_fault : (ℕ → Refusal) → ℕ → Judged
unless_fault why place = unless (eqb place 0) (why place)

-- ---- shape

-- an unused segment has no length; with more than one segment the last used one is not empty
abbrev pub length_wrong : ℕ → ℕ → ℕ → Bool
length_wrong count k n = cond (ltb count k) (not (eqb n 0)) (eqb k count && ltb 1 count && eqb n 0)

-- an unused segment has no alignment
abbrev pub align_wrong : ℕ → ℕ → ℕ → Bool
align_wrong count k a = ltb count k && not (eqb a 0)

-- segment k, whose length stands at place and whose alignment four bytes on
abbrev pub segment_fault : ℕ → ℕ → ℕ → Segment → ℕ
segment_fault count k place s =
    first (fault_when (length_wrong count k s.len) place) (fault_when (align_wrong count k s.align) (place + 4))

abbrev pub count_fault : ℕ → ℕ
count_fault count = fault_when (not (leb 1 count && leb count 4)) 1

unfoldable pub shape_fault : Header → ℕ
shape_fault h =
    first_fault
    (count_fault h.count
    ∷ segment_fault h.count 1 2 h.s1
    ∷ segment_fault h.count 2 8 h.s2
    ∷ segment_fault h.count 3 14 h.s3
    ∷ segment_fault h.count 4 20 h.s4
    ∷ [])

abbrev pub judge_shape : Header → Judged
judge_shape h = unless_fault refusal.Shape (shape_fault h)

-- ---- flags, tag, limits, store

abbrev pub flag_fault : ℕ → ℕ → ℕ
flag_fault flags reserved = first_fault (fault_when (not (eqb flags 0)) 26 ∷ fault_when (not (eqb reserved 0)) 27 ∷ [])

abbrev pub judge_flags : ℕ → ℕ → Judged
judge_flags flags reserved = unless_fault refusal.Flags (flag_fault flags reserved)

abbrev pub judge_tag : ℕ → Judged
judge_tag tag = unless (leb 1 tag && leb tag 20) (refusal.Tag tag)

-- K9's limits, each said here only
abbrev pub segment_limit : ℕ
segment_limit = 1048576

abbrev pub frame_limit : ℕ
frame_limit = 2097152

abbrev pub above : ℕ → ℕ → ℕ → ℕ
above limit place n = fault_when (ltb limit n) place

-- a segment above its limit, or the length at which the running sum passes its own
unfoldable pub limit_fault : Header → ℕ
limit_fault h =
    first_fault
    (above segment_limit 2 h.s1.len
    ∷ above segment_limit 8 h.s2.len
    ∷ above segment_limit 14 h.s3.len
    ∷ above segment_limit 20 h.s4.len
    ∷ above frame_limit 2 h.s1.len
    ∷ above frame_limit 8 (h.s1.len + h.s2.len)
    ∷ above frame_limit 14 (h.s1.len + h.s2.len + h.s3.len)
    ∷ above frame_limit 20 (total h)
    ∷ [])

abbrev pub judge_limits : Header → Judged
judge_limits h = unless_fault refusal.Limit (limit_fault h)

-- the store holds the bytes that the frame needs
abbrev pub judge_store : ℕ → ℕ → Judged
judge_store needed store = unless (leb needed store) (refusal.StoreShort needed)

-- what is asked of a header by itself: 6, 8, 9
unfoldable pub judge_header : Header → Judged
judge_header h = first_of (judge_shape h ∷ judge_tag h.tag ∷ judge_limits h ∷ [])

-- ---- preamble

abbrev pub segment_at : ℕ → List ℕ → Segment
segment_at i bs = record { len = number_at 4 i bs; align = number_at 2 (i + 4) bs }

-- the fields of a preamble's 32 bytes
unfoldable pub header_of : List ℕ → Header
header_of bs = record {
  tag = get_or bs 0 0;
  count = get_or bs 1 0;
  s1 = segment_at 2 bs;
  s2 = segment_at 8 bs;
  s3 = segment_at 14 bs;
  s4 = segment_at 20 bs;
}

abbrev pub preamble_of : List ℕ → Preamble
preamble_of bs = record { header = header_of bs; flags = get_or bs 26 0; reserved = get_or bs 27 0; checksum = number_at 4 28 bs }

-- the stored checksum against that of the first 28 bytes
abbrev pub judge_stored : List ℕ → ℕ → Judged
judge_stored bs stored = unless (eqb (crc_of 0 (take 28 bs)) stored) refusal.PreambleChecksum

abbrev pub judge_checksum : List ℕ → Judged
judge_checksum bs = judge_stored bs (number_at 4 28 bs)

-- THE ORDER at a preamble's last byte: the checksum first, then the fields (5 to 9), and last the store (10)

-- 6, 7, 8, 9
abbrev pub field_judgements : Preamble → List Judged
field_judgements p = judge_shape p.header ∷ judge_flags p.flags p.reserved ∷ judge_tag p.header.tag ∷ judge_limits p.header ∷ []

-- 5, 6, 7, 8, 9: on fields that were read, and their bytes
abbrev pub preamble_judgements : Preamble → List ℕ → List Judged
preamble_judgements p bs = judge_stored bs p.checksum ∷ field_judgements p

-- store is the store's length
unfoldable pub judge_fields : Preamble → ℕ → Judged
judge_fields p store = first_of (field_judgements p ++ (judge_store (total p.header) store ∷ []))

abbrev pub judge_read : Preamble → List ℕ → ℕ → Judged
judge_read p bs store = first_of (preamble_judgements p bs ++ (judge_store (total p.header) store ∷ []))

unfoldable pub judge_preamble : List ℕ → ℕ → Judged
judge_preamble bs store = judge_read (preamble_of bs) bs store
