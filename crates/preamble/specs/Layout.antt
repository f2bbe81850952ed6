-- The preamble's 32 bytes (000, "Frame format"; 01, "Preamble").
use Rattle.std.specs.Prelude.{List, [], ◌∷◌, ◌++◌, Bool, ◌&&◌, ℕ, ◌+◌, eqb}
use Rattle.buffer.specs.Le.{le}
use Rattle.crc32c.specs.Crc.{crc_of}
use Rattle.preamble.specs.declared.Segment.{Segment}
use Rattle.preamble.specs.declared.Header.{Header}

-- ---- no frame: what a state that knows of none has in its place

abbrev pub no_segment : Segment
no_segment = record { len = 0; align = 0 }

abbrev pub no_header : Header
no_header = record { tag = 0; count = 0; s1 = no_segment; s2 = no_segment; s3 = no_segment; s4 = no_segment }

abbrev pub is_no_segment : Segment → Bool
is_no_segment s = eqb s.len 0 && eqb s.align 0

abbrev pub is_no_header : Header → Bool
is_no_header h = (eqb h.tag 0 && eqb h.count 0) && ((is_no_segment h.s1 && is_no_segment h.s2) && (is_no_segment h.s3 && is_no_segment h.s4))

-- ---- the bytes

-- T, the sum of the lengths
abbrev pub total : Header → ℕ
total h = h.s1.len + h.s2.len + h.s3.len + h.s4.len

abbrev pub segment_fields : Segment → List ℕ
segment_fields s = le 4 s.len ++ le 2 s.align

-- bytes 0 to 27: the flags and the reserved byte are 0
abbrev pub front_list : Header → List ℕ
front_list h =
    h.tag ∷ h.count ∷ segment_fields h.s1 ++ segment_fields h.s2 ++ segment_fields h.s3 ++ segment_fields h.s4 ++ (0 ∷ 0 ∷ [])

-- the same, shut: goals name it, and do not write its 28 elements out
unfoldable pub preamble_front : Header → List ℕ
preamble_front h = front_list h

unfoldable pub preamble_bytes : Header → List ℕ
preamble_bytes h = preamble_front h ++ le 4 (crc_of 0 (preamble_front h))
