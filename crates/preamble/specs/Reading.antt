-- Reading a preamble that was built gives its fields back: the claim.
use Rattle.std.specs.Prelude.{◌≡◌, List, ◌++◌, ℕ, ◌^◌, ◌<◌}
use Rattle.crc32c.specs.Crc.{crc_of}
use Rattle.refusal.specs.Refusals.{fine}
use Rattle.preamble.specs.declared.Segment.{Segment}
use Rattle.preamble.specs.declared.Header.{Header}
use Rattle.preamble.specs.declared.Preamble.{Preamble}
use Rattle.preamble.specs.Layout.{preamble_front, preamble_bytes}
use Rattle.preamble.specs.Judge.{preamble_of, judge_checksum}

-- the fields are of their types
pub record SegmentFits (s : Segment) : Type 0 where
  pub len : s.len < 2 ^ 32
  pub align : s.align < 2 ^ 16

pub record HeaderFits (h : Header) : Type 0 where
  pub tag : h.tag < 256
  pub count : h.count < 256
  pub s1 : SegmentFits h.s1
  pub s2 : SegmentFits h.s2
  pub s3 : SegmentFits h.s3
  pub s4 : SegmentFits h.s4

-- the fields of the preamble that is built of a header
abbrev pub built_preamble : Header → Preamble
built_preamble h = record { header = h; flags = 0; reserved = 0; checksum = crc_of 0 (preamble_front h) }

-- READING WHAT WAS BUILT gives it back, and its checksum holds, whatever follows
pub record ReadBack (h : Header) (rest : List ℕ) : Type 0 where
  pub fields : preamble_of (preamble_bytes h ++ rest) ≡ built_preamble h
  pub checked : judge_checksum (preamble_bytes h ++ rest) ≡ fine

unfoldable pub ReadsBack : Type 0
ReadsBack = (h : Header) (rest : List ℕ) → HeaderFits h → ReadBack h rest
