-- The checks of a preamble, said one beside the other.
use Rattle.std.specs.Prelude.{◌≡◌, ◌↔◌, List, ℕ, take, get_or}
use Rattle.buffer.specs.Le.{number_at}
use Rattle.crc32c.specs.Crc.{crc_of}
use Rattle.refusal.specs.Refusals.{fine, first_of}
use Rattle.preamble.specs.Judge.{header_of, preamble_of, preamble_judgements, judge_shape, judge_flags, judge_tag, judge_limits}

-- its CRC32-C holds, and 01's checks of its fields; what a frame needs of the store is said beside this
pub record CheckedPreamble (bs : List ℕ) : Type 0 where
  pub checksum : crc_of 0 (take 28 bs) ≡ number_at 4 28 bs
  pub shape : judge_shape (header_of bs) ≡ fine
  pub flags : judge_flags (get_or bs 26 0) (get_or bs 27 0) ≡ fine
  pub tag : judge_tag (header_of bs).tag ≡ fine
  pub limits : judge_limits (header_of bs) ≡ fine

-- THE CHECKS AND THE ORDER: none of 5 to 9 is given exactly where the checks hold
unfoldable pub FineExactly : Type 0
FineExactly = (bs : List ℕ) → first_of (preamble_judgements (preamble_of bs) bs) ≡ fine ↔ CheckedPreamble bs
