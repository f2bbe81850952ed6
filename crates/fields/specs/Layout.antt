-- Kinds of fields (02, K6; 000, "Hello" to "Message exchange"): where each ends in a segment, or the place that its fault is named by.
use Rattle.std.specs.Prelude.{Bool, true, false, cond, List, ℕ, ◌+◌, ◌-◌, ◌*◌, ◌/◌, leb, ltb, length}
use Rattle.buffer.specs.Le.{number_at}

pub data Kind : Type 0 where
  -- a number of so many bytes, lowest first
  number : ℕ → Kind
  -- a signed 32-bit number below zero
  negative : Kind
  -- a 32-bit count, at most 32, and that many 32-bit numbers
  numbers : Kind
  -- a 32-bit length and that many bytes
  payload : Kind
  -- all bytes but so many closing ones
  opaque : ℕ → Kind
  -- so many opaque bytes
  fixed : ℕ → Kind

-- a place in a segment; once failed, the place that the fault is named by
pub record Cursor : Type 0 where
  pub at : ℕ
  pub failed : Bool

abbrev pub good : ℕ → Cursor
good n = record { at = n; failed = false }

abbrev pub fault : ℕ → Cursor
fault n = record { at = n; failed = true }

-- past w bytes; a field that is cut off is at fault at its place
abbrev pub past : ℕ → List ℕ → ℕ → Cursor
past w s at = cond (leb w (length s - at)) (good (at + w)) (fault at)

-- a list of n with so many bytes left: an overlong one is at fault at its count, a short one at the number cut off
abbrev pub past_list : ℕ → ℕ → ℕ → Cursor
past_list n left at = cond (ltb 32 n) (fault at) (cond (leb (4 + 4 * n) left) (good (at + (4 + 4 * n))) (fault (at + left / 4 * 4)))

-- where a field that starts at a place ends. 0 and above are no negative error; a payload shorter than its length is at fault at
-- that length; a body too short for its closing fields at 0
abbrev pub end_of : Kind → List ℕ → ℕ → Cursor
end_of (number w) s at = past w s at
end_of negative s at = cond (ltb (number_at 4 at s) 2147483648) (fault at) (past 4 s at)
end_of numbers s at = past_list (number_at 4 at s) (length s - at) at
end_of payload s at = past (4 + number_at 4 at s) s at
end_of (opaque k) s at = cond (leb k (length s - at)) (good (length s - k)) (fault 0)
end_of (fixed w) s at = past w s at

-- one field: a cursor at a fault stays there
unfoldable pub step_of : Kind → List ℕ → Cursor → Cursor
step_of k s c = cond c.failed c (end_of k s c.at)
