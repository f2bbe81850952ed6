-- What a frame needs of the store holds its segments and each of its parts.
use Rattle.std.proofs.Common.{◌≡◌, ℕ, ◌+◌, ◌-◌, ◌<◌, ◌≤◌, Bool, true, false, cond, refl, ap, arith, leb-false}
use Rattle.preamble.specs.declared.Header.{Header}
use Rattle.preamble.specs.Layout.{total}
use Rattle.secure.specs.Layout.{padding, round_up, inline_length, no_second_part, no_last_part, first_length, second_part, second_part_length, last_part, last_part_length, sealed_length, needed}

-- a part that has bytes is there
pub there : (b : Bool) (n : ℕ) → 0 < cond b 0 n → b ≡ false
there true n h = absurd (omega arith)
there false n h = refl

pub few : (n : ℕ) → padding n < 16
few n = omega arith

pub segments-fit : (h : Header) → total h ≤ needed h
unfolding needed
segments-fit h = omega arith

-- segments 3 and 4 stand behind these places before they are moved
pub moves-fit : (h : Header) (r₂ r₃ : ℕ) → r₂ ≡ round_up h.s2.len → r₃ ≡ round_up h.s3.len → h.s1.len + r₂ + r₃ + h.s4.len ≤ needed h
unfolding needed
moves-fit h r₂ r₃ e₂ e₃ = omega arith

pub round_up_lem : (n r : ℕ) → r ≡ round_up n → n ≤ r
round_up_lem n r e = omega arith

-- ---- the rest of segment 1

module _ (h : Header) (e : no_second_part h ≡ false) where
  pub rest-beyond : inline_length < h.s1.len
  rest-beyond = leb-false h.s1.len inline_length e

  pub rest-size : second_part_length h ≡ second_part h
  rest-size = ap (λ (b : Bool). cond b 0 (second_part h)) e

  pub rest-fits : inline_length + second_part h ≤ needed h
  unfolding needed
  rest-fits = (let b = rest-beyond in let p = few (h.s1.len - inline_length) in omega arith)

  -- with its padding and the tag behind it
  pub pads-fit : (pad : ℕ) → pad ≡ padding (h.s1.len - inline_length) → h.s1.len + pad + 16 ≤ needed h
  pads-fit pad ep = let f = rest-fits in let b = rest-beyond in omega arith

-- ---- the last part

module _ (h : Header) where
  pub last-size : no_last_part h ≡ false → last_part_length h ≡ last_part h
  last-size e = ap (λ (b : Bool). cond b 0 (last_part h)) e

  pub last_fits : h.s1.len + last_part h ≤ needed h
  unfolding needed
  last_fits = omega arith

-- ---- on the wire

pub least : (h : Header) → first_length ≤ sealed_length h
unfolding sealed_length
least h = omega arith
