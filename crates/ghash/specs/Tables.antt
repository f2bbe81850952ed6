-- The tables by which a product is looked up, four bits of x at a time. Not in SP 800-38D; the promise of `hash` says nothing of them.
use Rattle.std.specs.Prelude.{◌≡◌, List, [], ℕ, zero, suc, ◌*◌, ◌<◌, get_or, length}
use Rattle.ghash.specs.Ghash.{step, mul_from}

unfoldable pub steps : ℕ → ℕ → ℕ
steps zero v = v
steps (suc n) v = steps n (step v)

-- four steps from k: the constant table
pub record Reduced (t : List ℕ) : Type 0 where
  pub at : (k : ℕ) → k < 16 → get_or t k 0 ≡ steps 4 k

-- the n first places of the table of v: the products of v and a block with the four bits k at place j, of 32 places; a table has 8 places, or all
pub record Filled (v n : ℕ) (m : List (List ℕ)) : Type 0 where
  pub at : (j k : ℕ) → j < n → k < 16 → get_or (get_or m j []) k 0 ≡ mul_from 4 k 0 (steps (4 * j) v)

-- as many as there is room for
abbrev pub Whole : ℕ → List (List ℕ) → Type 0
Whole v m = Filled v (length m) m
