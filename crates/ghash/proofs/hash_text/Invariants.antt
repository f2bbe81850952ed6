use Rattle.std.proofs.Common.{◌≡◌, ℕ, ◌+◌, ◌-◌, ◌*◌, ◌/◌, length}
use Rattle.ghash.specs.Ghash.{ghash_from}
use Rattle.ghash.specs.Tables.{Whole}
use Rattle.ghash.proofs.hash_text.Given as goal

abbrev pub invariant-loop-block : goal.invariant-loop-block
invariant-loop-block l =
    (v n : ℕ) → Whole v l.m
    → ghash_from v l.fn.s (length l.fn.s / 16 + n) 0 0 ≡ ghash_from v l.fn.s (length l.fn.s / 16 - l.block-index + n) (16 * l.block-index) l.y
