use Rattle.std.proofs.Common.{◌≡◌, ℕ, ◌+◌, ◌-◌, ◌*◌, ◌/◌, ◌%◌, ◌^◌}
use Rattle.ghash.specs.Ghash.{mul_from}
use Rattle.ghash.specs.Tables.{steps, Whole}
use Rattle.ghash.proofs.quarter_by.Given as goal

abbrev pub invariant-loop-j : goal.invariant-loop-j
invariant-loop-j l =
    (v y n : ℕ) → Whole v l.m → y / 2 ^ n % 2 ^ 32 ≡ l.x
    → mul_from (n + 32) y l.fn.z (steps (4 * l.at) v) ≡ mul_from (n + (32 - 4 * l.j)) y l.w (steps (4 * (l.at + l.j)) v)
