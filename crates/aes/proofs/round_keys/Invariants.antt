use Rattle.std.proofs.Common.{◌≡◌, ℕ, ◌+◌, ◌<◌, [], length, get_or}
use Rattle.aes.specs.Aes.{round_key, rcon}
use Rattle.aes.proofs.round_keys.Given as goal

abbrev pub invariant-loop-i : goal.invariant-loop-i
invariant-loop-i l = (length l.w ≡ 11) × ((j : ℕ) → j < l.i + 1 → get_or l.w j [] ≡ round_key j l.fn.key) × (l.rc ≡ rcon l.i)
