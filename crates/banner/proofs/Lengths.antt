-- An accepted length of the payload.
use mathlib.Core.Path.{◌≡◌}
use mathlib.Core.Bool.{◌&&◌}
use Prim.Native.Nat.{ℕ, ◌≤◌}
use lib.Dec.{leb}
use borrow.Author.Tests.{leb-true}
use Rattle.refusal.specs.declared.Refusal.TheVariants as refusal
use Rattle.refusal.specs.Refusals.{fine}
use Rattle.refusal.proofs.Booleans.{both_left}
use Rattle.refusal.proofs.Judgements.{passed}
use Rattle.banner.specs.Banner.{judge_length}

pub long-enough : (n : ℕ) → judge_length n ≡ fine → 16 ≤ n
long-enough n e = leb-true 16 n (both_left (leb 16 n) (leb n 1024) (passed (leb 16 n && leb n 1024) (refusal.BannerLength n) e))
