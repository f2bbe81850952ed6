use native.Mathlib.Omega.{arith}
use Prim.Native.Nat.{ℕ, suc, ◌+◌, ◌*◌, ◌-◌, ◌≤◌, ◌<◌}
use mathlib.Core.List.{List}
use Rattle.buffer.specs.Le.{number_at}
use native.Mathlib.Nat.{sub-zero, zero-add}
use mathlib.Core.Path.{◌≡◌, ap, ◌∙◌}
use lib.ListN.{drop}
use Rattle.link.specs.File.{sum_of}
use Rattle.link.proofs.Outcomes.{sum_more}
use Rattle.link.proofs.sum_of.Goals as goal

next : (n i sum k : ℕ) (table : List ℕ) → i < n → k ≡ number_at 4 (4 * i) table → sum + sum_of (n - i) (drop (4 * i) table) ≡ sum_of n table → (sum + k) + sum_of (n - (i + 1)) (drop (4 * (i + 1)) table) ≡ sum_of n table
next n i sum k table h e inv =
    let m : n - i ≡ suc (n - (i + 1)) = omega arith in
    let s : sum_of (n - i) (drop (4 * i) table) ≡ number_at 4 (4 * i) table + sum_of (n - (i + 1)) (drop (4 * (i + 1)) table) = ap (λ (j : ℕ). sum_of j (drop (4 * i) table)) m ∙ sum_more (n - (i + 1)) i table in
    omega arith

done : (n i sum : ℕ) (table : List ℕ) → n ≤ i → sum + sum_of (n - i) (drop (4 * i) table) ≡ sum_of n table → sum ≡ sum_of n table
unfolding sum_of
done n i sum table h inv =
    let m : n - i ≡ 0 = omega arith in
    omega (arith, rw m at inv)

pub loop-i-init : goal.loop-i-init
loop-i-init c = (rw (sub-zero, zero-add), omega arith)

pub loop-i-preserved : goal.loop-i-preserved
loop-i-preserved c =
    (next c.args.n c.loop-i.i c.loop-i.sum c.wide-sum.result c.args.table.now (omega arith) (c.wide-sum.ensures.0 ∙ c.u32_at.ensures) c.loop-i.invariant.0, omega (arith, c.wide-sum.ensures.1))

pub returns : goal.returns
returns c = done c.args.n c.loop-i.i c.loop-i.sum c.args.table.now (omega arith) c.loop-i.invariant.0
