use Rattle.std.proofs.Common.{arith}
use Rattle.link.proofs.Outcomes.{few_by, falls}
use Rattle.check_link.proofs.run.Goals as goal
use Rattle.check_link.proofs.run.Lts.{r-4}

-- r-4.is.Ok is what the type of a link says of a value
pub loop-n-smaller : goal.loop-n-smaller
loop-n-smaller c =
    falls c.loop-n.link _ _ _ c.read-link.result _ _ c.read-link.ensures (omega (arith, c.loop-n.invariant, c.loop-n-test.true)) (few_by (λ l. r-4.is.Ok c.read-link.lifetimes l) c.read-link.result c.read-link.type_inv (λ left w x. omega (arith, x)))
