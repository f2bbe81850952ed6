use Rattle.std.proofs.Common.{arith, sym}
use Rattle.abi_bodies.proofs.Laws.{tag_beyond, none_asked, one_asked}
use Rattle.abi_bodies.proofs.write_any.Goals as goal

pub returns-in_default : goal.returns-in_default
returns-in_default c = tag_beyond _ _ _ _ _ _ (omega (arith, c.in_default.ensures))

pub returns-in_default-asked : goal.returns-in_default-asked
returns-in_default-asked c = none_asked _ _ _ _ _ _ (sym c.in_default-asked.ensures)

pub returns : goal.returns
returns c =
    let e = c.in-Ok.ensures in
    one_asked _ _ _ _ _ _ _ _ _ (omega (arith, e)) (sym c.in-Some.ensures) (rw e.1 at c.write.ensures)
