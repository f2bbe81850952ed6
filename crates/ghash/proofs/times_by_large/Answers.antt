use Rattle.std.proofs.Common.{sym}
use Rattle.ghash.proofs.Entries.{four_quarters}
use Rattle.ghash.proofs.times_by_large.Goals as goal

pub returns : goal.returns
returns c =
    let y = c.args.x in
    λ v f.
    four_quarters v y _ _ _ _ (c.quarter_by-a.ensures v y 96 f (sym c.quarter.ensures)) (c.quarter_by-b.ensures v y 64 f (sym c.quarter-2.ensures))
    (c.quarter_by-c.ensures v y 32 f (sym c.quarter-3.ensures))
    (c.quarter_by.ensures v y 0 f (sym c.quarter-4.ensures))
