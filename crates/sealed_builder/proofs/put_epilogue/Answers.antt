use Rattle.std.proofs.Common.{ap, arith}
use Rattle.banner.specs.declared.Revision.TheVariants.{Msgr21}
use Rattle.body.specs.Body.{late_byte}
use Rattle.buffer.proofs.Parts.{overwrite_as}
use Rattle.secure.specs.Layout.{epilogue16}
use Rattle.sealed_builder.proofs.put_epilogue.Goals as goal

pub returns : goal.returns
returns c =
    let g = c.args in
    overwrite_as _ (epilogue16 (late_byte Msgr21 g.abort)) g.out.now _ c.put.ensures (ap epilogue16 c.late_byte-late.ensures) (omega (arith, c.requires))
