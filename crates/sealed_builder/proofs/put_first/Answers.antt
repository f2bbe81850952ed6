use Rattle.buffer.proofs.Parts.{next, overwrite_as}
use Rattle.preamble.specs.Layout.{preamble_bytes}
use Rattle.preamble.proofs.Laws.{length-preamble}
use Rattle.secure.specs.Layout.{inlined, first_text}
use Rattle.std.proofs.Common.{arith}
use Rattle.sealed_builder.proofs.put_first.Goals as goal

pub returns : goal.returns
unfolding first_text
returns c =
    let g = c.args in
    next g.out.now c.put.new.out (preamble_bytes g.h) (inlined g.first.now) c.put_inline.new.out 32
    (length-preamble g.h) (overwrite_as _ (preamble_bytes g.h) g.out.now _ c.put.ensures c.preamble_bytes.ensures (omega (arith, c.requires, length-preamble g.h))) c.put_inline.ensures
