use mathlib.Core.Bool.{and_assoc}
use Rattle.buffer.specs.Le.{Bytes}
use Rattle.buffer.proofs.Zeros.{four-words}
use Rattle.receiver.proofs.states.zeros_from.Goals as goal

pub returns : goal.returns
returns c =
    let g = c.args in
    let b : Bytes g.block.now = record { at = c.fits-block } in
    simp (c.is_within.ensures, c.is_within-2.ensures, c.is_within-3.ensures, c.is_within-4.ensures, c.u64_at.ensures, c.u64_at-2.ensures, c.u64_at-3.ensures, c.u64_at-4.ensures, c.saturating_sub.ensures, c.saturating_sub-2.ensures, c.saturating_sub-3.ensures, and_assoc) (four-words g.block.now g.from b c.told-block)
