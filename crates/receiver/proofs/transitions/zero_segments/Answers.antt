use Rattle.std.proofs.Common.{arith, ℕ, ◌∙◌}
use Rattle.std.proofs.lemmas.List.{length-replicate}
use Rattle.buffer.proofs.Parts.{overwrite-fits}
use Rattle.receiver.proofs.transitions.zero_segments.Goals as goal

pub returns : goal.returns
returns c h = c.put_zeros.ensures ∙ rw c.total_of.ensures (overwrite-fits _ c.args.store.now (omega (arith, length-replicate {A = ℕ}, h)))
