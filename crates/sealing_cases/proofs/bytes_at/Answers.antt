use Rattle.std.proofs.Common.{◌∙◌, arith, replicate}
use Rattle.std.proofs.lemmas.List.{length-replicate}
use Rattle.sealing_cases.proofs.Laws.{bytes-all}
use Rattle.sealing_cases.proofs.bytes_at.Goals as goal

pub returns : goal.returns
returns g c = λ h. c.put.ensures ∙ rw c.part.ensures (bytes-all c.args.s.now (replicate g.row.N 0) c.args.at g.row.N (length-replicate g.row.N 0) (omega arith))
