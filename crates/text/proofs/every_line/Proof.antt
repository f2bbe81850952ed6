use Rattle.text.proofs.Laws.{every-line}
use Rattle.text.proofs.every_line.Statement.{statement}
use Rattle.text.proofs.every_line.Tie as tie

pub every_line_spec : {M : Type 1} → statement M
every_line_spec = tie.close (tie.spec (λ c. every-line))
