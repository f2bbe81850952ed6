use Rattle.preamble.proofs.Laws as laws
use Rattle.preamble.proofs.fine_exactly.Statement.{statement}
use Rattle.preamble.proofs.fine_exactly.Tie as tie

pub fine_exactly_spec : {M : Type 1} → statement M
fine_exactly_spec = tie.close (tie.spec (λ c. laws.fine-exactly))
