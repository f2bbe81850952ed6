use Rattle.preamble.proofs.Back as back
use Rattle.preamble.proofs.reads_back.Statement.{statement}
use Rattle.preamble.proofs.reads_back.Tie as tie

pub reads_back_spec : {M : Type 1} → statement M
reads_back_spec = tie.close (tie.spec (λ c. back.reads-back))
