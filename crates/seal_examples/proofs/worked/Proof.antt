use Rattle.seal_examples.proofs.Computed.{fips, gcm, orders}
use Rattle.seal_examples.proofs.worked.Statement.{statement}
use Rattle.seal_examples.proofs.worked.Tie as tie

pub worked_spec : {M : Type 1} → statement M
worked_spec = tie.close (tie.spec (λ c. record { fips = fips; gcm = gcm; orders = orders }))
