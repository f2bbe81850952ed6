use Rattle.records.specs.Records.{prints}
use Rattle.connection_cases.proofs.make_call.Goals as goal

pub returns : goal.returns
unfolding prints
returns c = record { state = cc; taken = cc; store = cc; printed = cc }
