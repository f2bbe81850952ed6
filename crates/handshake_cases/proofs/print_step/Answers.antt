use Rattle.text.proofs.Laws.{puts-append}
use Rattle.handshake_cases.specs.Steps.{step_line}
use Rattle.handshake_cases.proofs.print_step.Goals as goal

pub returns : goal.returns
unfolding step_line
returns c = rw puts-append (cc)
