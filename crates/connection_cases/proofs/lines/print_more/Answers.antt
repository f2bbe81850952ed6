use Rattle.connection_cases.proofs.lines.print_more.Goals as goal

pub returns : goal.returns
returns c = cc
