use Rattle.connection_cases.proofs.lines.print_banner.Goals as goal

pub returns : goal.returns
returns c = cc
