use Rattle.connection_cases.proofs.lines.print_judgement.Goals as goal

pub returns-in-Err : goal.returns-in-Err
returns-in-Err c = rw c.in-Err.is (cc)
