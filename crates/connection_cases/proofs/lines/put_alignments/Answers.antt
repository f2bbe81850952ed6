use Rattle.connection_cases.proofs.lines.put_alignments.Goals as goal

pub returns : goal.returns
returns c = cc
