use borrow.Author.Rules.{rules}
use Rattle.sealing_cases.specs.Sealing.{done_by}
use Rattle.sealing_cases.proofs.seal_or_open.Statement.{statement}
use Rattle.sealing_cases.proofs.seal_or_open.Tie as tie

returns : tie.Need-returns-then-opens
unfolding done_by
returns c = rw c.if-opens.true c.before.before.«open».ensures.is

returns-2 : tie.Need-returns
unfolding done_by
returns-2 c = rw c.if-opens.false c.seal.ensures.is

pub seal_or_open_spec : {M : Type 1} → statement M
seal_or_open_spec = tie.close (tie.spec (search rules) (search rules) returns (search rules) (search rules) returns-2)
