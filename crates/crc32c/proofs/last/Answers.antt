use Rattle.std.proofs.Common.{◌∙◌, arith}
use Rattle.crc32c.proofs.Words.{crc-none}
use Rattle.crc32c.proofs.last.Goals as goal

pub returns-then-n-eq0 : goal.returns-then-n-eq0
returns-then-n-eq0 c = crc-none c.args.c c.args.rest.now (omega arith)

pub returns : goal.returns
returns c = c.fewer_steps.ensures ∙ c.mixed.ensures
