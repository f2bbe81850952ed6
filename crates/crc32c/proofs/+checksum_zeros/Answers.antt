use mathlib.Core.Path.{◌∙◌}
use native.Mathlib.Omega.{arith}
use Rattle.crc32c.proofs.Runs.{none, even, odd}
use Rattle.crc32c.proofs.+checksum_zeros.Goals as goal

pub returns-then-n-eq0 : goal.returns-then-n-eq0
returns-then-n-eq0 t c = none c.args.start c.args.n (omega arith)

pub returns-then-n-eq0-2 : goal.returns-then-n-eq0-2
returns-then-n-eq0-2 t c = even c.args.n c.root_of.result c.root_of.ensures c.checksum_zeros-half.ensures c.square_of-even.ensures (omega arith) (omega arith)

pub returns : goal.returns
returns t c = c.fewer_steps.ensures ∙ odd c.args.n c.root_of.result c.root_of.ensures c.checksum_zeros-half.ensures c.square_of-even.ensures (omega arith) (omega arith)
