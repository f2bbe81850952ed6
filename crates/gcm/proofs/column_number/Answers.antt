use Rattle.std.proofs.Common.{◌∙◌, arith}
use Rattle.gcm.specs.Gcm.{column_number}
use Rattle.gcm.proofs.column_number.Goals as goal

pub returns : goal.returns
unfolding column_number
returns c = c.from_be_bytes.ensures ∙ omega arith
