use mathlib.Core.Path.{◌∙◌}
use Rattle.connection_cases.specs.Calls.{empty_done}
use Rattle.connection_cases.proofs.print_empty.Goals as goal

pub returns : goal.returns
unfolding empty_done
returns c = c.print_outcome.ensures ∙ rw (c.checksum.ensures, ← c.count_up.ensures, ← c.empty_header.ensures, ← c.build_sealed-o.ensures.promise)
