use Rattle.std.proofs.Common.{◌∙◌}
use Rattle.fields.proofs.Skips.{number-got, beyond_list}
use Rattle.fields.proofs.number_in.Goals as goal

pub returns-then-l-i : goal.returns-then-l-i
returns-then-l-i c = beyond_list c.args.s.now c.args.l.at _ _ c.if-l-i.true

pub returns : goal.returns
returns c = c.u32_at.ensures ∙ number-got _ _ _ _ _ c.min.ensures c.if-l-i.false
