use Rattle.std.proofs.Common.{sym, ◌∙◌}
use Rattle.sealed_receiver.proofs.parts.begin_second_part.Goals as goal

pub returns : goal.returns
returns c = rw (sym c.no_second_part.ensures ∙ c.if-no_second_part.false) (c.more.ensures c.args.store.now ∙ rw c.state_at.ensures)
