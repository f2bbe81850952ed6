use Rattle.std.proofs.Common.{sym, ◌∙◌}
use Rattle.preamble.specs.Judge.{judge_header}
use Rattle.sealed_receiver.proofs.SecondPart.{whole-behind}
use Rattle.refusal.proofs.Judgements.{fine-is}
use Rattle.sealed_receiver.proofs.parts.begin_last.Goals as goal

pub returns-then-no_last_part : goal.returns-then-no_last_part
returns-then-no_last_part c =
    let g = c.args in
    c.end_whole.ensures ∙ whole-behind g.v g.store.now (fine-is (judge_header g.v.header) c.requires.1) (sym c.no_last_part.ensures ∙ c.if-no_last_part.true)

pub returns : goal.returns
returns c = rw (sym c.no_last_part.ensures ∙ c.if-no_last_part.false) (c.more.ensures c.args.store.now ∙ rw c.state_at.ensures)
