use Rattle.fields.proofs.Drafts.{one_more, none_yet}
use Rattle.fields.proofs.append_words.Goals as goal

pub loop-n-init : goal.loop-n-init
loop-n-init c = λ p e. none_yet _ _ e

pub loop-n-preserved : goal.loop-n-preserved
loop-n-preserved c = λ p e. one_more c.loop-n.n-index c.args.ns.now c.loop-n-test.true (c.loop-n.invariant p e) c.append_u32-next.ensures
