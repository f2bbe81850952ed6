use Rattle.std.proofs.Common.{[], ◌∷◌}
use Rattle.text.specs.Line.{decimal_by}
use Rattle.text.specs.Page.{put}
use Rattle.text.proofs.Laws.{write-next}
use Rattle.text.proofs.Page.number.Goals as goal

pub returns : goal.returns
unfolding put
returns c = cc (write-next (32 ∷ []) (decimal_by 20 c.args.n) c.args.self.now)
