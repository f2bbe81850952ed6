use Rattle.std.proofs.Common.{◌∙◌, sym, ap, arith}
use Rattle.refusal.specs.Writes.{wrote, done}
use Rattle.gcm.proofs.Answers.{seal_long, seal_short, seal_fits}
use Rattle.gcm.proofs.Placing.{sealed-over}
use Rattle.gcm.proofs.seal_with.Goals as goal

pub returns-then-n-gt-LONGEST : goal.returns-then-n-gt-LONGEST
returns-then-n-gt-LONGEST c = record { is = sym (seal_long _ _ _ _ c.if-n-gt-LONGEST.true) }

pub returns-then-out-n : goal.returns-then-out-n
returns-then-out-n c = record { is = sym (seal_short _ _ _ _ (omega arith) (omega arith)) }

pub returns : goal.returns
returns c = record { is = ap (done (wrote _)) (c.seal_front.ensures ∙ sealed-over _ _ _ _ _ (omega arith) c.put.ensures) ∙ sym (seal_fits _ _ _ _ (omega arith) (omega arith)) }
