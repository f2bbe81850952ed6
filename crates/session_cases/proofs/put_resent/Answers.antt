use Rattle.std.proofs.Common.{◌≡◌, ◌∙◌, sym, ◌-◌, arith}
use Rattle.session_cases.proofs.Laws.{resent-on, resent-none}
use Rattle.session_cases.proofs.put_resent.Goals as goal

pub loop-i-init : goal.loop-i-init
loop-i-init c = let e : c.args.k - 0 ≡ c.args.k = omega arith in rw e

pub loop-i-preserved : goal.loop-i-preserved
loop-i-preserved c = resent-on c.args.s c.loop-i.i c.args.k c.loop-i.page c.loop-i-test.true (cc) ∙ c.loop-i.invariant

pub returns : goal.returns
returns c =
    let e : c.loop-i.i ≡ c.args.k = omega arith in
    sym (resent-none c.args.s c.args.k c.loop-i.page) ∙ rw e at c.loop-i.invariant
