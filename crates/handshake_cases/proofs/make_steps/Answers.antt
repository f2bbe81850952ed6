use Rattle.std.proofs.Common.{◌≡◌, refl, suc, ◌+◌, ◌-◌, ◌*◌, arith}
use Rattle.handshake_cases.specs.Steps.{side_of, steps_from}
use Rattle.handshake_cases.proofs.Laws.{steps-broken, steps_on, good-within}
use Rattle.records.proofs.Laws.{taken-some, did_all, did_broken}
use Rattle.handshake_cases.proofs.make_steps.Goals as goal

pub returns-then-not-step_good : goal.returns-then-not-step_good
returns-then-not-step_good c =
    let h : c.args.n - c.loop-i.i ≡ suc (c.args.n - (c.loop-i.i + 1)) = omega arith in
    did_broken (steps-broken _ _ _ _ _ _ h c.step_good.ensures c.if-not-step_good.true c.loop-i.invariant.left) (c.bad_record.ensures _)

pub loop-i-preserved : goal.loop-i-preserved
loop-i-preserved c =
    let h : c.args.n - c.loop-i.i ≡ suc (c.args.n - (c.loop-i.i + 1)) = omega arith in
    let w = good-within c.args.s.now (4 + 2 * c.loop-i.i) c.step_good.ensures c.if-not-step_good.false in
    record {
      within = omega arith;
      left = steps_on c.args.s.now (side_of c.args.side) c.loop-i.state _ _ _ h c.step_good.ensures c.if-not-step_good.false (omega arith) c.byte_at.ensures c.byte_at-in-loop-i.ensures c.make_step-step.ensures c.print_step.ensures c.loop-i.invariant.left;
    }

pub returns : goal.returns
unfolding steps_from
returns c =
    let e : c.loop-i.i ≡ c.args.n = omega arith in
    let z : c.args.n - c.args.n ≡ 0 = omega arith in
    did_all _ (rw (e, z) at c.loop-i.invariant.left) (taken-some _ _ refl (omega arith)) (omega (arith, c.loop-i.invariant.within))
