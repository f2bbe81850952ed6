use Rattle.std.proofs.Common.{◌≡◌, refl, suc, ◌+◌, ◌-◌, ◌*◌, arith}
use Rattle.session_cases.specs.Session.{calls_from}
use Rattle.session_cases.proofs.Laws.{calls-broken, calls-on, good-within}
use Rattle.records.proofs.Laws.{taken-some, did_all, did_broken}
use Rattle.session_cases.proofs.make_calls.Goals as goal

pub returns-then-not-call_good : goal.returns-then-not-call_good
returns-then-not-call_good c =
    let h : c.args.n - c.loop-i.i ≡ suc (c.args.n - (c.loop-i.i + 1)) = omega arith in
    did_broken (calls-broken _ _ _ _ _ h c.call_good.ensures c.if-not-call_good.true c.loop-i.invariant.left) (c.bad_record.ensures _)

pub loop-i-preserved : goal.loop-i-preserved
loop-i-preserved c =
    let h : c.args.n - c.loop-i.i ≡ suc (c.args.n - (c.loop-i.i + 1)) = omega arith in
    let w = good-within c.args.s.now (11 + 9 * c.loop-i.i) c.call_good.ensures c.if-not-call_good.false in
    record {
      within = omega arith;
      left = calls-on c.args.s.now c.loop-i.session _ _ _ h c.call_good.ensures c.if-not-call_good.false (omega arith) c.byte_at.ensures c.u64_at.ensures c.make_call-session.ensures c.loop-i.invariant.left;
    }

pub returns : goal.returns
unfolding calls_from
returns c =
    let e : c.loop-i.i ≡ c.args.n = omega arith in
    let z : c.args.n - c.args.n ≡ 0 = omega arith in
    did_all _ (rw (e, z) at c.loop-i.invariant.left) (taken-some _ _ refl (omega arith)) (omega (arith, c.loop-i.invariant.within))
