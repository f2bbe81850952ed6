use Rattle.std.proofs.Common.{◌≡◌, sym, ap, ◌∙◌, suc, ℕ, ◌+◌, ◌-◌, ◌*◌, arith}
use Rattle.connection_cases.specs.Places.{call_good, calls_good}
use Rattle.connection_cases.proofs.Laws.{calls-none, good-next, good_stop, place-on}
use Rattle.connection_cases.proofs.places.calls_good.Goals as goal

pub returns-then-not-call_good : goal.returns-then-not-call_good
returns-then-not-call_good c =
    let h : c.args.n - c.loop-i.i ≡ suc (c.args.n - (c.loop-i.i + 1)) = omega arith in
    sym (good_stop c.args.l c.args.s.now _ _ _ h (sym (ap (call_good c.args.l) c.call_at.ensures) ∙ sym c.call_good.ensures ∙ c.if-not-call_good.true)) ∙ c.loop-i.invariant

pub loop-i-preserved : goal.loop-i-preserved
loop-i-preserved c =
    let h : c.args.n - c.loop-i.i ≡ suc (c.args.n - (c.loop-i.i + 1)) = omega arith in
    let w = c.call_width-width.result in
    let e = place-on c.args.from w c.loop-i.i in
    sym (good-next c.args.l c.args.s.now _ _ _ h (c.args.from + w * (c.loop-i.i + 1)) (e ∙ ap (λ (k : ℕ). c.args.from + w * c.loop-i.i + k) c.call_width-width.ensures.0) (sym (ap (call_good c.args.l) c.call_at.ensures) ∙ sym c.call_good.ensures ∙ c.if-not-call_good.false)) ∙ c.loop-i.invariant

pub returns : goal.returns
unfolding calls_good
returns c =
    let z : c.args.n - c.loop-i.i ≡ 0 = omega arith in
    rw (calls-none c.args.l.lends c.args.s.now _ _ z) at c.loop-i.invariant
