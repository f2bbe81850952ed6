use Rattle.std.proofs.Common.{◌≡◌, ap, ◌∙◌, suc, ℕ, ◌+◌, ◌-◌, ◌*◌, arith}
use Rattle.records.specs.Records.{prints}
use Rattle.connection_cases.specs.Calls.{call_lines}
use Rattle.connection_cases.proofs.Laws.{calls-none, calls-on, place-on}
use Rattle.connection_cases.proofs.make_calls.Goals as goal

pub loop-i-preserved : goal.loop-i-preserved
loop-i-preserved c =
    let h : c.args.n - c.loop-i.i ≡ suc (c.args.n - (c.loop-i.i + 1)) = omega arith in
    let w = c.call_width-width.result in
    let e = place-on c.args.from w c.loop-i.i in
    calls-on c.args.l c.args.s.now _ _ _ (c.args.from + w * (c.loop-i.i + 1)) c.loop-i.state c.call_at-call.result c.loop-i.rest.now c.loop-i.store h
    (e ∙ ap (λ (k : ℕ). c.args.from + w * c.loop-i.i + k) c.call_width-width.ensures.0) c.call_at-call.ensures c.make_either-o.ensures c.behind-rest.ensures
    ∙ c.loop-i.invariant

pub returns : goal.returns
unfolding call_lines prints
returns c =
    let z : c.args.n - c.loop-i.i ≡ 0 = omega arith in
    rw (calls-none c.args.l.lends c.args.s.now _ _ z) at c.loop-i.invariant
