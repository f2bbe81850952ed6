use native.Mathlib.Omega.{arith}
use Rattle.std.proofs.Common.{sym, ◌∙◌, ◌+◌, ◌≤◌, length}
use Rattle.link.proofs.Chains.{step-none, step-refused, step-next}
use Rattle.link.proofs.steps.+preamble_step_segment_step.Goals as goal

pub preamble_step-returns-then-bytes-at : goal.preamble_step-returns-then-bytes-at
preamble_step-returns-then-bytes-at t c =
    step-none c.args.w _ c.args.bytes.now _ c.args.at _ _ c.if-bytes-at.true c.requires.1.live c.kept.ensures

pub preamble_step-returns-then-is_some : goal.preamble_step-returns-then-is_some
preamble_step-returns-then-is_some t c =
    let h : c.args.at + c.preamble_bytes-n.result ≤ length c.args.bytes.now = omega (arith, c.preamble_bytes-n.ensures.0) in
    step-refused c.args.w _ c.args.bytes.now _ c.args.at c.preamble_bytes-n.result h c.advance-next.result _ _ c.advance-next.ensures (sym c.is_some.ensures ∙ c.if-is_some.true)

pub preamble_step-returns : goal.preamble_step-returns
preamble_step-returns t c =
    let h : c.args.at + c.preamble_bytes-n.result ≤ length c.args.bytes.now = omega (arith, c.preamble_bytes-n.ensures.0) in
    step-next c.args.w _ c.args.bytes.now _ c.args.at c.preamble_bytes-n.result h c.advance-next.result _ _ c.advance-next.ensures _ _ _ (sym c.is_some.ensures ∙ c.if-is_some.false) c.segment_step.ensures

pub segment_step-returns-then-bytes-at : goal.segment_step-returns-then-bytes-at
segment_step-returns-then-bytes-at t c =
    step-none c.args.w _ c.args.bytes.now _ c.args.at _ _ c.if-bytes-at.true c.requires.2.live c.kept.ensures

pub segment_step-returns-then-is_some : goal.segment_step-returns-then-is_some
segment_step-returns-then-is_some t c =
    let h : c.args.at + c.min-n.result ≤ length c.args.bytes.now = omega (arith, c.min-n.ensures) in
    step-refused c.args.w _ c.args.bytes.now _ c.args.at c.min-n.result h c.advance-next.result _ _ c.advance-next.ensures (sym c.is_some.ensures ∙ c.if-is_some.true)

pub segment_step-returns : goal.segment_step-returns
segment_step-returns t c =
    let h : c.args.at + c.min-n.result ≤ length c.args.bytes.now = omega (arith, c.min-n.ensures) in
    step-next c.args.w _ c.args.bytes.now _ c.args.at c.min-n.result h c.advance-next.result _ _ c.advance-next.ensures _ _ _ (sym c.is_some.ensures ∙ c.if-is_some.false) c.segment_step-2.ensures
