use Rattle.std.proofs.Common.{sym, ◌∙◌, arith}
use Rattle.receiver.proofs.Feeding.{begin, progress, within, again}
use Rattle.sealed_receiver.proofs.Gathered.{lasting}
use Rattle.sealed_receiver.proofs.FeedLoop.{turn, reported, finished, some-report, no-report}
use Rattle.sealed_receiver.proofs.pieces.take_piece.Goals as goal

pub loop-at-init : goal.loop-at-init
loop-at-init c = begin lasting c.args.piece.now c.args.store.now c.args.state c.requires

pub step-o-requires : goal.step-o-requires
step-o-requires c = c.loop-at.invariant.running

pub returns-then-is_some : goal.returns-then-is_some
returns-then-is_some c = reported (turn c.loop-at.invariant c.loop-at-test.true c.step-o.ensures c.step-o.auto.store) (some-report c.step-o.result.report (sym c.is_some.ensures ∙ c.if-is_some.true))

pub loop-at-smaller : goal.loop-at-smaller
loop-at-smaller c =
    let t = turn c.loop-at.invariant c.loop-at-test.true c.step-o.ensures c.step-o.auto.store in
    omega (arith, within t, progress t)

pub loop-at-preserved : goal.loop-at-preserved
loop-at-preserved c = again (turn c.loop-at.invariant c.loop-at-test.true c.step-o.ensures c.step-o.auto.store) (no-report c.step-o.result.report (sym c.is_some.ensures ∙ c.if-is_some.false))

pub returns : goal.returns
returns c = finished c.loop-at.invariant c.loop-at-test.false
