use Rattle.std.proofs.Common.{arith}
use Rattle.receiver.specs.Step.{state_at, moved_to}
use Rattle.receiver.proofs.Live.{inside_of}
use Rattle.receiver.proofs.Feeding.{begin, progress, within}
use Rattle.receiver.proofs.FeedLoop.{lasting, turn, midway, onward, reported, finished}
use Rattle.receiver.proofs.pieces.feed.Goals as goal

pub loop-block-init : goal.loop-block-init
loop-block-init c = let g = c.args in begin lasting g.piece.now g.store.now (state_at g.from g.came g.block.now g.knew) c.requires

pub step-o-requires : goal.step-o-requires
step-o-requires c =
    let m = c.loop-block in
    let r = (midway _ _ _ (moved_to m.m m.block) m.store c.loop-block-test.ensures m.invariant).running in
    (inside_of r, r.fits)

pub loop-block-smaller : goal.loop-block-smaller
loop-block-smaller c =
    let m = c.loop-block in
    let t = turn (midway _ _ _ (moved_to m.m m.block) m.store c.loop-block-test.ensures m.invariant) c.if-m-piece.true c.step-o.ensures c.step-o.auto.store in
    omega (arith, within t, progress t)

pub loop-block-preserved : goal.loop-block-preserved
loop-block-preserved c =
    let m = c.loop-block in
    onward _ _ _ (turn (midway _ _ _ (moved_to m.m m.block) m.store c.loop-block-test.ensures m.invariant) c.if-m-piece.true c.step-o.ensures c.step-o.auto.store)

pub returns-else-m-piece : goal.returns-else-m-piece
returns-else-m-piece c = let m = c.loop-block in finished _ _ _ (moved_to m.m m.block) m.store c.if-m-piece.false m.invariant

pub returns-after-loop-block : goal.returns-after-loop-block
returns-after-loop-block c = let m = c.loop-block in reported _ _ _ (moved_to m.m m.block) m.store c.loop-block-test.ensures m.invariant
