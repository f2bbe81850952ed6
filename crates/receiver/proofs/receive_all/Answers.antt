use Rattle.std.proofs.Common.{arith, ◌≡◌, ◌∙◌, ◌<◌, ◌-◌, min, length, get_or}
use Rattle.std.proofs.Math.Seq.{take-length}
use Rattle.receiver.specs.Calls.{Demand3}
use Rattle.receiver.proofs.CallLoop.{called-none, called-next, clipped, gone_through}
use Rattle.receiver.proofs.Chain.{demand3}
use Rattle.receiver.proofs.receive_all.Goals as goal

pub loop-cut-init : goal.loop-cut-init
loop-cut-init c = called-none c.args.stream.now c.args.cuts.now c.args.store.now c.start.result.state

pub overflow_add-taken : goal.overflow_add-taken
overflow_add-taken c =
    let m = c.loop-cut in
    let n : c.min.result ≡ min (get_or c.args.cuts.now m.cut-index 0) (length c.args.stream.now - m.taken) = grind (arith, gone_through) in
    let i : m.cut-index < length c.args.cuts.now = omega arith in
    let e = clipped c.args.stream.now m.taken (get_or c.args.cuts.now m.cut-index 0) c.min.result m.invariant.within n in
    omega (arith, (called-next m.invariant i c.receive-o.auto.store (rw e at c.receive-o.ensures)).within)

pub loop-cut-preserved : goal.loop-cut-preserved
loop-cut-preserved c =
    let m = c.loop-cut in
    let n : c.min.result ≡ min (get_or c.args.cuts.now m.cut-index 0) (length c.args.stream.now - m.taken) = grind (arith, gone_through) in
    let i : m.cut-index < length c.args.cuts.now = omega arith in
    let e = clipped c.args.stream.now m.taken (get_or c.args.cuts.now m.cut-index 0) c.min.result m.invariant.within n in
    called-next m.invariant i c.receive-o.auto.store (rw e at c.receive-o.ensures)

pub returns : goal.returns
unfolding Demand3
returns c =
    let g = c.args in
    let done = rw c.start.ensures.state at c.loop-cut.invariant in
    let i : c.loop-cut.cut-index ≡ length g.cuts.now = omega arith in
    record {
      calls = done.calls;
      sizes = done.sizes ∙ rw (i, take-length);
      chained = done.chained;
      state = done.state;
      taken = done.taken;
      final = done.final;
      defined = demand3 g.own g.stream.now g.store.now done.calls done.chained;
    }
