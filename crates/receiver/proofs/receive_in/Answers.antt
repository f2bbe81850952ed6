use Rattle.std.proofs.Common.{arith, length, ◌+◌, ◌<◌, ◌∙◌}
use Rattle.receiver.specs.Step.{state_at, size, Running}
use Rattle.receiver.proofs.Live.{inside_of}
use Rattle.receiver.proofs.Every.{feeding, answered_as}
use Rattle.receiver.proofs.FeedLoop.{held-piece}
use Rattle.receiver.proofs.receive_in.Goals as goal

pub overflow_sub-size_of : goal.overflow_sub-size_of
overflow_sub-size_of c =
    let g = c.args in
    let r : Running (state_at g.stage g.got g.block.now g.known) g.store.now = record { agree = cc; live = cc; fits = omega (arith, c.needed_by-need.ensures) } in
    omega (arith, inside_of r)

pub returns-then-piece-size_of : goal.returns-then-piece-size_of
returns-then-piece-size_of c =
    let g = c.args in
    let st = state_at g.stage g.got g.block.now g.known in
    let r : Running st g.store.now = record { agree = cc; live = cc; fits = omega (arith, c.needed_by-need.ensures) } in
    let l : g.got + length g.piece.now < size st = omega (arith, c.size_of.ensures) in
    let h = held-piece st g.store.now g.piece.now l in
    let p = c.place_of.ensures in
    answered_as (feeding _ _ _ r) (rw (c.fill.ensures.0, p) h.received) (c.fill.ensures.1 ∙ rw p h.store)
