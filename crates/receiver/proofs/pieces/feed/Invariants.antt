use Rattle.std.proofs.Common.{length, ◌-◌}
use Rattle.receiver.specs.Step.{state_at, moved_to}
use Rattle.receiver.proofs.FeedLoop.{Far}
use Rattle.receiver.proofs.pieces.feed.Given as goal

abbrev pub invariant-loop-block : goal.invariant-loop-block
invariant-loop-block l = let f = l.fn in Far f.piece f.store (state_at f.from f.came f.block f.knew) (moved_to l.m l.block) l.store

abbrev pub decreases-loop-block : goal.decreases-loop-block
decreases-loop-block l = length l.piece - l.m.taken
