use Rattle.std.proofs.Common.{length, ◌-◌}
use Rattle.sealed_receiver.proofs.FeedLoop.{Midway}
use Rattle.sealed_receiver.proofs.pieces.take_piece.Given as goal

abbrev pub invariant-loop-at : goal.invariant-loop-at
invariant-loop-at l = Midway l.piece l.fn.store l.fn.state l.store l.st l.at

-- what is left of the piece
abbrev pub decreases-loop-at : goal.decreases-loop-at
decreases-loop-at l = length l.piece - l.at
