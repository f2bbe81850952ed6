-- The chain's link is the contract: what a caller learns from `receive` is `Answered`, by computation, and nothing is asked of the caller.
use Rattle.receiver.specs.Step.{Answered}
use Rattle.receiver.proofs.receive.Reads as reads

pub tied : (κs : _) (a : _) (r : _) (s : _) → reads.Learnt κs a r s → Answered a.0 a.1.1.0.now a.1.0.now r s.1.1.0.now
tied κs a r s h = h

pub free : (κs : _) (a : _) → reads.Asked κs a
free κs a = tt
