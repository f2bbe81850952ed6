-- The numbers that the loop has gone over are appended.
use Rattle.std.proofs.Common.{◌≡◌, true}
use Rattle.fields.specs.declared.Draft.{Draft}
use Rattle.fields.specs.Writing.{counted}
use Rattle.fields.proofs.Drafts.{Sofar}
use Rattle.fields.proofs.append_words.Given as goal

abbrev pub invariant-loop-n : goal.invariant-loop-n
invariant-loop-n l = (p : Draft) → l.initial.next ≡ counted true 0 0 p → Sofar l.ns l.n-index p l.initial.out l.next l.out
