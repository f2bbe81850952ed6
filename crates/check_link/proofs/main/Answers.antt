use Rattle.std.proofs.Common.{refl, length, replicate, ◌≤◌, ℕ}
use Rattle.std.proofs.lemmas.List.{length-replicate}
use lib.Dec.{lit≤}
use Rattle.text.specs.Page.{page}
use Rattle.check_link.proofs.main.Goals as goal

zeros : (n m : ℕ) → m ≤ n → m ≤ length (replicate {A = ℕ} n 0)
zeros n m h = rw length-replicate h

pub run-requires : goal.run-requires
unfolding page
run-requires c = (lit≤ tt, refl, rw c.new.ensures (zeros 65536 65536 (lit≤ tt)))
