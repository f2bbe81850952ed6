-- Nonces one behind the other, no more than there are counters, are all different.
use Rattle.std.proofs.Common.{ℕ, zero, suc, ◌+◌, ◌≤◌, List, sym, arith}
use Rattle.secure.specs.Layout.{all_nonces, next_nonce, nonce_after}
use Rattle.secure.proofs.Runs.{run, after_next, not_again}
use Rattle.sealed_builder.specs.Nonces.{NoneIs, AllDifferent}

none_is : (k j : ℕ) (nonce : List ℕ) → suc j + k ≤ all_nonces → NoneIs nonce (run k (nonce_after (suc j) nonce))
none_is zero j nonce h = tt
none_is (suc k) j nonce h =
    (not_again j nonce (omega arith), rw (sym (after_next (suc j) nonce)) (none_is k (suc j) nonce (omega arith)))

pub all-different : (k : ℕ) (nonce : List ℕ) → k ≤ all_nonces → AllDifferent (run k nonce)
unfolding nonce_after
all-different zero nonce h = tt
all-different (suc k) nonce h = (none_is k zero nonce (omega arith), all-different k (next_nonce nonce) (omega arith))
