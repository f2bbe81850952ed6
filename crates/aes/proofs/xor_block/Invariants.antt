use Rattle.std.proofs.Common.{◌≡◌, ℕ, ◌+◌, ◌*◌, List, ◌++◌, take, drop}
use Rattle.aes.specs.Aes.{State}
use Rattle.aes.specs.Counter.{keystream_block, gctr}
use Rattle.aes.proofs.xor_block.Given as goal

abbrev pub invariant-loop-k : goal.invariant-loop-k
invariant-loop-k l =
    (w : List State) (nonce d : List ℕ) → l.s ≡ keystream_block w nonce (l.i + 2) → l.initial.buf ≡ take (16 * l.i) (gctr w nonce d) ++ drop (16 * l.i) d
    → l.buf ≡ take (16 * l.i + l.k) (gctr w nonce d) ++ drop (16 * l.i + l.k) d
