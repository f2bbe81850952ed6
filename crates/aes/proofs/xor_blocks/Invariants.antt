use Rattle.std.proofs.Common.{◌≡◌, ◌*◌, ◌++◌, take, drop}
use Rattle.aes.specs.Counter.{gctr}
use Rattle.aes.proofs.xor_blocks.Given as goal

abbrev pub invariant-loop-i : goal.invariant-loop-i
invariant-loop-i l = l.buf ≡ take (16 * l.i) (gctr l.w l.nonce l.initial.buf) ++ drop (16 * l.i) l.initial.buf
