use Rattle.std.proofs.Common.{◌≡◌, ◌∙◌, ◌+◌, ◌*◌, length, rules, arith}
use Rattle.std.proofs.Math.Nat.{add-zero}
use Rattle.aes.proofs.Counters.{xor_more, front_length}
use Rattle.aes.proofs.xor_block.Goals as goal

pub loop-k-init : goal.loop-k-init
loop-k-init c = λ w nonce d es e. e ∙ rw add-zero

pub loop-k-preserved : goal.loop-k-preserved
loop-k-preserved c =
    let l = c.loop-k in
    let a = c.args in
    λ w nonce d es e.
    let before = l.invariant w nonce d es e in
    let n : length l.buf ≡ length d = front_length w nonce d l.buf (16 * a.i + l.k) before in
    xor_more w nonce d l.buf a.s a.i l.k c.byte_of.result (search rules) (omega arith) es c.byte_of.ensures before

pub returns : goal.returns
returns c =
    let k : c.loop-k.k ≡ c.args.n = omega arith in
    λ w nonce d es e. c.loop-k.invariant w nonce d es e ∙ rw k
