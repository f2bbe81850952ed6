use Rattle.std.proofs.Common.{◌≡◌, ◌∙◌, ◌+◌, ◌*◌, arith}
use Rattle.aes.proofs.xor_blocks.Goals as goal

pub loop-i-preserved : goal.loop-i-preserved
loop-i-preserved c =
    let a = c.args in
    let e : 16 * c.loop-i.i + 16 ≡ 16 * (c.loop-i.i + 1) = omega arith in
    c.xor_block.ensures a.w.now a.nonce a.buf.now c.keystream_block-s.ensures c.loop-i.invariant ∙ rw e

pub returns : goal.returns
returns c =
    let e : c.loop-i.i ≡ c.args.blocks = omega arith in
    c.loop-i.invariant ∙ rw e
