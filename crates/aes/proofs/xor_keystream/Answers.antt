use Rattle.std.proofs.Common.{◌∙◌, ◌≡◌, ◌+◌, ◌*◌, ◌/◌, ◌%◌, arith}
use Rattle.aes.proofs.Counters.{masked-front}
use Rattle.aes.proofs.xor_keystream.Goals as goal

pub returns-then-m-eq0 : goal.returns-then-m-eq0
returns-then-m-eq0 c =
    let a = c.args in
    let m = c.min-m in
    let h : 16 * (m.result / 16) ≡ m.result = omega arith in
    c.xor_blocks.ensures ∙ masked-front a.w.now a.nonce a.buf.now a.n (16 * (m.result / 16)) (h ∙ m.ensures)

pub returns : goal.returns
returns c =
    let a = c.args in
    let m = c.min-m in
    let h : 16 * (m.result / 16) + m.result % 16 ≡ m.result = omega arith in
    c.xor_block.ensures a.w.now a.nonce a.buf.now c.keystream_block-last.ensures c.xor_blocks.ensures
    ∙ masked-front a.w.now a.nonce a.buf.now a.n (16 * (m.result / 16) + m.result % 16) (h ∙ m.ensures)
