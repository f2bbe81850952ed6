use Rattle.std.proofs.Common.{◌≡◌, ◌≢◌, ◌∙◌, ℕ, ◌+◌, ◌*◌, ◌/◌, sym, ap, length, arith}
use borrow.Author.Tests.{eqb-true, eqb-false}
use Rattle.std.specs.Int.Bits.{bit_xor}
use Rattle.ghash.specs.Ghash.{product, ghash_from}
use Rattle.ghash.proofs.Blocks.{next_block, no_more, one_more}
use Rattle.ghash.proofs.hash_text.Goals as goal

pub loop-block-preserved : goal.loop-block-preserved
loop-block-preserved c =
    let l = c.loop-block in
    let s = c.args.s.now in
    λ v n f.
    l.invariant v n f
    ∙ next_block v s c.as_chunks.result.0.now (length s / 16) l.block-index n l.y c.times_by-y.result c.as_chunks.ensures.front (omega (arith, c.as_chunks.ensures.front_len))
    (c.times_by-y.ensures v f ∙ ap (λ x. product (bit_xor l.y x) v) c.from_be_bytes.ensures)

pub returns-then-is_empty : goal.returns-then-is_empty
returns-then-is_empty c =
    let l = c.loop-block in
    let s = c.args.s.now in
    let k : length c.as_chunks.result.1.now ≡ 0 = eqb-true (length c.as_chunks.result.1.now) 0 (sym c.if-is_empty.ensures) in
    let e : (length s + 15) / 16 ≡ length s / 16 + 0 = omega (arith, k, c.as_chunks.ensures.back_len) in
    λ v f. sym (ap (λ (n : ℕ). ghash_from v s n 0 0) e ∙ l.invariant v 0 f ∙ no_more v s (length s / 16) l.block-index (16 * l.block-index) l.y (omega (arith, c.as_chunks.ensures.front_len)))

pub returns : goal.returns
returns c =
    let l = c.loop-block in
    let s = c.args.s.now in
    let k : length c.as_chunks.result.1.now ≢ 0 = eqb-false (length c.as_chunks.result.1.now) 0 (sym c.if-is_empty.ensures) in
    let e : (length s + 15) / 16 ≡ length s / 16 + 1 = omega (arith, k, c.as_chunks.ensures.back_len) in
    λ v f.
    let z = c.times_by.ensures v f ∙ ap (λ x. product (bit_xor l.y x) v) c.last_block.ensures in
    sym (ap (λ (n : ℕ). ghash_from v s n 0 0) e ∙ l.invariant v 1 f
    ∙ one_more v s c.as_chunks.result.1.now (length s / 16) l.block-index l.y c.times_by.result (omega (arith, c.as_chunks.ensures.front_len)) c.as_chunks.ensures.back z)
