use Rattle.std.proofs.Common.{ℕ, subst, arith}
use Rattle.crc32c.specs.Lanes.{Left}
use Rattle.crc32c.proofs.Words.{far}
use Rattle.crc32c.proofs.four_words.Goals as goal

pub loop-k-preserved : goal.loop-k-preserved
loop-k-preserved c =
    let w = c.loop-k.w in (
      omega arith,
      λ s h.
          let left = subst (λ (i : ℕ). Left s c.args.bytes.now w.a w.b w.c w.d i) c.loop-k.invariant.0 (c.loop-k.invariant.1 s h) in
          far c.mixed.result left (omega arith) c.mixed.ensures c.steps_128-far.ensures (omega arith),
    )
