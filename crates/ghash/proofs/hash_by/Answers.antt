use Rattle.std.proofs.Common.{◌∙◌, ap₂, length}
use Rattle.std.specs.Int.Bits.{bit_xor}
use Rattle.ghash.specs.Ghash.{product, ghash}
use Rattle.ghash.proofs.Blocks.{bits_of}
use Rattle.ghash.proofs.hash_by.Goals as goal

pub returns : goal.returns
unfolding ghash
returns c =
    c.times_by.ensures c.args.h c.fill.ensures
    ∙ ap₂ (λ x y. product (bit_xor x y) c.args.h) (c.hash_text-y.ensures c.args.h c.fill.ensures) (bits_of (length c.args.s.now))
