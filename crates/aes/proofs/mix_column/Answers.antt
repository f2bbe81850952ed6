use Rattle.std.proofs.Common.{◌∙◌, ap, rules}
use Rattle.std.specs.Int.{w32, from_le_bytes}
use Rattle.buffer.specs.Le.{le}
use Rattle.aes.specs.Packed.{mixed_word}
use Rattle.aes.proofs.Packing.{packed, written, mix_packed}
use Rattle.aes.proofs.mix_column.Goals as goal

pub returns : goal.returns
returns c =
    c.to_le_bytes.ensures ∙ written c.mix_word.result ∙ ap (le 4) (c.mix_word.ensures ∙ ap mixed_word c.from_le_bytes.ensures)
    ∙ mix_packed c.args.c (from_le_bytes w32 c.args.c) (packed c.args.c (search rules))
