use Rattle.std.proofs.Common.{◌∙◌, ap, ap₂, rules}
use Rattle.std.specs.Int.{w32, from_le_bytes}
use Rattle.std.specs.Int.Bits.{bit_xor}
use Rattle.buffer.specs.Le.{le}
use Rattle.aes.proofs.Packing.{packed, written, add_packed}
use Rattle.aes.proofs.add_column.Goals as goal

pub returns : goal.returns
returns c =
    c.to_le_bytes.ensures ∙ written (bit_xor c.from_le_bytes.result c.from_le_bytes-2.result)
    ∙ ap (le 4) (ap₂ bit_xor c.from_le_bytes.ensures c.from_le_bytes-2.ensures)
    ∙ add_packed c.args.a c.args.b (from_le_bytes w32 c.args.a) (from_le_bytes w32 c.args.b) (packed c.args.a (search rules)) (packed c.args.b (search rules))
