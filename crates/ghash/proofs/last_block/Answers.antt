use Rattle.std.proofs.Common.{◌∙◌, ap}
use Rattle.std.specs.Int.{w128, from_be_bytes}
use Rattle.ghash.proofs.Blocks.{number_is, last_is}
use Rattle.ghash.proofs.last_block.Goals as goal

pub returns : goal.returns
returns c = c.from_be_bytes.ensures ∙ ap (from_be_bytes w128) c.put.ensures ∙ number_is _ ∙ last_is c.args.bytes.now
