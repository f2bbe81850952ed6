use Rattle.crc_steps.proofs.Rules.{word_steps}
use Rattle.crc_steps.proofs.by_bytes.Goals as goal

pub returns : goal.returns
returns g c = word_steps g.row.N c.args.word c.args.tables.now c.to_le_bytes.result c.requires.right c.requires.long c.ranges.word.fits c.to_le_bytes.ensures
