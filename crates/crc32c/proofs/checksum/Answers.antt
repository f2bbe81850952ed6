use mathlib.Core.Path.{◌∙◌}
use native.Mathlib.Omega.{arith}
use Rattle.crc32c.proofs.Words.{ends, rest-length}
use Rattle.crc32c.proofs.checksum.Goals as goal

pub over_pairs-pairs-requires : goal.over_pairs-pairs-requires
over_pairs-pairs-requires c = c.over_fours-fours.ensures.within

pub over_words-words-requires : goal.over_words-words-requires
over_words-words-requires c = c.over_pairs-pairs.ensures.0

pub last-requires : goal.last-requires
last-requires c = omega (arith, rest-length c.over_words-words.result.i c.args.bytes.now, c.over_words-words.ensures.1)

pub returns : goal.returns
returns c = c.last.ensures ∙ ends (c.over_words-words.ensures.2 _ (c.over_pairs-pairs.ensures.1 _ c.over_fours-fours.ensures)) c.over_words-words.ensures.1
