use Rattle.std.proofs.Common.{◌∙◌, arith}
use Rattle.crc_squares.proofs.Nibbles.{squared}
use Rattle.crc_squares.proofs.Rules.{roots_and_squares}
use Rattle.crc_squares.proofs.square_of.Goals as goal

pub by_nibbles-requires-clause-right : goal.by_nibbles-requires-clause-right
by_nibbles-requires-clause-right c = roots_and_squares tt

pub returns : goal.returns
returns c = c.by_nibbles.ensures ∙ squared c.args.c (omega arith)
