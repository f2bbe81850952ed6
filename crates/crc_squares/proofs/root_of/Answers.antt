use Rattle.std.proofs.Common.{◌∙◌, ap, arith}
use Rattle.crc_squares.specs.Square.{square}
use Rattle.crc_squares.proofs.Nibbles.{rooted}
use Rattle.crc_squares.proofs.Rules.{roots_and_squares}
use Rattle.crc_squares.proofs.root_of.Goals as goal

pub by_nibbles-requires-clause-right : goal.by_nibbles-requires-clause-right
by_nibbles-requires-clause-right c = roots_and_squares tt

pub returns : goal.returns
returns c = ap square c.by_nibbles.ensures ∙ rooted c.args.c (omega arith)
