use Rattle.std.proofs.Common.{◌≡◌, take, drop}
use Rattle.fields.specs.Field.{words_of}
use Rattle.records.proofs.read_words.Given as goal

abbrev pub invariant-loop-i : goal.invariant-loop-i
invariant-loop-i l = take l.i l.word-items ≡ take l.i (words_of 64 (drop l.at l.s))
