use Rattle.std.proofs.Common.{sym, ◌∙◌, drop, arith}
use lib.Seq.{take_all}
use Rattle.fields.specs.Field.{words_of}
use Rattle.fields.proofs.Skips.{length-words}
use Rattle.records.proofs.Laws.{stored_more}
use Rattle.records.proofs.read_words.Goals as goal

pub loop-i-preserved : goal.loop-i-preserved
loop-i-preserved c =
    let n = length-words 64 (drop c.args.at c.args.s.now) in
    stored_more (words_of 64 (drop c.args.at c.args.s.now)) c.loop-i.word-items c.loop-i.i _ (omega arith) (omega arith) c.loop-i.invariant c.number_in.ensures

pub returns : goal.returns
returns c =
    let n = length-words 64 (drop c.args.at c.args.s.now) in
    sym (take_all c.loop-i.i c.loop-i.word-items (omega arith)) ∙ c.loop-i.invariant ∙ take_all c.loop-i.i (words_of 64 (drop c.args.at c.args.s.now)) (omega arith)
