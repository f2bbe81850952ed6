use Rattle.std.proofs.Common.{◌≡◌, ◌∙◌, sym, length, drop, arith}
use Rattle.fields.specs.Reading.{numbers_in}
use Rattle.fields.proofs.Skips.{length-words}
use Rattle.body_cases.proofs.Laws.{each_more, each_none}
use Rattle.body_cases.proofs.reading.put_each.Goals as goal

pub loop-i-preserved : goal.loop-i-preserved
loop-i-preserved c =
    let l = c.loop-i in
    let n : length (numbers_in c.args.s.now c.args.l) ≡ c.args.l.count = length-words c.args.l.count (drop c.args.l.at c.args.s.now) in
    each_more (numbers_in c.args.s.now c.args.l) l.i c.number_in.result l.page (omega arith) c.number_in.ensures (cc) ∙ l.invariant

pub returns : goal.returns
returns c =
    let l = c.loop-i in
    let n : length (numbers_in c.args.s.now c.args.l) ≡ c.args.l.count = length-words c.args.l.count (drop c.args.l.at c.args.s.now) in
    sym (each_none (numbers_in c.args.s.now c.args.l) l.i l.page (omega arith)) ∙ l.invariant
