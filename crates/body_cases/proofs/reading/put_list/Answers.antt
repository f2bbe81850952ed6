use lib.ListN.{drop}
use Rattle.fields.proofs.Skips.{length-words}
use Rattle.body_cases.proofs.reading.put_list.Goals as goal

pub returns : goal.returns
returns c = rw (c.put_each.ensures, c.field.ensures, c.from.ensures, length-words c.args.l.count (drop c.args.l.at c.args.s.now))
