use mathlib.Core.List.{[], ◌∷◌}
use lib.ListN.{length}
use Rattle.body_cases.proofs.Laws.{two-lists}
use Rattle.body_cases.specs.Reading.{each_number}
use Rattle.fields.specs.Reading.{numbers_in}
use Rattle.text.specs.Line as line
use Rattle.text.specs.Line.{word, newline}
use Rattle.body_cases.proofs.reading.print_bad_method.Goals as goal

pub returns : goal.returns
returns c = rw (c.end.ensures, c.put_list-2.ensures, c.put_list.ensures, c.put_error.ensures, c.field.ensures, c.from.ensures, c.put_tag.ensures) (two-lists (each_number (numbers_in c.args.s.now c.args.methods)) (word " modes") (line.number (length (numbers_in c.args.s.now c.args.modes))) (each_number (numbers_in c.args.s.now c.args.modes)) (newline ∷ []) _)
