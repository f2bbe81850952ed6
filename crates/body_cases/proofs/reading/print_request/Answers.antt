use mathlib.Core.List.{[], ◌∷◌}
use Rattle.body_cases.proofs.Laws.{two-parts}
use Rattle.body_cases.specs.Reading.{each_number, bytes_pieces}
use Rattle.fields.specs.Reading.{span_in, numbers_in}
use Rattle.text.specs.Line.{codes, newline}
use Rattle.body_cases.proofs.reading.print_request.Goals as goal

pub returns : goal.returns
returns c = rw (c.end.ensures, c.put_span.ensures, c.put_list.ensures, c.field.ensures, c.from.ensures, c.put_tag.ensures) (two-parts (each_number (numbers_in c.args.s.now c.args.modes)) (bytes_pieces (codes " payload") (span_in c.args.s.now c.args.payload)) (newline ∷ []) _)
