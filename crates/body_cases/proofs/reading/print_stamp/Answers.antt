use mathlib.Core.List.{[], ◌∷◌}
use Rattle.body_cases.proofs.Laws.{two-parts}
use Rattle.body_cases.specs.Reading.{each_byte}
use Rattle.fields.specs.Reading.{span_in}
use Rattle.text.specs.Line.{newline}
use Rattle.body_cases.proofs.reading.print_stamp.Goals as goal

pub returns : goal.returns
returns c = rw (c.end.ensures, c.put_stamp.ensures, c.part.ensures, c.word-2.ensures, c.word.ensures, c.put_tag.ensures) (two-parts (each_byte (span_in c.args.s.now c.args.stamp)) [] (newline ∷ []) _)
