use Rattle.std.proofs.Common.{List, ap, ◌∙◌}
use Rattle.bodies.specs.Write.{write_body}
use Rattle.fields.specs.Field.{Field}
use Rattle.body_cases.proofs.Requests.{fields-same}
use Rattle.body_cases.proofs.writing.write_asked.Goals as goal

pub returns : goal.returns
returns c =
    c.write.ensures.outcome
    ∙ ap (λ (fs : List Field). write_body c.args.tag fs c.args.out.now) (fields-same c.args.s.now c.args.a _ _ _ c.requires.0 c.requires.1 c.read_words-first.ensures c.read_words-second.ensures c.part-bytes.ensures)
