use borrow.Author.Tests.{eq-eqb, ne_eqb}
use Rattle.body_cases.proofs.reading.print_number.Goals as goal
use Rattle.body_cases.proofs.reading.print_number.Goals.{then-tag-eq10, else-tag-eq10}

pub returns : goal.returns
returns c =
    elim c.if-tag-eq10.branch [
      | then-tag-eq10 w ↦ rw (eq-eqb c.args.tag 10 w.if-tag-eq10.true, c.end.ensures, c.field.ensures, w.name-is, c.put_tag.ensures)
      | else-tag-eq10 w ↦ rw (ne_eqb c.args.tag 10 w.if-tag-eq10.false, c.end.ensures, c.field.ensures, w.name-is, c.put_tag.ensures)
    ]
