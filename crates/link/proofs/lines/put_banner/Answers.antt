use Rattle.link.proofs.lines.put_banner.Goals as goal

pub returns : goal.returns
returns c = cc (c.end.ensures, c.field-3.ensures, c.revision_number.ensures, c.field-2.ensures, c.field.ensures)
