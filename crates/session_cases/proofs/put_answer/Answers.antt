use Rattle.text.proofs.Laws.{puts-append}
use Rattle.session_cases.proofs.put_answer.Goals as goal

pub returns-in-Resend : goal.returns-in-Resend
returns-in-Resend c = rw (c.in-Resend.is, puts-append, c.put_resent.ensures, c.field-in-Resend.ensures)
