use Rattle.std.proofs.Common.{◌≡◌, ◌-◌}
use Rattle.session.specs.Laws.{held_answers}
use Rattle.text.specs.Page.{puts}
use Rattle.session_cases.specs.Session.{resent_pieces}
use Rattle.session_cases.proofs.put_resent.Given as goal

abbrev pub invariant-loop-i : goal.invariant-loop-i
invariant-loop-i l = puts (resent_pieces (held_answers l.s l.i (l.k - l.i))) l.page ≡ puts (resent_pieces (held_answers l.s 0 l.k)) l.fn.page
