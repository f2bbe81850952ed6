use Rattle.std.proofs.lemmas.Result.{err_from_is_err_and}
use Rattle.body_cases.proofs.Requests.{count_cut, numbers_cut, numbers_over, numbers-given}
use Rattle.body_cases.proofs.writing.given_list.Goals as goal

pub returns-in_err-count-clause-given : goal.returns-in_err-count-clause-given
returns-in_err-count-clause-given c =
    let e = err_from_is_err_and c.from_residual.result c.from_residual.ensures.1 in
    rw (e.1, e.2) (count_cut _ _ c.in_err-count.ensures)

pub returns-in_err-numbers-clause-given : goal.returns-in_err-numbers-clause-given
returns-in_err-numbers-clause-given c =
    let e = err_from_is_err_and c.from_residual-in_err-numbers.result c.from_residual-in_err-numbers.ensures.1 in
    rw (e.1, e.2) (numbers_cut _ _ _ _ c.in_ok-count.ensures c.in_err-numbers.ensures)

pub returns-then-count-gt64-clause-given : goal.returns-then-count-gt64-clause-given
returns-then-count-gt64-clause-given c = numbers_over _ _ _ _ c.in_ok-count.ensures _ _ c.in_ok-numbers.ensures c.if-count-gt64.true

pub returns-clause-given : goal.returns-clause-given
returns-clause-given c = rw c.from.ensures (numbers-given _ _ _ _ c.in_ok-count.ensures _ _ c.in_ok-numbers.ensures c.if-count-gt64.false)
