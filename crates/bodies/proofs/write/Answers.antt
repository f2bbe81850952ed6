use Rattle.std.proofs.lemmas.Result.{err_from_is_err_and}
use Rattle.bodies.proofs.Drafted.{write-refused, write-wrote}
use Rattle.bodies.proofs.write.Goals as goal

pub returns-in_err-len : goal.returns-in_err-len
returns-in_err-len c =
    let g = c.args in
    let e = err_from_is_err_and c.from_residual.result c.from_residual.ensures.1 in
    rw (e.1, e.2) (write-refused g.tag g.r g.first.now g.second.now g.bytes.now g.out.now c.serves-served.ensures c.row-q.ensures _ c.in_err-len.ensures)

pub returns : goal.returns
returns c =
    let g = c.args in
    write-wrote g.tag g.r g.first.now g.second.now g.bytes.now g.out.now c.serves-served.ensures c.row-q.ensures _ c.in_ok-len.ensures c.row.ensures
