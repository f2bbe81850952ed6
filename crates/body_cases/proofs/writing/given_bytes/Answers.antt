use Rattle.std.proofs.lemmas.Bool.{lt-leb}
use Rattle.std.proofs.Common.{le-leb}
use Rattle.std.proofs.lemmas.Result.{err_from_is_err_and}
use Rattle.body_cases.proofs.Requests.{bytes_cut, bytes_over, bytes-given}
use Rattle.body_cases.proofs.writing.given_bytes.Goals as goal

pub returns-in_err-bytes : goal.returns-in_err-bytes
returns-in_err-bytes c =
    let e = err_from_is_err_and c.from_residual.result c.from_residual.ensures.1 in
    rw (e.1, e.2) (bytes_cut _ _ c.in_err-bytes.ensures)

pub returns-then-bytes-gt-LARGEST : goal.returns-then-bytes-gt-LARGEST
returns-then-bytes-gt-LARGEST c = bytes_over _ _ _ _ c.in_ok-bytes.ensures (lt-leb _ _ c.if-bytes-gt-LARGEST.true)

pub returns : goal.returns
returns c = bytes-given _ _ _ _ c.in_ok-bytes.ensures (le-leb _ _ c.if-bytes-gt-LARGEST.false)
