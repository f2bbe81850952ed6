-- A header with one segment has no others.
use Rattle.std.proofs.Common.{◌≡◌, true, arith, leb-true}
use Rattle.refusal.specs.Refusals.{fine}
use Rattle.preamble.specs.declared.Header.{Header}
use Rattle.preamble.specs.Judge.{judge_header}
use Rattle.preamble.proofs.Headers.{others-empty}
use Rattle.body.specs.Body.{rest_length}
use Rattle.secure.specs.Layout.{no_last_part}

pub one-segment : (h : Header) → judge_header h ≡ fine → no_last_part h ≡ true → rest_length h ≡ 0
one-segment h j e = omega (arith, others-empty h j (leb-true h.count 1 e))
