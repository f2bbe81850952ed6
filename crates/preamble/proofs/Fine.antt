-- What a judgement comes to as a test, however the code asks for it.
use mathlib.Core.Path.{◌≡◌}
use mathlib.Core.Bool.{◌&&◌, and-true}
use Rattle.std.specs.Prelude.{Result, is_ok}
use Rattle.refusal.specs.declared.Refusal.{Refusal}
use Rattle.refusal.specs.Refusals.{judged_by, is_fine}
use Rattle.refusal.proofs.Judgements.{fine_or, ok-fine}
use Rattle.preamble.specs.declared.Header.{Header}
use Rattle.preamble.specs.Judge.{judge_shape, judge_tag, judge_limits, judge_header}

pub ok_fine : (r : Result (Unit {0}) Refusal) → is_ok r ≡ is_fine (judged_by r)
ok_fine r = ok-fine r

-- a header's judgements one by one
pub header_fine : (h : Header) → is_fine (judge_header h) ≡ (is_fine (judge_shape h) && (is_fine (judge_tag h.tag) && is_fine (judge_limits h)))
unfolding judge_header
header_fine h = simp (fine_or, and-true)
