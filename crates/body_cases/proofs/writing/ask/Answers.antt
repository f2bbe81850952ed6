use Rattle.std.proofs.Common.{arith}
use Rattle.body_cases.proofs.Requests.{by_none, beyond_tags, none_7, none_13, none_14, none_16, none_17}
use Rattle.body_cases.proofs.writing.ask.Goals as goal

pub returns-in-Ok-AuthSignature : goal.returns-in-Ok-AuthSignature
returns-in-Ok-AuthSignature c = by_none _ _ _ c.ask_none.ensures (grind (arith, none_7, none_13, none_14, none_16, none_17))

pub returns-in-Err : goal.returns-in-Err
returns-in-Err c = by_none _ _ _ c.ask_none-in-Err.ensures (beyond_tags _ c.in-Err.ensures.range.1)
