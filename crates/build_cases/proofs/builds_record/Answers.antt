use Rattle.std.proofs.Common.{refl}
use Rattle.records.specs.Records.{prints}
use Rattle.build_cases.specs.Sealed.{head_part}
use Rattle.build_cases.proofs.Laws.{part-bad, part-whole}
use Rattle.build_cases.proofs.builds_record.Goals as goal

pub returns-in_default : goal.returns-in_default
unfolding head_part
returns-in_default c = part-bad _ _ _ _ c.head_size.ensures c.in_default.is (c.bad_record.ensures _) refl

pub returns : goal.returns
unfolding head_part prints
returns c = part-whole _ _ _ _ c.in-Some.ensures refl refl (rw (c.u16_at.ensures, c.sending_of.ensures))
