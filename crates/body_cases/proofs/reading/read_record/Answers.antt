use Rattle.std.proofs.Common.{refl}
use Rattle.records.specs.Records.{prints}
use Rattle.records.proofs.Laws.{did_bad, did_whole}
use Rattle.body_cases.specs.Reading.{answer_of, read_record}
use Rattle.body_cases.proofs.reading.read_record.Goals as goal

pub returns-in_default : goal.returns-in_default
unfolding read_record
returns-in_default c = did_bad _ _ c.read_size.ensures c.in_default.is (c.bad_record.ensures _)

pub returns : goal.returns
unfolding read_record answer_of prints
returns c = did_whole _ _ c.in-Some.ensures refl (rw (c.part-body.ensures, c.u32_at.ensures, c.byte_at-tag.ensures) at c.print_body.ensures)
