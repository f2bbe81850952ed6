use Rattle.std.proofs.Common.{refl}
use Rattle.records.specs.Records.{prints}
use Rattle.records.proofs.Laws.{did_bad, did_whole}
use Rattle.cases.specs.Checksums.{checksum_record}
use Rattle.cases.proofs.checksums.checksum_record.Goals as goal

pub returns-in_default : goal.returns-in_default
unfolding checksum_record
returns-in_default c = did_bad _ _ c.checksum_size.ensures c.in_default.is (c.bad_record.ensures _)

pub returns : goal.returns
unfolding checksum_record prints
returns c = did_whole _ _ c.in-Some.ensures refl (rw (c.checksum.ensures, c.u32_at.ensures, c.part.ensures, c.u32_at-n.ensures) at c.print_checksum.ensures)
