use Rattle.std.proofs.Common.{arith}
use Rattle.cases.specs.Kinds.{record_of}
use Rattle.cases.proofs.Laws.{kind_isnt}
use Rattle.cases.proofs.run_record.Goals as goal

pub returns-in-67 : goal.returns-in-67
unfolding record_of
returns-in-67 c = rw (← c.byte_at.ensures, c.in-67.is) c.checksum_record.ensures

pub returns-in-66 : goal.returns-in-66
unfolding record_of
returns-in-66 c = rw (← c.byte_at.ensures, c.in-66.is) c.banner_record.ensures

pub returns-in-70 : goal.returns-in-70
unfolding record_of
returns-in-70 c = rw (← c.byte_at.ensures, c.in-70.is) c.frame_record.ensures

pub returns-in_default : goal.returns-in_default
unfolding record_of
returns-in_default c = rw (kind_isnt {n = 67} c.byte_at.ensures (omega arith), kind_isnt {n = 66} c.byte_at.ensures (omega arith), kind_isnt {n = 70} c.byte_at.ensures (omega arith)) c.run_other.ensures
