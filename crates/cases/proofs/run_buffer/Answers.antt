use Rattle.std.proofs.Common.{arith}
use Rattle.cases.specs.Kinds.{buffer_record}
use Rattle.cases.proofs.Laws.{kind_isnt}
use Rattle.cases.proofs.run_buffer.Goals as goal

pub returns-in-83 : goal.returns-in-83
unfolding buffer_record
returns-in-83 c = rw (← c.byte_at.ensures, c.in-83.is) (rw c.requires at c.sealing_record.ensures)

pub returns-in-79 : goal.returns-in-79
unfolding buffer_record
returns-in-79 c = rw (← c.byte_at.ensures, c.in-79.is) (rw c.requires at c.sealing_record-in-79.ensures)

pub returns-in-87 : goal.returns-in-87
unfolding buffer_record
returns-in-87 c = rw (← c.byte_at.ensures, c.in-87.is) (rw c.requires at c.write_record.ensures)

pub returns-in_default : goal.returns-in_default
unfolding buffer_record
returns-in_default c = rw (kind_isnt {n = 83} c.byte_at.ensures (omega arith), kind_isnt {n = 79} c.byte_at.ensures (omega arith), kind_isnt {n = 87} c.byte_at.ensures (omega arith)) c.run_stream.ensures
