use Rattle.std.proofs.Common.{arith}
use Rattle.cases.specs.Kinds.{stream_record}
use Rattle.cases.proofs.Laws.{kind_isnt}
use Rattle.cases.proofs.run_stream.Goals as goal

pub returns-in-82 : goal.returns-in-82
unfolding stream_record
returns-in-82 c = rw (← c.byte_at.ensures, c.in-82.is) (rw c.requires at c.receiver_record.ensures)

pub returns-in-88 : goal.returns-in-88
unfolding stream_record
returns-in-88 c = rw (← c.byte_at.ensures, c.in-88.is) (rw c.requires at c.receiver_record-in-88.ensures)

pub returns-in-84 : goal.returns-in-84
unfolding stream_record
returns-in-84 c = rw (← c.byte_at.ensures, c.in-84.is) (rw c.requires at c.receiver_record-in-84.ensures)

pub returns-in_default : goal.returns-in_default
unfolding stream_record
returns-in_default c = rw (kind_isnt {n = 82} c.byte_at.ensures (omega arith), kind_isnt {n = 88} c.byte_at.ensures (omega arith), kind_isnt {n = 84} c.byte_at.ensures (omega arith)) (c.bad_record.ensures _)
