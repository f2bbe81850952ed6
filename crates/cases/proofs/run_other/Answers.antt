use Rattle.std.proofs.Common.{arith}
use Rattle.cases.specs.Kinds.{other_record}
use Rattle.cases.proofs.Laws.{kind_isnt}
use Rattle.cases.proofs.run_other.Goals as goal

pub returns-in-78 : goal.returns-in-78
unfolding other_record
returns-in-78 c = rw (← c.byte_at.ensures, c.in-78.is) c.session_record.ensures

pub returns-in-80 : goal.returns-in-80
unfolding other_record
returns-in-80 c = rw (← c.byte_at.ensures, c.in-80.is) c.steps_record.ensures

pub returns-in-77 : goal.returns-in-77
unfolding other_record
returns-in-77 c = rw (← c.byte_at.ensures, c.in-77.is) c.mode_record.ensures

pub returns-in-72 : goal.returns-in-72
unfolding other_record
returns-in-72 c = rw (← c.byte_at.ensures, c.in-72.is) c.read_record.ensures

pub returns-in_default : goal.returns-in_default
unfolding other_record
returns-in_default c = rw (kind_isnt {n = 78} c.byte_at.ensures (omega arith), kind_isnt {n = 80} c.byte_at.ensures (omega arith), kind_isnt {n = 77} c.byte_at.ensures (omega arith), kind_isnt {n = 72} c.byte_at.ensures (omega arith)) c.run_buffer.ensures
