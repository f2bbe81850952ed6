use Rattle.std.proofs.Common.{◌≡◌, drop}
use Rattle.text.specs.Page.{puts}
use Rattle.body_cases.specs.Reading.{each_byte}
use Rattle.body_cases.proofs.reading.put_stamp.Given as goal

abbrev pub invariant-loop-byte : goal.invariant-loop-byte
invariant-loop-byte l = puts (each_byte (drop l.byte-index l.bytes)) l.page ≡ puts (each_byte l.bytes) l.fn.page
