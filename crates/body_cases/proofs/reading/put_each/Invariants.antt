use Rattle.std.proofs.Common.{◌≡◌, drop}
use Rattle.fields.specs.Reading.{numbers_in}
use Rattle.text.specs.Page.{puts}
use Rattle.body_cases.specs.Reading.{each_number}
use Rattle.body_cases.proofs.reading.put_each.Given as goal

abbrev pub invariant-loop-i : goal.invariant-loop-i
invariant-loop-i l = puts (each_number (drop l.i (numbers_in l.s l.l))) l.page ≡ puts (each_number (numbers_in l.s l.l)) l.fn.page
