use Rattle.std.proofs.Common.{◌≤◌, refl, length, arith}
use lib.Seq.{length-take-le}
use Rattle.records.proofs.Laws.{did_bad, did_done, size-good}
use Rattle.sealing_cases.proofs.Laws.{sealing-buffer, sealing-long}
use Rattle.sealing_cases.specs.Sealing.{sealing_size, done_of, sealing_record}
use Rattle.sealing_cases.proofs.sealing_record.Goals as goal

pub returns-in_default : goal.returns-in_default
unfolding sealing_record
returns-in_default c = did_bad _ _ c.sealing_size.ensures c.in_default.is (c.bad_record.ensures _)

pub slice_bounds-buf-end : goal.slice_bounds-buf-end
slice_bounds-buf-end c =
    let h = sealing-buffer (length c.args.space.now) c.args.s.now (size-good (sealing_size (length c.args.space.now) c.args.s.now) c.args.s.now c.in-Some.ensures) in
    omega (arith, c.u32_at-n.ensures)

pub returns : goal.returns
unfolding sealing_record done_of
returns c =
    let good = size-good (sealing_size (length c.args.space.now) c.args.s.now) c.args.s.now c.in-Some.ensures in
    let h = sealing-buffer (length c.args.space.now) c.args.s.now good in
    let long = sealing-long (length c.args.space.now) c.args.s.now good in
    let n : c.u32_at-n.result ≤ length c.args.space.now = omega (arith, c.u32_at-n.ensures) in
    let w = rw (c.bytes_at.ensures (omega arith), c.bytes_at-2.ensures (omega arith), c.part-given.ensures, c.u32_at.ensures, c.count_up.ensures, c.byte_at.ensures, length-take-le _ _ n, c.u32_at-n.ensures) at c.seal_or_open-outcome.ensures in
    did_done _ _ _ c.in-Some.ensures refl w c.checksum.ensures c.print_outcome.ensures
