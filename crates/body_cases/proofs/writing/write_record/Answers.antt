use Rattle.std.proofs.Common.{◌≤◌, refl, length, arith}
use lib.Seq.{length-take-le}
use Rattle.records.proofs.Laws.{did_bad, did_done, size-good}
use Rattle.body_cases.specs.Writing.{write_size, write_of, write_record}
use Rattle.body_cases.proofs.Requests.{bad_end, good_end, write-buffer}
use Rattle.body_cases.proofs.writing.write_record.Goals as goal

pub returns-in_default : goal.returns-in_default
unfolding write_record
returns-in_default c = did_bad _ _ (bad_end _ _ _ (rw c.byte_at-tag.ensures at c.in_default.ensures.end)) refl (c.bad_record.ensures _)

pub returns-in_default-whole_size : goal.returns-in_default-whole_size
unfolding write_record
returns-in_default-whole_size c =
    did_bad _ _ (good_end _ _ _ _ c.u32_at-n.ensures (rw c.byte_at-tag.ensures at c.in-Ok.ensures.end) c.whole_size.ensures) c.in_default-whole_size.is
    (c.bad_record-in_default-whole_size.ensures _)

pub returns : goal.returns
unfolding write_record write_of
returns c =
    let s = c.args.s.now in
    let e = good_end _ _ _ _ c.u32_at-n.ensures (rw c.byte_at-tag.ensures at c.in-Ok.ensures.end) c.in-Some.ensures in
    let h = write-buffer (length c.args.space.now) s (size-good (write_size (length c.args.space.now) s) s e) in
    let n : c.u32_at-n.result ≤ length c.args.space.now = omega (arith, c.u32_at-n.ensures) in
    let w = rw (c.in-Ok.ensures.writes c.count_up.new.buf, c.byte_at-tag.ensures, c.count_up.ensures, c.byte_at.ensures, length-take-le _ _ n, c.u32_at-n.ensures) at c.write_asked-written.ensures in
    did_done _ _ _ e refl w c.checksum.ensures c.print_outcome.ensures
