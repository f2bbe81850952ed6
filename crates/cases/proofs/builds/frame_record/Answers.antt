use Rattle.std.proofs.Common.{◌≤◌, refl, length, arith, length-take-le}
use Rattle.records.proofs.Laws.{did_bad, did_done, size-good}
use Rattle.cases.specs.Builds.{frame_size, frame_done_of, frame_record}
use Rattle.cases.proofs.Laws.{frame-buffer}
use Rattle.cases.proofs.builds.frame_record.Goals as goal

pub returns-in_default : goal.returns-in_default
unfolding frame_record
returns-in_default c = did_bad _ _ c.frame_size.ensures c.in_default.is (c.bad_record.ensures _)

pub returns : goal.returns
unfolding frame_record frame_done_of
returns c =
    let s = c.args.s.now in
    let h = frame-buffer s (size-good (frame_size s) s c.in-Some.ensures) in
    let n : c.u32_at-n.result ≤ length c.args.space.now = omega (arith, c.u32_at-n.ensures, c.requires) in
    let w = rw (c.revision_by_byte-revision.ensures, c.byte_at-2.ensures, c.read_header-header.ensures, c.behind.ensures, c.byte_at-abort.ensures, c.part-source.ensures, c.u32_at.ensures, c.count_up.ensures, c.byte_at.ensures, length-take-le _ _ n, c.u32_at-n.ensures, c.u64_at-queued.ensures) at c.build_frame-built.ensures.promise in
    did_done _ _ _ c.in-Some.ensures refl w c.checksum.ensures c.print_outcome.ensures
