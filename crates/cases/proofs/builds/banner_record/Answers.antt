use Rattle.std.proofs.Common.{◌≤◌, refl, length, arith, length-take-le}
use Rattle.records.proofs.Laws.{did_bad, did_done, size-good}
use Rattle.cases.specs.Builds.{banner_size, banner_done_of, banner_record}
use Rattle.cases.proofs.Laws.{banner-buffer}
use Rattle.cases.proofs.builds.banner_record.Goals as goal

pub returns-in_default : goal.returns-in_default
unfolding banner_record
returns-in_default c = did_bad _ _ c.banner_size.ensures c.in_default.is (c.bad_record.ensures _)

pub returns : goal.returns
unfolding banner_record banner_done_of
returns c =
    let s = c.args.s.now in
    let h = banner-buffer s (size-good (banner_size s) s c.in-Some.ensures) in
    let n : c.u32_at-n.result ≤ length c.args.space.now = omega (arith, c.u32_at-n.ensures, c.requires) in
    let w = rw (c.u64_at-2.ensures, c.u64_at-3.ensures, c.u64_at.ensures, c.count_up.ensures, c.byte_at.ensures, length-take-le _ _ n, c.u32_at-n.ensures) at c.build_banner-built.ensures.promise in
    did_done _ _ _ c.in-Some.ensures refl w c.checksum.ensures c.print_outcome.ensures
