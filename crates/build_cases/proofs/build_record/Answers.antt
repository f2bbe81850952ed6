use Rattle.std.proofs.Common.{◌≤◌, length, refl, ap, ◌∙◌, arith, length-take-le}
use Rattle.sealed_builder.specs.Build.{Done}
use Rattle.records.specs.Records.{prints}
use Rattle.records.proofs.Laws.{size-good}
use Rattle.build_cases.specs.Sealed.{build_size, done_by, build_part}
use Rattle.build_cases.proofs.Laws.{build-buffer, built-line, part-bad, part-whole}
use Rattle.build_cases.proofs.build_record.Goals as goal

pub returns-in_default : goal.returns-in_default
unfolding build_part
returns-in_default c = part-bad _ _ _ _ c.build_size.ensures c.in_default.is (c.bad_record.ensures _) refl

pub returns : goal.returns
unfolding build_part done_by prints
returns c =
    let s = c.args.s.now in
    let room = length c.args.space.now in
    let h = build-buffer room s (size-good (build_size room s) s c.in-Some.ensures) in
    let n : c.u32_at-n.result ≤ room = omega (arith, c.u32_at-n.ensures) in
    let d = rw (c.read_header-header.ensures, c.byte_at-abort.ensures, c.part-source.ensures, c.u32_at.ensures, c.count_up.ensures, c.byte_at.ensures, length-take-le _ _ n, c.u32_at-n.ensures, c.u64_at-queued.ensures) at c.build_sealed-o.ensures.promise in
    part-whole _ _ _ _ c.in-Some.ensures refl
    (c.print_outcome.ensures ∙ rw (built-line _ _ _ d c.checksum.ensures))
    (rw (c.saturating_sub.ensures, ap (λ (y : Done). y.sending) d))
