use mathlib.Core.Path.{sym, ap}
use native.Mathlib.Omega.{arith}
use borrow.Author.Rules.{rules}
use Rattle.buffer.proofs.Parts.{placed-overwrite}
use Rattle.refusal.specs.Writes.{wrote, done}
use Rattle.banner.specs.Banner.{banner_bytes}
use Rattle.builder.specs.Build.{banner_done}
use Rattle.builder.proofs.Accepted.{banner-fits}
use Rattle.builder.proofs.build_banner.Goals as goal

pub slice_bounds-put-start : goal.slice_bounds-put-start
slice_bounds-put-start c = omega (arith, banner-fits _ _ _ _ (sym c.in_ok-judge_banner.ensures))

pub slice_bounds-put-count : goal.slice_bounds-put-count
slice_bounds-put-count c = omega (arith, banner-fits _ _ _ _ (sym c.in_ok-judge_banner.ensures))

pub returns-in_err-judge_banner : goal.returns-in_err-judge_banner
unfolding banner_done
returns-in_err-judge_banner c = record { promise = rw (sym c.in_err-judge_banner.ensures) (search rules) }

pub returns : goal.returns
unfolding banner_done
returns c =
    let g = c.args in
    let fine = sym c.in_ok-judge_banner.ensures in
    let put = placed-overwrite g.buf.now (banner_bytes g.supported g.required) c.put.new.out g.queued (banner-fits _ _ _ _ fine) in
    record { promise = rw fine (ap (done (wrote 26)) (put (rw c.banner_bytes.ensures at c.put.ensures))) }
