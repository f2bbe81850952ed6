use Rattle.std.proofs.Common.{◌≡◌, sym, ap, ◌∙◌, arith}
use Rattle.secure.specs.Layout.{no_last_part, last_part, needed}
use Rattle.sealed_receiver.specs.declared.Known.{Known}
use Rattle.sealed_receiver.proofs.Regions.{refused-in, lent-size, left-length}
use Rattle.sealed_receiver.proofs.LastPart.{last-region, last-refused, last-opened}
use Rattle.secure.proofs.Bounds.{there}
use Rattle.sealed_receiver.proofs.parts.end_last.Goals as goal

pub slice_bounds-open_part-end : goal.slice_bounds-open_part-end
slice_bounds-open_part-end c = omega (arith, last-region c.args.v c.args.store.now c.last_part_length-n.ensures.0 c.requires.some c.requires.fits)

pub open_part-requires : goal.open_part-requires
open_part-requires c =
    let g = last-region c.args.v c.args.store.now c.last_part_length-n.ensures.0 c.requires.some c.requires.fits in
    let l = lent-size g in
    (omega arith, omega (arith, c.last_part_length-n.ensures.1))

pub after_last_part-requires : goal.after_last_part-requires
after_last_part-requires c =
    let h = c.args.v.header in
    let g = last-region c.args.v c.args.store.now c.last_part_length-n.ensures.0 c.requires.some c.requires.fits in
    let e : c.with_opened.result.header ≡ h = ap (λ (k : Known). k.header) c.with_opened.ensures in
    (omega (arith, ap needed e, left-length g c.open_part.new.bytes c.open_part.auto.bytes, c.requires.fits), ap no_last_part e ∙ there (no_last_part h) (last_part h) c.requires.some)

pub returns-in_err-open_part : goal.returns-in_err-open_part
returns-in_err-open_part c =
    λ b.
    let g = last-region c.args.v c.args.store.now c.last_part_length-n.ensures.0 c.requires.some c.requires.fits in
    refused-in c.args.v.header c.from_residual.result _ _ c.from_residual.ensures.1 (last-refused c.args.v c.args.store.now g c.open_part.new.bytes c.open_part.auto.bytes b _ (sym c.in_err-open_part.ensures.judged))

pub returns : goal.returns
returns c =
    λ b.
    let g = last-region c.args.v c.args.store.now c.last_part_length-n.ensures.0 c.requires.some c.requires.fits in
    let j = sym c.in_ok-open_part.ensures.judged in
    (rw c.with_opened.ensures at c.after_last_part.ensures)
    ∙ last-opened c.args.v c.args.store.now g c.open_part.new.bytes c.open_part.auto.bytes b j (c.open_part.ensures.text j)
