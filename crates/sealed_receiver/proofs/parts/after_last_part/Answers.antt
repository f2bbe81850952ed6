use Rattle.std.proofs.Common.{◌≡◌, ℕ, ◌-◌, ap, ◌∙◌, arith, refl, false}
use Rattle.body.specs.End.{dropped, refused_for}
use Rattle.preamble.specs.declared.Header.{Header}
use Rattle.secure.specs.Layout.{no_last_part, last_part, last_part_length}
use Rattle.secure.specs.Reading.{last_ended}
use Rattle.sealed_receiver.proofs.LastPart.{last-whole, last-ends}
use Rattle.secure.proofs.Bounds.{last-size}
use Rattle.sealed_receiver.proofs.Regions.{refused-in}
use Rattle.sealed_receiver.proofs.parts.after_last_part.Goals as goal

-- the length of the text
sized : (h : Header) (n : ℕ) → no_last_part h ≡ false → n ≡ last_part_length h → n - 16 ≡ last_part h - 16
sized h n there e = ap (λ (k : ℕ). k - 16) (e ∙ last-size h there)

pub overflow_sub-n : goal.overflow_sub-n
overflow_sub-n c = omega (arith, last-size c.args.v.header c.requires.1, c.last_part_length.ensures.0)

pub returns-in_err-end_of_last : goal.returns-in_err-end_of_last
returns-in_err-end_of_last c =
    let g = c.args in
    refused-in c.args.v.header c.from_residual.result _ _ c.from_residual.ensures.1 (last-ends g.v g.store.now (sized g.v.header _ c.requires.1 c.last_part_length.ensures.0) (c.in_err-end_of_last.ensures ∙ ap (last_ended g.v.header) c.part.ensures) (refused_for _) refl)

pub returns-in-Whole : goal.returns-in-Whole
returns-in-Whole c =
    let g = c.args in
    c.end_whole.ensures
    ∙ last-whole g.v g.store.now (sized g.v.header _ c.requires.1 c.last_part_length.ensures.0) (c.in_ok-end_of_last.ensures ∙ ap (last_ended g.v.header) c.part.ensures) c.close_up.new.store (rw c.in-Whole.is refl) c.close_up.ensures

pub returns-in-Dropped : goal.returns-in-Dropped
returns-in-Dropped c =
    let g = c.args in
    c.drop_frame.ensures g.store.now
    ∙ last-ends g.v g.store.now (sized g.v.header _ c.requires.1 c.last_part_length.ensures.0) (c.in_ok-end_of_last.ensures ∙ ap (last_ended g.v.header) c.part.ensures) dropped (rw c.in-Dropped.is refl)
