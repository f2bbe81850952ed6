use Rattle.std.proofs.Common.{◌≡◌, ℕ, ◌+◌, List, length, refl, ap, ◌∙◌, arith, length-take-le}
use Rattle.banner.specs.declared.Revision.TheVariants.{Msgr21}
use Rattle.body.specs.Body.{late_byte}
use Rattle.secure.specs.Layout.{round_up, epilogue16}
use Rattle.sealed_builder.proofs.Texts.{padded-next}
use Rattle.sealed_builder.proofs.put_fourth.Goals as goal

pub put_padded-requires : goal.put_padded-requires
put_padded-requires c =
    let bytes : List ℕ = c.args.rest.now in
    let n : ℕ = c.args.n in
    let e : round_up (length c.part.result.now) ≡ round_up n = ap (λ (l : List ℕ). round_up (length l)) c.part.ensures ∙ ap round_up (length-take-le n bytes (omega (arith, c.requires.0))) in
    omega (arith, e, c.requires.1)

pub returns : goal.returns
returns c =
    let g = c.args in
    let bytes : List ℕ = g.rest.now in
    padded-next g.abort g.n (g.n + c.padding.result) bytes c.part.result.now _ g.out.now c.put_padded.new.out c.put_epilogue.new.out
    (λ _. epilogue16 (late_byte Msgr21 g.abort)) (omega (arith, c.requires.0)) (ap (λ (k : ℕ). g.n + k) c.padding.ensures.0) c.part.ensures refl
    c.put_padded.ensures c.put_epilogue.ensures
