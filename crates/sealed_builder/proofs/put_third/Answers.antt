use Rattle.std.proofs.Common.{◌≡◌, ℕ, ◌+◌, ◌-◌, List, [], ◌∷◌, length, ap, ◌∙◌, arith, length-drop, length-take-le, rules}
use Rattle.buffer.proofs.Parts.{rest, length_rest}
use Rattle.banner.specs.declared.Revision.TheVariants.{Msgr21}
use Rattle.body.specs.Body.{late_byte}
use Rattle.secure.specs.Layout.{round_up, padded_from}
use Rattle.sealed_builder.proofs.Texts.{padded-next}
use Rattle.sealed_builder.proofs.put_third.Goals as goal

pub put_padded-requires : goal.put_padded-requires
put_padded-requires c =
    let bytes : List ℕ = c.args.rest.now in
    let n : ℕ = c.args.n in
    let e : round_up (length c.part.result.now) ≡ round_up n = ap (λ (l : List ℕ). round_up (length l)) c.part.ensures ∙ ap round_up (length-take-le n bytes (omega (arith, c.requires.0))) in
    omega (arith, e, c.requires.1)

pub put_fourth-requires : goal.put_fourth-requires
put_fourth-requires c =
    let bytes : List ℕ = c.args.rest.now in
    let n : ℕ = c.args.n in
    let l₁ : List ℕ = c.put_padded.new.out in
    let d : length c.behind.result.now ≡ length bytes - n = ap length c.behind.ensures ∙ length-drop n bytes in
    let r : length (rest l₁ (n + c.padding.result)) ≡ length l₁ - (n + c.padding.result) = length_rest l₁ (n + c.padding.result) in
    let k : length l₁ ≡ length c.args.out.now = search rules in
    (omega (arith, c.requires.0), omega (arith, c.padding.ensures.0, c.requires.1))

pub returns : goal.returns
returns c =
    let g = c.args in
    let bytes : List ℕ = g.rest.now in
    padded-next g.abort g.n (g.n + c.padding.result) bytes c.part.result.now c.behind.result.now g.out.now c.put_padded.new.out c.put_fourth.new.out
    (padded_from (g.n4 ∷ []) (late_byte Msgr21 g.abort)) (omega (arith, c.requires.0)) (ap (λ (k : ℕ). g.n + k) c.padding.ensures.0) c.part.ensures c.behind.ensures
    c.put_padded.ensures c.put_fourth.ensures
