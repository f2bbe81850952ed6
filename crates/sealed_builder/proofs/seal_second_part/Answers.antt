use Rattle.std.proofs.Common.{◌≡◌, ℕ, ◌+◌, ◌-◌, List, length, drop, ap, ◌∙◌, arith, length-drop}
use Rattle.buffer.specs.Splice.{replace_front}
use Rattle.secure.specs.Layout.{round_up, padded, second_text}
use Rattle.secure.proofs.Lengths.{length-padded}
use Rattle.gcm.proofs.InPlace.{sealed-laid}
use Rattle.sealed_builder.proofs.seal_second_part.Goals as goal

-- what is behind the inline buffer
rounded : (first tail : List ℕ) (n : ℕ) → length first ≡ n → tail ≡ drop 48 first → round_up (length tail) ≡ round_up (n - 48)
rounded first tail n whole e = ap round_up (ap length e ∙ length-drop 48 first ∙ ap (λ (k : ℕ). k - 48) whole)

pub seal_front-requires : goal.seal_front-requires
seal_front-requires c =
    let e = rounded c.args.f.now.first.now _ _ c.args.f.now.first_whole c.behind-tail.ensures in
    (omega (arith, c.requires, c.padding.ensures.0, c.put_padded.auto.out), omega (arith, e, c.args.f.now.first_short, c.padding.ensures.0))

pub returns : goal.returns
returns c =
    let g = c.args in
    let text : List ℕ = second_text g.f.now.first.now in
    let e = rounded c.args.f.now.first.now _ _ c.args.f.now.first_whole c.behind-tail.ensures in
    let len : length text ≡ length c.behind-tail.result.now + c.padding.result =
    length-padded (drop 48 g.f.now.first.now) ∙ ap round_up (length-drop 48 g.f.now.first.now ∙ ap (λ (k : ℕ). k - 48) g.f.now.first_whole) ∙ omega (arith, e, c.padding.ensures.0) in
    sealed-laid g.k.now.w.now g.k.now.nonce text g.out.now c.put_padded.new.out c.seal_front.new.out (length c.behind-tail.result.now + c.padding.result)
    len (omega (arith, e, c.padding.ensures.0, c.requires))
    (c.put_padded.ensures ∙ ap (λ (t : List ℕ). replace_front (padded t) g.out.now) c.behind-tail.ensures) c.seal_front.ensures

pub put_padded-requires : goal.put_padded-requires
put_padded-requires c = omega (arith, rounded c.args.f.now.first.now _ _ c.args.f.now.first_whole c.behind-tail.ensures, c.requires)
