use Rattle.std.proofs.Common.{arith}
use Rattle.secure.specs.Layout.{first_text}
use Rattle.secure.proofs.Lengths.{length-first-text}
use Rattle.gcm.proofs.InPlace.{sealed-laid}
use Rattle.sealed_builder.proofs.seal_first.Goals as goal

pub returns : goal.returns
returns c =
    let g = c.args in
    sealed-laid g.k.now.w.now g.k.now.nonce (first_text g.f.now.header g.f.now.first.now) g.out.now c.put_first.new.out c.seal_front.new.out 80
    (length-first-text g.f.now.header g.f.now.first.now) (omega (arith, c.requires)) c.put_first.ensures c.seal_front.ensures
