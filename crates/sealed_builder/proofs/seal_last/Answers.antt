use Rattle.std.proofs.Common.{◌≡◌, ℕ, ◌+◌, ◌-◌, List, length, sym, ◌∙◌, arith}
use Rattle.banner.specs.declared.Revision.TheVariants.{Msgr21}
use Rattle.body.specs.Body.{late_byte, rest_sent}
use Rattle.body.proofs.Laws.{length-sent}
use Rattle.secure.specs.Layout.{last_text, last_part}
use Rattle.secure.proofs.Lengths.{length-last-text}
use Rattle.gcm.proofs.InPlace.{sealed-laid}
use Rattle.secure.proofs.Missing.{last_none, last-there}
use Rattle.secure.proofs.Bounds.{last-size}
use Rattle.sealed_builder.proofs.seal_last.Goals as goal

pub returns-then-no_last_part : goal.returns-then-no_last_part
returns-then-no_last_part c =
    last_none c.args.k.now.w.now c.args.k.now.nonce c.args.f.now.header (last_text c.args.f.now.header (late_byte Msgr21 c.args.f.now.abort) (rest_sent c.args.f.now.abort c.args.f.now.rest.now)) c.args.out.now (sym c.no_last_part.ensures ∙ c.if-no_last_part.true)

pub seal_front-requires : goal.seal_front-requires
seal_front-requires c =
    let n = c.last_part_length.ensures in
    let e = last-size c.args.f.now.header (sym c.no_last_part.ensures ∙ c.if-no_last_part.false) in
    (omega (arith, n.0, e, c.requires, c.put_last.auto.out), omega (arith, n.0, n.1, e))

pub returns : goal.returns
returns c =
    let g = c.args in
    let some = sym c.no_last_part.ensures ∙ c.if-no_last_part.false in
    let n = c.last_part_length.ensures.0 ∙ last-size g.f.now.header some in
    let bytes : List ℕ = rest_sent g.f.now.abort g.f.now.rest.now in
    let text : List ℕ = last_text g.f.now.header (late_byte Msgr21 g.f.now.abort) bytes in
    let len : length text + 16 ≡ last_part g.f.now.header = length-last-text g.f.now.header (late_byte Msgr21 g.f.now.abort) bytes (length-sent g.f.now.abort g.f.now.rest.now ∙ g.f.now.rest_whole) in
    last-there g.k.now.w.now g.k.now.nonce g.f.now.header text g.out.now c.seal_front.new.out some
    (sealed-laid g.k.now.w.now g.k.now.nonce text g.out.now c.put_last.new.out c.seal_front.new.out (c.last_part_length.result - 16)
    (omega arith) (omega (arith, last-size g.f.now.header some, c.requires)) c.put_last.ensures c.seal_front.ensures)
