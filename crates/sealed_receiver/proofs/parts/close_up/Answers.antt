use Rattle.std.proofs.Common.{refl}
use Rattle.secure.specs.Layout.{round_up}
use Rattle.sealed_receiver.proofs.LastPart.{third-fits, fourth_fits, closed-up}
use Rattle.sealed_receiver.proofs.parts.close_up.Goals as goal

pub move_down-requires : goal.move_down-requires
move_down-requires c =
    let g = c.args in
    third-fits g.h g.store.now g.store.now g.store.now c.rounded.result (round_up g.h.s3.len) c.requires c.rounded.ensures.0 refl

pub move_down-requires-2 : goal.move_down-requires-2
move_down-requires-2 c =
    let g = c.args in
    fourth_fits g.h g.store.now c.move_down.new.store g.store.now c.rounded.result c.rounded-2.result c.requires c.rounded.ensures.0 c.rounded-2.ensures.0 c.move_down.auto.store

pub returns : goal.returns
returns c =
    let g = c.args in
    closed-up g.h g.store.now c.move_down.new.store c.move_down-2.new.store c.rounded.result c.rounded-2.result c.requires c.rounded.ensures.0 c.rounded-2.ensures.0 c.move_down.ensures c.move_down-2.ensures
