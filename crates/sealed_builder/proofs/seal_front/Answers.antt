use Rattle.std.proofs.Common.{◌+◌, sym, length-take-le}
use Rattle.gcm.proofs.InPlace.{sealed-part}
use Rattle.sealed_builder.proofs.seal_front.Goals as goal

pub slice_bounds-seal_in_place-end-2 : goal.slice_bounds-seal_in_place-end-2
slice_bounds-seal_in_place-end-2 c =
    sym (length-take-le (c.args.n + 16) c.args.out.now c.requires.0)

pub returns : goal.returns
returns c =
    sealed-part c.args.k.now.w.now c.args.k.now.nonce c.args.n c.args.out.now c.seal_in_place.new.buf c.seal_in_place.result c.requires.0 c.requires.1 c.seal_in_place.ensures
