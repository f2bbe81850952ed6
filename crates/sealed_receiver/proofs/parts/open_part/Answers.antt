use Rattle.std.proofs.Common.{arith}
use Rattle.aes.specs.Aes.{key_expansion}
use Rattle.gcm.specs.Calls.{Opening}
use Rattle.sealed_receiver.proofs.Openings.{none_left, opened-part}
use Rattle.sealed_receiver.proofs.parts.open_part.Goals as goal

pub returns-then-r : goal.returns-then-r
returns-then-r c = none_left c.args.r c.args.bytes.now _ c.if-r.true

pub returns : goal.returns
returns c =
    let r = c.args.r in
    let bytes = c.args.bytes.now in
    let o = c.open_in_place.result in
    let opening : Opening (key_expansion r.key) r.nonce bytes bytes o c.open_in_place.new.buf = rw c.key_expansion.ensures at c.open_in_place.ensures in
    opened-part r bytes c.open_in_place.new.buf o c.if-r.false (omega arith) c.requires.0 c.requires.1 opening
