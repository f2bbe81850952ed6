use Rattle.buffer.proofs.Parts.{rest, length_rest, overwrite-fits, placed}
use lib.Seq.{sets-eq}
use Rattle.std.proofs.Common.{◌≡◌, ◌+◌, ◌-◌, ◌≤◌, length, sym, ◌∙◌, arith}
use Rattle.sealed_receiver.proofs.pieces.fill.Goals as goal

pub slice_bounds-put-count : goal.slice_bounds-put-count
slice_bounds-put-count c = omega (arith, c.requires c.if-here.true)

pub slice_bounds-put-start : goal.slice_bounds-put-start
slice_bounds-put-start c = omega (arith, c.requires c.if-here.true)

pub returns-then-here : goal.returns-then-here
returns-then-here c =
    let z = c in
    let here = c.if-here.true in
    let xs = z.args.bytes.now in
    let s = z.args.buf.now in
    let n = z.args.at in
    let l : length (rest s n) ≡ length s - n = length_rest s n in
    let k : n + length xs ≤ length s = z.requires here in
    let e = c.put.ensures ∙ overwrite-fits xs (rest s n) (omega arith) in
    rw here (placed s xs c.put.new.out n e ∙ sym (sets-eq xs s n k))

pub returns-else-here : goal.returns-else-here
returns-else-here c = rw c.if-here.false
