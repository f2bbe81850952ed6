use Rattle.std.proofs.Common.{◌≡◌, ◌+◌, get_or, drop, refl, ap, ◌∙◌, arith, length-set}
use lib.Seq.{paste, paste-zero}
use Rattle.buffer.proofs.Splices.{moved_more, moved_all}
use Rattle.sealed_receiver.proofs.parts.move_down.Goals as goal

pub loop-i-init : goal.loop-i-init
loop-i-init c = (refl, paste-zero c.args.store.now c.args.to (drop c.args.from c.args.store.now))

pub loop-i-preserved : goal.loop-i-preserved
loop-i-preserved c =
    let g = c.args in
    let s = c.loop-i.store in
    let i = c.loop-i.i in
    (length-set s (g.to + i) (get_or s (g.from + i) 0) ∙ c.loop-i.invariant.0, moved_more g.store.now g.to g.from g.n c.requires.0 c.requires.1 s i (omega arith) c.loop-i.invariant.1)

pub returns : goal.returns
returns c =
    let g = c.args in
    let e : c.loop-i.i ≡ g.n = omega arith in
    c.loop-i.invariant.1 ∙ ap (paste g.store.now g.to (drop g.from g.store.now)) e ∙ moved_all g.store.now g.to g.from g.n c.requires.0 c.requires.1
