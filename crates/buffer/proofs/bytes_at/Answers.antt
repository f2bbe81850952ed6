use Rattle.std.proofs.Common.{◌≡◌, ◌∙◌, length, take, drop, replicate, sym, ap, arith}
use Rattle.std.proofs.lemmas.List.{length-replicate}
use Rattle.buffer.proofs.CopyLoop.{copied-whole}
use Rattle.buffer.proofs.bytes_at.Goals as goal

pub returns-then-there : goal.returns-then-there
returns-then-there g c =
    let e : c.copy_from_slice.new.self ≡ take g.row.N (drop c.args.i c.args.s.now) = c.copy_from_slice.ensures.after ∙ c.part-there.ensures in
    e ∙ copied-whole _ _ (sym (ap length c.part-there.ensures) ∙ c.if-there.true ∙ sym (length-replicate g.row.N 0))
