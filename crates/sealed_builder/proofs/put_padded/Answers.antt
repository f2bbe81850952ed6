use Rattle.std.proofs.Common.{◌≡◌, ℕ, ◌+◌, ◌≤◌, List, ◌++◌, length, replicate, sym, ap, ◌∙◌, arith}
use lib.ListN.{length-replicate}
use Rattle.buffer.specs.Splice.{replace_front, overwrite}
use Rattle.buffer.proofs.Parts.{rest, overwrite-fits, next-overwrite}
use Rattle.body.specs.Body.{rest_sent}
use Rattle.body.proofs.Laws.{length-sent}
use Rattle.secure.specs.Layout.{padding}
use Rattle.sealed_builder.proofs.put_padded.Goals as goal

pub returns : goal.returns
returns c =
    let g = c.args in
    let xs : List ℕ = rest_sent g.abort g.bytes.now in
    let n : ℕ = length g.bytes.now in
    let zeros : List ℕ = replicate (padding n) 0 in
    let en : length xs ≡ n = length-sent g.abort g.bytes.now in
    let room : n + length zeros ≤ length g.out.now = omega (arith, length-replicate {A = ℕ} (padding n) 0, c.requires) in
    next-overwrite g.out.now c.put_sent.new.out xs zeros c.put_zeros.new.out n en room
    (c.put_sent.ensures ∙ overwrite-fits xs g.out.now (omega (arith, c.requires)))
    (c.put_zeros.ensures ∙ ap (λ (k : ℕ). overwrite (replicate k 0) (rest c.put_sent.new.out n)) c.padding.ensures.0)
    ∙ ap (λ (k : ℕ). replace_front (xs ++ replicate (padding k) 0) g.out.now) (sym en)
