use Rattle.std.proofs.Common.{◌∙◌, ℕ, ◌+◌, ◌*◌, ap, arith, bit_and}
use Rattle.std.proofs.Math.Nat.{add-zero}
use lib.Bits.{mask_lt}
use Rattle.crc_squares.specs.Table.{root_or_square_at, nibbles}
use Rattle.crc_squares.proofs.Nibbles.{nibbles-next, nibbles-end}
use Rattle.crc_squares.proofs.by_nibbles.Goals as goal

pub loop-j-init : goal.loop-j-init
loop-j-init c = ap (λ (p : ℕ). nibbles root_or_square_at p 8 c.args.x) (add-zero c.args.first)

pub loop-j-preserved : goal.loop-j-preserved
loop-j-preserved c =
    let l = c.loop-j in
    let e = c.requires.right.at ((c.args.first + l.j) * 16 + bit_and l.rest 15) (omega (arith, mask_lt l.rest 4)) in
    nibbles-next root_or_square_at l.r _ l.rest c.args.first l.j (omega arith) e ∙ l.invariant

pub returns : goal.returns
returns c = nibbles-end root_or_square_at c.loop-j.r c.loop-j.rest (c.args.first + c.loop-j.j) c.loop-j.j (omega arith) ∙ c.loop-j.invariant
