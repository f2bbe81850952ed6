use Rattle.std.proofs.Common.{◌≡◌, ◌∙◌, ◌-◌, ◌*◌, arith}
use Rattle.std.proofs.Math.Nat.{add-zero}
use Rattle.ghash.proofs.Entries.{turn-four}
use Rattle.ghash.proofs.Words.{bits_at}
use Rattle.ghash.proofs.quarter_by.Goals as goal

pub loop-j-init : goal.loop-j-init
loop-j-init c = λ v y n f e. rw add-zero

pub loop-j-preserved : goal.loop-j-preserved
loop-j-preserved c =
    let l = c.loop-j in
    let a = c.args in
    λ v y n f e.
    l.invariant v y n f e
    ∙ turn-four v y n a.at l.j _ _ a.m.now l.w f (omega arith) (omega arith) (omega arith) (bits_at y n (28 - 4 * l.j) a.x (omega arith) e)

pub returns : goal.returns
returns c =
    let e : c.loop-j.j ≡ 8 = omega arith in
    λ v y n f h. c.loop-j.invariant v y n f h ∙ rw (e, add-zero)
