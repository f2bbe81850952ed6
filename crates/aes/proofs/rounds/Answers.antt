use Rattle.std.proofs.Common.{◌≡◌, ◌<◌, refl, arith}
use Rattle.aes.specs.Aes.{rounds}
use Rattle.aes.proofs.Keys.{rounds-next, cipher-last, middle-length, middle}
use Rattle.aes.proofs.rounds.Goals as goal

pub loop-k-init : goal.loop-k-init
unfolding rounds
loop-k-init c = refl

pub loop-k-preserved : goal.loop-k-preserved
loop-k-preserved c =
    let l = c.loop-k in
    let w = c.args.w.now in
    let h : l.k-index < 9 = omega (arith, middle-length w c.told-w) in
    cc (rounds-next l.k-index w c.args.keyed, middle w l.k-index h, l.invariant)

pub returns : goal.returns
returns c =
    let l = c.loop-k in
    let w = c.args.w.now in
    let n : l.k-index ≡ 9 = omega (arith, middle-length w c.told-w) in
    λ block h. cc (cipher-last w block, l.invariant, n, h)
