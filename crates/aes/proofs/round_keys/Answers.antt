use Rattle.std.proofs.Common.{◌≡◌, ◌∙◌, ◌+◌, ◌<◌, refl, length, arith}
use Rattle.std.proofs.Math.ListN.{length-set}
use Rattle.aes.specs.Aes.{round_key, rcon}
use Rattle.aes.proofs.Keys.{key-next, rcon-next, keys-more, expanded}
use Rattle.aes.proofs.round_keys.Goals as goal

pub loop-i-init : goal.loop-i-init
unfolding round_key rcon
loop-i-init c = (refl, λ j h. let q : j ≡ 0 = omega arith in rw q, refl)

pub loop-i-preserved : goal.loop-i-preserved
loop-i-preserved c =
    let l = c.loop-i in
    let key = c.args.key in
    let last = l.invariant.1 l.i (omega arith) in
    let next : c.next_key.result ≡ round_key (l.i + 1) key = cc (key-next l.i key, last, l.invariant.2) in
    let h : l.i + 1 < length l.w = omega arith in (
      length-set l.w (l.i + 1) c.next_key.result ∙ l.invariant.0,
      keys-more l.w key c.next_key.result (l.i + 1) h next l.invariant.1,
      cc (rcon-next l.i, l.invariant.2),
    )

pub returns : goal.returns
returns c = expanded c.loop-i.w c.args.key c.loop-i.invariant.0 (λ j h. c.loop-i.invariant.1 j (omega arith))
