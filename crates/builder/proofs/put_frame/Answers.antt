use mathlib.Core.Path.{◌≡◌, ◌∙◌, ap, ap₂}
use mathlib.Core.List.{List}
use Prim.Native.Nat.{ℕ, ◌-◌}
use native.Mathlib.Omega.{arith}
use lib.ListN.{length, take, drop, length-drop}
use lib.Seq.{length-take-le}
use Rattle.buffer.specs.Splice.{replace_front, overwrite}
use Rattle.buffer.proofs.Parts.{rest, next, length_rest, overwrite-fits}
use Rattle.preamble.specs.Layout.{preamble_bytes}
use Rattle.preamble.proofs.Laws.{length-preamble}
use Rattle.body.specs.Body.{late_byte, body, rest_sent, frame_bytes}
use Rattle.builder.proofs.put_frame.Goals as goal

pub put_body-requires : goal.put_body-requires
put_body-requires c =
    let g = c.args in
    let s = g.source.now in
    let n = g.h.s1.len in
    let l₁ = c.put.new.out in
    let a = length-take-le n s (omega (arith, c.requires.0)) in
    let d = length-drop n s in
    let b : length (rest l₁ 32) ≡ length l₁ - 32 = length_rest l₁ 32 in (
      ap length c.part-first.ensures ∙ a,
      ap length c.behind-rest.ensures ∙ d ∙ omega (arith, c.requires.0),
      omega (arith, c.requires.1, c.put.auto.out, b),
    )

pub returns : goal.returns
unfolding frame_bytes
returns c =
    let g = c.args in
    let s = g.source.now in
    let n = g.h.s1.len in
    let l₁ = c.put.new.out in
    let of : List ℕ → List ℕ → List ℕ = λ first rest. body g.revision g.h (late_byte g.revision g.abort) first (rest_sent g.abort rest) in
    next g.out.now l₁ (preamble_bytes g.h) (of (take n s) (drop n s)) c.put_body.new.out 32
    (length-preamble g.h)
    (c.put.ensures ∙ ap (λ (x : List ℕ). overwrite x g.out.now) c.preamble_bytes.ensures ∙ overwrite-fits (preamble_bytes g.h) g.out.now (omega (arith, c.requires.1, length-preamble g.h)))
    (c.put_body.ensures ∙ ap₂ (λ (x y : List ℕ). replace_front (of x y) (rest l₁ 32)) c.part-first.ensures c.behind-rest.ensures)
