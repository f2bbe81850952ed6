use mathlib.Core.Path.{◌≡◌, sym, ap, ap₂, ◌∙◌}
use mathlib.Core.List.{List, ◌++◌}
use Prim.Native.Nat.{ℕ, ◌+◌}
use lib.ListN.{length, length-append}
use Rattle.buffer.specs.Splice.{replace_front}
use Rattle.buffer.proofs.Parts.{back, next}
use Rattle.body.specs.Body.{first_sum, late_byte, epilogue, body, rest_sent}
use Rattle.body.proofs.Laws.{length-first-sum, length-sent}
use Rattle.builder.proofs.put_body.Goals as goal

pub returns : goal.returns
unfolding body
returns c =
    let g = c.args in
    let out = g.out.now in
    let first = g.first.now in
    let q : List ℕ = rest_sent g.abort g.rest.now in
    let head : List ℕ = first ++ first_sum g.revision g.h first in
    let a : ℕ = length first + c.first_sum_length.result in
    let l₁ = c.put_first.new.out in
    let l₂ : List ℕ = back l₁ a c.put_rest.new.out in
    let k : length head ≡ a = length-append first (first_sum g.revision g.h first) ∙ ap (λ (n : ℕ). length first + n) (length-first-sum g.revision g.h first ∙ sym c.first_sum_length.ensures.0) in
    let e : l₂ ≡ replace_front (head ++ q) out = next out l₁ head q c.put_rest.new.out a k c.put_first.ensures c.put_rest.ensures in
    next out l₂ (head ++ q) (epilogue g.revision g.h (late_byte g.revision g.abort) first q) c.put_epilogue.new.out (a + length g.rest.now)
    (length-append head q ∙ ap₂ ◌+◌ k (length-sent g.abort g.rest.now))
    e
    c.put_epilogue.ensures
