use mathlib.Core.Path.{sym, ap₂, ◌∙◌}
use mathlib.Core.List.{List, [], ◌∷◌}
use Prim.Native.Nat.{ℕ}
use native.Mathlib.Omega.{arith}
use Rattle.body.specs.Body.{late_byte, epilogue, rest_sent}
use Rattle.body.proofs.Laws.{length-epilogue, epilogue-is}
use Rattle.buffer.proofs.Parts.{overwrite_as}
use Rattle.builder.proofs.put_epilogue.Goals as goal

pub returns-in-Msgr20 : goal.returns-in-Msgr20
returns-in-Msgr20 c =
    let g = c.args in
    let q : List ℕ = rest_sent g.abort g.rest.now in
    let s = c.rest_fields-fields.result in
    let v = c.in-Msgr20.is in
    overwrite_as _ (epilogue g.revision g.h (late_byte g.revision g.abort) g.first.now q) g.out.now _ c.put.ensures
    (c.epilogue20.ensures
    ∙ epilogue-is g.revision g.h (late_byte g.revision g.abort) g.first.now q _ (c.field_of.result ∷ s.s2 ∷ s.s3 ∷ s.s4 ∷ [])
    (sym c.no_epilogue.ensures ∙ c.if-no_epilogue.false)
    c.late_byte-late.ensures
    (rw v (ap₂ ◌∷◌ c.field_of.ensures c.rest_fields-fields.ensures)))
    (omega (arith, c.requires, length-epilogue g.revision g.h (late_byte g.revision g.abort) g.first.now q))

pub returns-in-Msgr21 : goal.returns-in-Msgr21
returns-in-Msgr21 c =
    let g = c.args in
    let q : List ℕ = rest_sent g.abort g.rest.now in
    let s = c.rest_fields-fields.result in
    let v = c.in-Msgr21.is in
    overwrite_as _ (epilogue g.revision g.h (late_byte g.revision g.abort) g.first.now q) g.out.now _ c.put-in-Msgr21.ensures
    (c.epilogue21.ensures
    ∙ epilogue-is g.revision g.h (late_byte g.revision g.abort) g.first.now q _ (s.s2 ∷ s.s3 ∷ s.s4 ∷ [])
    (sym c.no_epilogue.ensures ∙ c.if-no_epilogue.false)
    c.late_byte-late.ensures
    (rw v c.rest_fields-fields.ensures))
    (omega (arith, c.requires, length-epilogue g.revision g.h (late_byte g.revision g.abort) g.first.now q))
