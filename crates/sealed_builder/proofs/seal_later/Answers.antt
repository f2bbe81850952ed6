use Rattle.std.proofs.Common.{◌≡◌, ℕ, ◌+◌, ◌-◌, false, List, length, drop, sym, ap, ◌∙◌, arith, length-drop}
use Rattle.buffer.specs.Splice.{replace_front}
use Rattle.buffer.proofs.Parts.{rest, length_rest}
use Rattle.banner.specs.declared.Revision.TheVariants.{Msgr21}
use Rattle.body.specs.Body.{late_byte, rest_sent}
use Rattle.secure.specs.Layout.{round_up, no_second_part, second_part_length, no_last_part, unless_none, second_text, last_text, parts_from, sealed_parts}
use Rattle.secure.proofs.Lengths.{length-padded}
use Rattle.secure.proofs.Missing.{rest-none, rest-there}
use Rattle.secure.proofs.Bounds.{rest-size}
use Rattle.sealed_builder.proofs.seal_later.Goals as goal
use Rattle.preamble.specs.declared.Header.{Header}

pub returns-then-no_second_part : goal.returns-then-no_second_part
returns-then-no_second_part c =
    rest-none c.args.k.now.w.now c.args.k.now.nonce c.args.f.now.header (late_byte Msgr21 c.args.f.now.abort) c.args.f.now.first.now (rest_sent c.args.f.now.abort c.args.f.now.rest.now) c.args.out.now c.seal_last.new.out (sym c.no_second_part.ensures ∙ c.if-no_second_part.true) c.seal_last.ensures

-- where there is a second part: its size, by the length of segment 1
sized : (h : Header) (n : ℕ) → no_second_part h ≡ false → n ≡ h.s1.len → second_part_length h ≡ round_up (n - 48) + 16
sized h n there e = rest-size h there ∙ sym (ap (λ (k : ℕ). round_up (k - 48) + 16) e)

pub seal_last-requires-2 : goal.seal_last-requires-2
seal_last-requires-2 c =
    let there = sym c.no_second_part.ensures ∙ c.if-no_second_part.false in
    let l₁ : List ℕ = c.seal_second_part.new.out in
    let r = length_rest l₁ (length c.args.f.now.first.now - 48 + c.padding.result + 16) in
    omega (arith, r, sized c.args.f.now.header _ there c.args.f.now.first_whole, c.requires, c.padding.ensures.0, c.seal_second_part.auto.out)

pub returns : goal.returns
returns c =
    let g = c.args in
    let bytes : List ℕ = rest_sent g.f.now.abort g.f.now.rest.now in
    let l₁ : List ℕ = c.seal_second_part.new.out in
    let a : ℕ = length g.f.now.first.now - 48 + c.padding.result + 16 in
    let len : length (second_text g.f.now.first.now) + 16 ≡ a =
    ap (λ (k : ℕ). k + 16) (length-padded (drop 48 g.f.now.first.now) ∙ ap round_up (length-drop 48 g.f.now.first.now)) ∙ omega (arith, c.padding.ensures.0) in
    rest-there g.k.now.w.now g.k.now.nonce g.f.now.header (late_byte Msgr21 g.f.now.abort) a g.f.now.first.now bytes g.out.now l₁ c.seal_last-2.new.out (sym c.no_second_part.ensures ∙ c.if-no_second_part.false) len c.seal_second_part.ensures
    (c.seal_last-2.ensures ∙ ap (λ (x : List ℕ). replace_front (sealed_parts g.k.now.w.now (parts_from x (unless_none (no_last_part g.f.now.header) (last_text g.f.now.header (late_byte Msgr21 g.f.now.abort) bytes)))) (rest l₁ a)) c.next_nonce-nonce.ensures)
