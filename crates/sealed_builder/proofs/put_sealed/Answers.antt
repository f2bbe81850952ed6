use Rattle.std.proofs.Common.{◌≡◌, ℕ, ◌+◌, List, take, drop, refl, ap, ◌∙◌, ap₂, arith}
use Rattle.buffer.specs.Splice.{replace_front}
use Rattle.buffer.proofs.Parts.{rest, length_rest, next}
use Rattle.preamble.specs.declared.Header.{Header}
use Rattle.banner.specs.declared.Revision.TheVariants.{Msgr21}
use Rattle.body.specs.Body.{late_byte, rest_sent}
use Rattle.gcm.specs.Gcm.{sealed_by}
use Rattle.gcm.proofs.Placing.{sealed-length}
use Rattle.secure.specs.Layout.{next_nonce, first_text, later_texts, texts, parts_from, sealed_parts, first_length, second_part_length, last_part_length, sealed_length}
use Rattle.secure.proofs.Lengths.{length-first-text}
use Rattle.sealed_builder.proofs.put_sealed.Goals as goal

length-is : (h : Header) → sealed_length h ≡ first_length + second_part_length h + last_part_length h
unfolding sealed_length
length-is h = refl

pub seal_later-requires : goal.seal_later-requires
seal_later-requires c = omega (arith, length-is c.args.h, c.requires.1, c.seal_first.auto.out, length_rest c.seal_first.new.out 96)

pub returns : goal.returns
unfolding texts
returns c =
    let g = c.args in
    let n : ℕ = g.h.s1.len in
    let l₁ : List ℕ = c.seal_first.new.out in
    let late : ℕ = late_byte Msgr21 g.abort in
    let of : List ℕ → List ℕ → List ℕ → List ℕ = λ nonce first bytes. sealed_parts g.k.now.w.now (parts_from nonce (later_texts g.h late first (rest_sent g.abort bytes))) in
    let head : List ℕ → List ℕ = λ first. sealed_by g.k.now.w.now g.k.now.nonce (first_text g.h first) in
    let first : List ℕ = take n g.source.now in
    next g.out.now l₁ (head first) (of (next_nonce g.k.now.nonce) first (drop n g.source.now)) c.seal_later.new.out 96
    (sealed-length g.k.now.w.now g.k.now.nonce (first_text g.h first) ∙ ap (λ (k : ℕ). k + 16) (length-first-text g.h first))
    (c.seal_first.ensures ∙ ap (λ (x : List ℕ). replace_front (head x) g.out.now) c.part-first.ensures)
    (c.seal_later.ensures
    ∙ ap (λ (x : List ℕ). replace_front (of x c.part-first.result.now c.behind-rest.result.now) (rest l₁ 96)) c.next_nonce-nonce.ensures
    ∙ ap₂ (λ (x y : List ℕ). replace_front (of (next_nonce g.k.now.nonce) x y) (rest l₁ 96)) c.part-first.ensures c.behind-rest.ensures)

pub seal_first-requires : goal.seal_first-requires
seal_first-requires c = omega (arith, length-is c.args.h, c.requires.1)

pub slice_bounds-seal_later-count : goal.slice_bounds-seal_later-count
slice_bounds-seal_later-count c = omega (arith, length-is c.args.h, c.requires.1, c.seal_first.auto.out)

pub slice_bounds-seal_later-start : goal.slice_bounds-seal_later-start
slice_bounds-seal_later-start c = omega (arith, length-is c.args.h, c.requires.1, c.seal_first.auto.out)
