-- The first part: what its judgements come to, and what follows them.
use Rattle.std.proofs.Common.{◌≡◌, ℕ, ◌+◌, ◌-◌, ◌≤◌, List, [], ◌∷◌, ◌++◌, length, take, drop, sym, ap, ◌∙◌, arith, length-take, take_at}
use Rattle.buffer.specs.Splice.{replace_front, overwrite}
use Rattle.buffer.proofs.Parts.{overwrite-fits}
use Rattle.refusal.specs.declared.Numbers.{Numbers}
use Rattle.refusal.specs.Refusals.{Judged, fine, refused, or_else, first_of}
use Rattle.refusal.proofs.Judgements.{or_else_last, first-append}
use Rattle.preamble.specs.declared.Header.{Header}
use Rattle.preamble.specs.Judge.{header_of, preamble_of, preamble_judgements, judge_store}
use Rattle.secure.specs.Layout.{needed}
use Rattle.secure.specs.Reading.{judge_padding, judge_first}
use Rattle.sealed_receiver.specs.declared.Stage.TheVariants as stage
use Rattle.sealed_receiver.specs.declared.Receiving.{Receiving}
use Rattle.sealed_receiver.specs.declared.Known.{Known}
use Rattle.sealed_receiver.specs.Step.{refuse, unless_refused, with_header, with_opened, judge_part, part_text, begin_second_part, after_first_part, finish}
use Rattle.sealed_receiver.proofs.Openings.{part-text-length}
use Rattle.secure.proofs.Bounds.{segments-fit}
use Rattle.secure.proofs.Parts.{first_fits}

-- ---- its judgements

module _ (text : List ℕ) (store : ℕ) where
  abbrev h : Header
  h = header_of text

  abbrev room : Judged
  room = judge_store (needed h) store

  abbrev padded : Judged
  padded = judge_padding (drop (32 + h.s1.len) text)

  pub judged_first : or_else (first_of (preamble_judgements (preamble_of text) text)) (or_else room padded) ≡ judge_first text store
  unfolding judge_first
  judged_first =
      ap (λ (j : Judged). or_else (first_of (preamble_judgements (preamble_of text) text)) (or_else room j)) (sym (or_else_last padded))
      ∙ first-append (preamble_judgements (preamble_of text) text) (room ∷ padded ∷ [])

-- ---- behind it

module _ (v : Known) (text s : List ℕ) where
  pub first-refused : (n : Numbers) → judge_first text (length s) ≡ refused n → refuse n s ≡ after_first_part v text s
  unfolding after_first_part
  first-refused n e =
      sym (ap (λ (j : Judged). unless_refused j s (begin_second_part (with_header v (header_of text)) (replace_front (take (header_of text).s1.len (drop 32 text)) s))) e)

  pub first-accepted : (h : Header) (xs s₁ : List ℕ) → judge_first text (length s) ≡ fine → h ≡ header_of text → xs ≡ take h.s1.len (drop 32 text)
      → s₁ ≡ overwrite xs s → begin_second_part (with_header v h) s₁ ≡ after_first_part v text s
  unfolding after_first_part
  first-accepted h xs s₁ e eh ex es =
      let inline : Header → List ℕ = λ x. take x.s1.len (drop 32 text) in
      let x : xs ≡ inline (header_of text) = ex ∙ ap inline eh in
      let room : length xs ≤ length s =
      omega (arith, ap length x ∙ length-take (header_of text).s1.len (drop 32 text), segments-fit (header_of text), first_fits text (length s) e) in
      ap (begin_second_part (with_header v h)) (es ∙ overwrite-fits xs s room ∙ ap (λ (t : List ℕ). replace_front t s) x)
      ∙ ap (λ (k : Header). begin_second_part (with_header v k) (replace_front (inline (header_of text)) s)) eh
      ∙ sym (ap (λ (j : Judged). unless_refused j s (begin_second_part (with_header v (header_of text)) (replace_front (inline (header_of text)) s))) e)

-- ---- opened in the block

module _ (v : Known) (b s : List ℕ) where
  abbrev r : Receiving
  r = v.receiving

  pub first_unopened : (n : Numbers) → judge_part r b ≡ refused n → refuse n s ≡ finish stage.First b v s
  unfolding finish
  first_unopened n j = sym (ap (λ (x : Judged). unless_refused x s (after_first_part (with_opened v) (part_text r b) s)) j)

  pub first-opened : (ys text : List ℕ) → length b ≡ 96 → judge_part r b ≡ fine
      → ys ≡ part_text r b ++ drop (length b - 16) b → text ≡ take 80 ys
      → after_first_part (with_opened v) text s ≡ finish stage.First b v s
  unfolding finish
  first-opened ys text l j ey et =
      let lt : length (part_text r b) ≡ 80 = part-text-length r b j ∙ omega arith in
      let is : text ≡ part_text r b = et ∙ ap (take 80) ey ∙ take_at (part_text r b) (drop (length b - 16) b) 80 lt in
      ap (λ (t : List ℕ). after_first_part (with_opened v) t s) is
      ∙ sym (ap (λ (x : Judged). unless_refused x s (after_first_part (with_opened v) (part_text r b) s)) j)
