-- Texts sealed where they stand, or where they were laid.
use mathlib.Core.Path.{◌≡◌, sym, ap, ap₂, ◌∙◌}
use mathlib.Core.List.{List, [], ◌++◌, append-nil}
use Prim.Native.Nat.{ℕ, ◌+◌, ◌-◌, ◌≤◌}
use native.Mathlib.Omega.{arith}
use lib.ListN.{length, take, drop, drop_of_length-le}
use lib.Seq.{length-take-le, take-take}
use Rattle.buffer.specs.Splice.{replace_front, overwrite}
use Rattle.buffer.proofs.Parts.{overwrite-fits}
use Rattle.aes.specs.Aes.{State}
use Rattle.gcm.specs.Gcm.{sealed_by}
use Rattle.gcm.specs.Calls.{limit, Sealing}
use Rattle.std.specs.Prelude.{Result}
use Rattle.refusal.specs.declared.Refusal.{Refusal}
use Rattle.refusal.specs.Writes.{Done}
use Rattle.gcm.proofs.Answers.{in-place-fits}
use Rattle.gcm.proofs.Placing.{sealed-length, sealed-over}

module _ (w : List State) (nonce : List ℕ) where
  -- sealed in the part up to its tag, which was lent
  pub sealed-part : (n : ℕ) (out ys : List ℕ) (r : Result ℕ Refusal) → n + 16 ≤ length out → n ≤ limit
      → Sealing w nonce (take (length (take (n + 16) out) - 16) (take (n + 16) out)) (take (n + 16) out) r ys
      → ys ++ drop (n + 16) out ≡ replace_front (sealed_by w nonce (take n out)) out
  sealed-part n out ys r h k s =
      let p : List ℕ = take (n + 16) out in
      let lp : length p ≡ n + 16 = length-take-le (n + 16) out h in
      let ln : length p - 16 ≡ n = omega arith in
      let text : take (length p - 16) p ≡ take n out = ap (λ (i : ℕ). take i p) ln ∙ take-take n (n + 16) out (omega arith) in
      let sealed : List ℕ = sealed_by w nonce (take n out) in
      let ls : length sealed ≡ n + 16 = sealed-length w nonce (take n out) ∙ ap (λ (i : ℕ). i + 16) (length-take-le n out (omega arith)) in
      let none : drop (length sealed) p ≡ [] = drop_of_length-le p {i = length sealed} (omega arith) in
      let left : ys ≡ sealed =
      ap (λ (d : Done). d.buffer) (s.is ∙ in-place-fits w nonce p (omega arith) (omega arith))
      ∙ ap (λ (t : List ℕ). replace_front (sealed_by w nonce t) p) text
      ∙ ap (λ (t : List ℕ). sealed ++ t) none
      ∙ append-nil sealed in
      ap₂ (λ (y : List ℕ) (i : ℕ). y ++ drop i out) left (sym ls)

  -- a text laid at the front, and sealed there
  pub sealed-laid : (text out l₁ l₂ : List ℕ) (n : ℕ) → length text ≡ n → n + 16 ≤ length out → l₁ ≡ replace_front text out
      → l₂ ≡ replace_front (sealed_by w nonce (take n l₁)) l₁ → l₂ ≡ replace_front (sealed_by w nonce text) out
  sealed-laid text out l₁ l₂ n en h e₁ e₂ =
      let room : length text + 16 ≤ length out = omega arith in
      let laid : l₁ ≡ overwrite text out = e₁ ∙ sym (overwrite-fits text out (omega arith)) in
      e₂ ∙ ap (λ (i : ℕ). replace_front (sealed_by w nonce (take i l₁)) l₁) (sym en) ∙ sealed-over w nonce text out l₁ room laid
