-- Parts that may be missing, sealed one behind the other.
use Rattle.std.proofs.Common.{◌≡◌, ℕ, ◌+◌, true, false, List, length, ◌∙◌, append-nil}
use Rattle.buffer.specs.Splice.{replace_front}
use Rattle.buffer.proofs.Parts.{rest, back, next}
use Rattle.preamble.specs.declared.Header.{Header}
use Rattle.aes.specs.Aes.{State}
use Rattle.gcm.specs.Gcm.{sealed_by}
use Rattle.gcm.proofs.Placing.{sealed-length}
use Rattle.secure.specs.Layout.{next_nonce, no_second_part, no_last_part, unless_none, second_text, last_text, later_texts, parts_from, sealed_parts}

module _ (w : List State) (nonce : List ℕ) where
  pub last_none : (h : Header) (text out : List ℕ) → no_last_part h ≡ true → out ≡ replace_front (sealed_parts w (parts_from nonce (unless_none (no_last_part h) text))) out
  last_none h text out e = rw e

  pub last-there : (h : Header) (text out after : List ℕ) → no_last_part h ≡ false → after ≡ replace_front (sealed_by w nonce text) out
      → after ≡ replace_front (sealed_parts w (parts_from nonce (unless_none (no_last_part h) text))) out
  last-there h text out after e a = rw (e, append-nil (sealed_by w nonce text)) a

  pub rest-none : (h : Header) (late : ℕ) (first bytes out after : List ℕ) → no_second_part h ≡ true
      → after ≡ replace_front (sealed_parts w (parts_from nonce (unless_none (no_last_part h) (last_text h late bytes)))) out
      → after ≡ replace_front (sealed_parts w (parts_from nonce (later_texts h late first bytes))) out
  unfolding later_texts
  rest-none h late first bytes out after e a = rw e a

  pub rest-there : (h : Header) (late n : ℕ) (first bytes out l₁ zs : List ℕ) → no_second_part h ≡ false
      → length (second_text first) + 16 ≡ n
      → l₁ ≡ replace_front (sealed_by w nonce (second_text first)) out
      → zs ≡ replace_front (sealed_parts w (parts_from (next_nonce nonce) (unless_none (no_last_part h) (last_text h late bytes)))) (rest l₁ n)
      → back l₁ n zs ≡ replace_front (sealed_parts w (parts_from nonce (later_texts h late first bytes))) out
  unfolding later_texts
  rest-there h late n first bytes out l₁ zs e en e₁ e₂ =
      rw e
      (next out l₁ (sealed_by w nonce (second_text first)) (sealed_parts w (parts_from (next_nonce nonce) (unless_none (no_last_part h) (last_text h late bytes)))) zs n
      (sealed-length w nonce (second_text first) ∙ en) e₁ e₂)
