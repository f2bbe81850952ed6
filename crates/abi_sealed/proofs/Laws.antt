-- What a sealed build promises, in words.
use mathlib.Core.Path.{◌≡◌, ap, ◌∙◌}
use mathlib.Core.List.{List}
use mathlib.Core.Bool.{Bool, true, false, ◌&&◌}
use Prim.Native.Nat.{ℕ}
use Rattle.refusal.specs.declared.Refusal.TheVariants.{StateContradicts}
use Rattle.refusal.specs.Refusals.{numbers_of}
use Rattle.refusal.specs.Writes.{outcome_of}
use Rattle.preamble.specs.declared.Header.{Header}
use Rattle.sealed_builder.specs.declared.Sending.{Sending}
use Rattle.sealed_builder.specs.declared.Sealed.{Sealed}
use Rattle.sealed_builder.specs.Build.{sealed_done, BuiltSealed}
use Rattle.abi.specs.declared.Written.{Written}
use Rattle.abi.specs.Words.{within, abi_refused, header_at, header_limits, abi_result}
use Rattle.abi_sealed.specs.Words.{sending_of, sending_numbers, sending_limits, sealed_with, in_abi, abi_sealed, AbiBuiltSealed}

module _ (ws key nonce header : List ℕ) (abort : Bool) (source buf : List ℕ) (queued : ℕ) where
  -- a word is beyond its field
  pub sealed-beyond : (w : Written) → (within sending_limits 0 ws && within header_limits 0 header) ≡ false → w ≡ abi_refused (numbers_of StateContradicts)
      → AbiBuiltSealed ws key nonce header abort source buf queued (sealed_with w ws nonce buf)
  unfolding abi_sealed
  sealed-beyond w k e = record { promise = rw k (ap (λ (x : Written). sealed_with x ws nonce buf) e) }

  pub sealed-built : (s : Sending) (h : Header) (b : Sealed) (w : Written) (ns next after : List ℕ)
      → (within sending_limits 0 ws && within header_limits 0 header) ≡ true → s ≡ sending_of ws key nonce → h ≡ header_at 0 header
      → BuiltSealed s h abort source buf queued b after → w ≡ abi_result (outcome_of b.built) → ns ≡ sending_numbers b.sending → next ≡ b.sending.nonce
      → AbiBuiltSealed ws key nonce header abort source buf queued (sealed_with w ns next after)
  unfolding abi_sealed
  sealed-built s h b w ns next after k p q d e f g =
      let words : sealed_with w ns next after ≡ sealed_with (abi_result (outcome_of b.built)) (sending_numbers b.sending) b.sending.nonce after = rw (e, f, g) in
      let handed : in_abi (sealed_done s h abort source buf queued) ≡ in_abi (sealed_done (sending_of ws key nonce) (header_at 0 header) abort source buf queued) = rw (p, q) in
      record { promise = rw k (words ∙ ap in_abi d.promise ∙ handed) }
