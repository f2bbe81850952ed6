-- What sealing and opening promise, in words.
use mathlib.Core.Path.{◌≡◌, ap, ◌∙◌}
use mathlib.Core.List.{List}
use Prim.Native.Nat.{ℕ}
use Rattle.aes.specs.Aes.{key_expansion}
use Rattle.std.specs.Prelude.{Result}
use Rattle.refusal.specs.declared.Refusal.{Refusal}
use Rattle.refusal.specs.Writes.{outcome_of}
use Rattle.gcm.specs.Calls.{Sealing, Opening}
use Rattle.abi.specs.declared.Written.{Written}
use Rattle.abi.specs.Words.{abi_done, in_abi, abi_result}
use Rattle.abi_sealing.specs.Words.{AbiSealing, AbiOpening}

module _ {key nonce bytes buf : List ℕ} {o : Result ℕ Refusal} {w : Written} {after : List ℕ} where
  pub sealed-words : Sealing (key_expansion key) nonce bytes buf o after → w ≡ abi_result (outcome_of o) → AbiSealing key nonce bytes buf w after
  sealed-words h e = record { promise = ap (λ (x : Written). abi_done x after) e ∙ ap in_abi h.is }

  pub opened-words : Opening (key_expansion key) nonce bytes buf o after → w ≡ abi_result (outcome_of o) → AbiOpening key nonce bytes buf w after
  opened-words h e = record { promise = ap (λ (x : Written). abi_done x after) e ∙ ap in_abi h.is }
