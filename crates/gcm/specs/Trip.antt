-- Opening what was sealed, under the same key and nonce, gives it back (02, K3).
use Rattle.std.specs.Prelude.{◌≡◌, Result, List, ℕ, ◌+◌, ◌≤◌, length, take}
use Rattle.buffer.specs.Splice.{replace_front}
use Rattle.aes.specs.Aes.{State}
use Rattle.gcm.specs.Gcm.{plain, sealed_by, opened_by}
use Rattle.gcm.specs.Calls.{Sealing, Opening}
use Rattle.refusal.specs.declared.Refusal.{Refusal}
use Rattle.refusal.specs.Writes.{wrote, outcome_of}

-- any call that seals, any call that opens what it wrote, with room for the text
pub record RoundTrip : Type 0 where
  pub lists : (w : List State) (nonce text : List ℕ) → opened_by w nonce (sealed_by w nonce text) ≡ plain text
  pub calls : (w : List State) (nonce text buf after back again : List ℕ) (r q : Result ℕ Refusal) → Sealing w nonce text buf r after
      → outcome_of r ≡ wrote (length text + 16) → length text ≤ length back → Opening w nonce (take (length text + 16) after) back q again
      → (outcome_of q ≡ wrote (length text)) × (again ≡ replace_front text back)
