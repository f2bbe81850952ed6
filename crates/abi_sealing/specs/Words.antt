-- Sealing and opening over pointers and words: each promises the words of what `seal_done` and `open_done` say.
use Rattle.std.specs.Prelude.{◌≡◌, List, ℕ}
use Rattle.aes.specs.Aes.{key_expansion}
use Rattle.gcm.specs.Calls as gcm
use Rattle.abi.specs.declared.Written.{Written}
use Rattle.abi.specs.Words.{abi_done, in_abi}

-- THE PROMISES: a key, a nonce, the bytes to be sealed or opened, the buffer, the answer, and the buffer then
pub record AbiSealing (key nonce text buf : List ℕ) (r : Written) (after : List ℕ) : Type 0 where
  pub promise : abi_done r after ≡ in_abi (gcm.seal_done (key_expansion key) nonce text buf)

pub record AbiOpening (key nonce s buf : List ℕ) (r : Written) (after : List ℕ) : Type 0 where
  pub promise : abi_done r after ≡ in_abi (gcm.open_done (key_expansion key) nonce s buf)
