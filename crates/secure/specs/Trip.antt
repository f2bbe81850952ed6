-- Reading what was sealed gives it back (02, K4: "for a sealed frame to come back"): of the definitions, for every frame, key and nonce.
use Rattle.std.specs.Prelude.{◌≡◌, ℕ, suc, ◌+◌, ◌<◌, ◌≤◌, true, false, List, ◌++◌, length}
use Rattle.refusal.specs.Refusals.{fine}
use Rattle.preamble.specs.declared.Header.{Header}
use Rattle.preamble.specs.Layout.{total}
use Rattle.preamble.specs.Judge.{judge_header}
use Rattle.preamble.specs.Reading.{HeaderFits}
use Rattle.stream.specs.declared.Event.TheVariants.{Frame, Dropped}
use Rattle.stream.specs.Stream.{after}
use Rattle.aes.specs.Aes.{State}
use Rattle.secure.specs.Layout.{all_nonces, nonce_after, sealed_frame, sealed_length, part_count, needed}
use Rattle.secure.specs.Reading.{zeroed, holding, frames}

-- a frame that a builder accepts, a reader with nonces enough left, and a store that is long enough
pub record Sent (n : ℕ) (h : Header) (source store : List ℕ) : Type 0 where
  pub fits : HeaderFits h
  pub header : judge_header h ≡ fine
  pub whole : length source ≡ total h
  pub nonces : n + part_count h ≤ all_nonces
  pub room : needed h ≤ length store

-- whatever follows it, it is reported at its last byte with its segments in the store, or dropped; the next frame is read with the next nonce
pub record ComesBack (w : List State) (nonce : List ℕ) (n : ℕ) (h : Header) (source store : List ℕ) : Type 0 where
  pub whole : (f P : ℕ) (tail : List ℕ)
      → frames (suc f) w nonce n P (sealed_frame w nonce h false source ++ tail) store
      ≡ after (Frame h) (P + sealed_length h) (holding h source store)
      (frames f w (nonce_after (part_count h) nonce) (n + part_count h) (P + sealed_length h) tail (holding h source store))
  pub aborted : 1 < h.count → (f P : ℕ) (tail : List ℕ)
      → frames (suc f) w nonce n P (sealed_frame w nonce h true source ++ tail) store
      ≡ after (Dropped h) (P + sealed_length h) (zeroed h store)
      (frames f w (nonce_after (part_count h) nonce) (n + part_count h) (P + sealed_length h) tail (zeroed h store))

unfoldable pub SealedTrip : Type 0
SealedTrip = (w : List State) (nonce : List ℕ) (n : ℕ) (h : Header) (source store : List ℕ) → Sent n h source store → ComesBack w nonce n h source store
