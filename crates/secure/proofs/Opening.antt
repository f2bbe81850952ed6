-- The first part read by what it opens to, and the ends of the list: too few bytes for a first part, and none.
use Rattle.std.proofs.Common.{◌≡◌, ℕ, zero, suc, ◌+◌, ◌<◌, cond, ltb, List, [], length, take, drop, refl, lt-ltb}
use Rattle.preamble.specs.Judge.{header_of}
use Rattle.stream.specs.Stream.{ended, unless_refused}
use Rattle.aes.specs.Aes.{State, key_expansion}
use Rattle.gcm.specs.Gcm.{Opened, opened_by}
use Rattle.secure.specs.Layout.{next_nonce, first_length}
use Rattle.secure.specs.Reading.{judge_nonce, judge_first, by_opening, second_trace, frames, sealed_trace}

module _ (w : List State) (nonce : List ℕ) (n P : ℕ) (bytes : List ℕ) (o : Opened) where
  pub read_first : (f : ℕ) (store : List ℕ) → opened_by w nonce (take first_length bytes) ≡ o
      → frames (suc f) w nonce n P bytes store
      ≡ cond (ltb (length bytes) first_length) (ended store)
      (unless_refused (judge_nonce n) (P + first_length) store
      (by_opening o (P + first_length) store
      (λ text. unless_refused (judge_first text (length store)) (P + first_length) store
      (second_trace w (header_of text) (next_nonce nonce) (suc n) (P + first_length) (drop first_length bytes)
      (take (header_of text).s1.len (drop 32 text)) store (frames f w)))))
  unfolding frames
  read_first f store e = rw e

-- less than a first part
pub short : (key nonce : List ℕ) (P : ℕ) (s bytes : List ℕ) → length bytes < 96 → sealed_trace key nonce 0 P bytes s ≡ ended s
unfolding sealed_trace frames
short key nonce P s bytes h = go (length bytes)
  where
    go : (f : ℕ) → frames f (key_expansion key) nonce 0 P bytes s ≡ ended s
    go zero = refl
    go (suc f) = rw (lt-ltb (length bytes) 96 h)

-- no bytes
pub none : (f : ℕ) (w : List State) (nonce : List ℕ) (n P : ℕ) (s : List ℕ) → frames f w nonce n P [] s ≡ ended s
unfolding frames
none zero w nonce n P s = refl
none (suc f) w nonce n P s = refl
