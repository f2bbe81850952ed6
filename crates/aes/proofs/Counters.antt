-- The masked text, byte by byte.
use mathlib.Core.List.{List, [], ◌∷◌, ◌++◌}
use mathlib.Core.Path.{◌≡◌, refl, sym, ap, ap₂, ◌∙◌}
use Prim.Native.Nat.{ℕ, zero, suc, ◌+◌, ◌*◌, ◌/◌, ◌%◌, ◌<◌, min}
use native.Mathlib.Nat.{not-suc-le-zero, le_of_suc-le-suc, add-zero, zero-add, add-suc, suc-add, add_assoc}
use native.Mathlib.Omega.{arith}
use lib.Bits.{bit_xor}
use lib.ListN.{length, get_or, take, drop, set, length-append, length-take, length-drop}
use lib.Seq.{drop-cons, get_or_at, length-take-le}
use Rattle.bits.proofs.Xor.{xor_twice}
use Rattle.buffer.proofs.CopyLoop.{copy_more, take_min, drop_min}
use Rattle.aes.specs.Aes.{State}
use Rattle.aes.specs.Counter.{keystream_block, byte_of, keystream_byte, gctr_from, gctr}

module _ (w : List State) (nonce : List ℕ) where
  pub gctr-length : (j : ℕ) (bs : List ℕ) → length (gctr_from w nonce j bs) ≡ length bs
  unfolding gctr_from
  gctr-length j [] = refl
  gctr-length j (b ∷ bs) = ap suc (gctr-length (suc j) bs)

  gctr-at : (j : ℕ) (bs : List ℕ) (i : ℕ) → i < length bs
      → get_or (gctr_from w nonce j bs) i 0 ≡ bit_xor (get_or bs i 0) (keystream_byte w nonce (j + i))
  unfolding gctr_from
  gctr-at j [] i h = absurd (not-suc-le-zero h)
  gctr-at j (b ∷ bs) zero h = ap (λ (k : ℕ). bit_xor b (keystream_byte w nonce k)) (sym (add-zero j))
  gctr-at j (b ∷ bs) (suc i) h =
      gctr-at (suc j) bs i (le_of_suc-le-suc h)
      ∙ ap (λ (k : ℕ). bit_xor (get_or bs i 0) (keystream_byte w nonce k)) (suc-add j i ∙ sym (add-suc j i))

  -- byte k of block i
  masked : (bs : List ℕ) (i k : ℕ) → k < 16 → 16 * i + k < length bs
      → get_or (gctr w nonce bs) (16 * i + k) 0 ≡ bit_xor (get_or bs (16 * i + k) 0) (byte_of (keystream_block w nonce (i + 2)) k)
  unfolding keystream_byte
  masked bs i k h l =
      let p : (16 * i + k) / 16 ≡ i = omega arith in
      let q : (16 * i + k) % 16 ≡ k = omega arith in
      gctr-at 0 bs (16 * i + k) l
      ∙ ap (λ (n : ℕ). bit_xor (get_or bs (16 * i + k) 0) (keystream_byte w nonce n)) (zero-add (16 * i + k))
      ∙ ap₂ (λ (m n : ℕ). bit_xor (get_or bs (16 * i + k) 0) (byte_of (keystream_block w nonce (m + 2)) n)) p q

  -- what stands behind the masked front is still the text's
  kept_at : (d dst : List ℕ) (i : ℕ) → i < length d → dst ≡ take i (gctr w nonce d) ++ drop i d → get_or dst i 0 ≡ get_or d i 0
  kept_at d dst i h e =
      let l : length (take i (gctr w nonce d)) ≡ i = length-take-le i (gctr w nonce d) (rw (gctr-length 0 d) (omega arith)) in
      ap (λ (t : List ℕ). get_or t i 0) (e ∙ ap (λ (t : List ℕ). take i (gctr w nonce d) ++ t) (drop-cons d i 0 h))
      ∙ get_or_at (take i (gctr w nonce d)) (get_or d i 0) (drop (suc i) d) 0 i l

  pub front_length : (d dst : List ℕ) (i : ℕ) → dst ≡ take i (gctr w nonce d) ++ drop i d → length dst ≡ length d
  front_length d dst i e =
      ap length e ∙ length-append (take i (gctr w nonce d)) (drop i d)
      ∙ ap₂ ◌+◌ (length-take i (gctr w nonce d) ∙ ap (min i) (gctr-length 0 d)) (length-drop i d)
      ∙ omega arith

  -- a turn of the loop over a block
  pub xor_more : (d dst : List ℕ) (s : State) (i k x : ℕ) → k < 16 → 16 * i + k < length d
      → s ≡ keystream_block w nonce (i + 2) → x ≡ byte_of s k → dst ≡ take (16 * i + k) (gctr w nonce d) ++ drop (16 * i + k) d
      → set dst (16 * i + k) (bit_xor (get_or dst (16 * i + k) 0) x) ≡ take (16 * i + (k + 1)) (gctr w nonce d) ++ drop (16 * i + (k + 1)) d
  xor_more d dst s i k x h l es ex ed =
      let hm : 16 * i + k < length (gctr w nonce d) = rw (gctr-length 0 d) l in
      ap₂ (λ (t : List ℕ) (y : ℕ). set t (16 * i + k) y) ed
      (ap₂ bit_xor (kept_at d dst (16 * i + k) l ed) (ex ∙ ap (λ (t : State). byte_of t k) es) ∙ sym (masked d i k h l))
      ∙ copy_more (gctr w nonce d) d (16 * i + k) hm l
      ∙ ap (λ (n : ℕ). take n (gctr w nonce d) ++ drop n d) (add_assoc (16 * i) k 1)

  -- the front of a masked text is the front, masked
  gctr-take : (j n : ℕ) (bs : List ℕ) → gctr_from w nonce j (take n bs) ≡ take n (gctr_from w nonce j bs)
  unfolding gctr_from
  gctr-take j zero bs = refl
  gctr-take j (suc n) [] = refl
  gctr-take j (suc n) (b ∷ bs) = ap (λ (t : List ℕ). bit_xor b (keystream_byte w nonce j) ∷ t) (gctr-take (suc j) n bs)

  -- n bytes, or as many as there are
  pub masked-front : (bs : List ℕ) (n m : ℕ) → m ≡ min n (length bs) → take m (gctr w nonce bs) ++ drop m bs ≡ gctr w nonce (take n bs) ++ drop n bs
  masked-front bs n m e =
      ap₂ (λ (a b : List ℕ). a ++ b)
      (sym (gctr-take 0 m bs) ∙ ap (gctr w nonce) (take_min bs n m e))
      (drop_min bs n m e)

  -- masking twice
  pub gctr-twice : (j : ℕ) (bs : List ℕ) → gctr_from w nonce j (gctr_from w nonce j bs) ≡ bs
  unfolding gctr_from
  gctr-twice j [] = refl
  gctr-twice j (b ∷ bs) = ap₂ ◌∷◌ (xor_twice b (keystream_byte w nonce j)) (gctr-twice (suc j) bs)
