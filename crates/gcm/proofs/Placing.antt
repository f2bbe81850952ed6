-- Where the ciphertext and the tag come to stand.
use mathlib.Core.List.{List, ◌∷◌, ◌++◌}
use mathlib.Core.Path.{◌≡◌, refl, sym, ap, ap₂, ◌∙◌}
use Prim.Native.Nat.{ℕ, ◌+◌, ◌≤◌}
use native.Mathlib.Omega.{arith}
use lib.ListN.{length, take, drop, length-append}
use lib.Seq.{length-take-le}
use Rattle.buffer.specs.Splice.{replace_front, overwrite}
use Rattle.buffer.proofs.Parts.{replace_longer, overwrite-front}
use Rattle.aes.specs.Aes.{State}
use Rattle.aes.specs.Counter.{gctr}
use Rattle.aes.proofs.Counters.{gctr-length}
use Rattle.std.specs.Int.{w128, to_be_bytes}
use Rattle.gcm.specs.Gcm.{block_bytes, tag_of, sealed_by}

cons : {x y : ℕ} {xs ys : List ℕ} → x ≡ y → xs ≡ ys → x ∷ xs ≡ y ∷ ys
cons e f = ap₂ ◌∷◌ e f

-- a block as code writes it
pub written : (n : ℕ) → to_be_bytes w128 n ≡ block_bytes n
unfolding block_bytes
written n =
    cons (omega arith) (cons (omega arith) (cons (omega arith) (cons (omega arith) (cons (omega arith) (cons (omega arith) (cons (omega arith) (cons (omega arith) (cons (omega arith) (cons (omega arith) (cons (omega arith) (cons (omega arith) (cons (omega arith) (cons (omega arith) (cons (omega arith) (cons (omega arith) refl)))))))))))))))

module _ (w : List State) (nonce : List ℕ) where
  pub tag-length : (c : List ℕ) → length (tag_of w nonce c) ≡ 16
  unfolding tag_of block_bytes
  tag-length c = refl

  pub sealed-length : (text : List ℕ) → length (sealed_by w nonce text) ≡ length text + 16
  unfolding sealed_by
  sealed-length text =
      length-append (gctr w nonce text) (tag_of w nonce (gctr w nonce text))
      ∙ ap₂ ◌+◌ (gctr-length w nonce 0 text) (tag-length (gctr w nonce text))

  -- masked in place, as a front that is replaced
  pub masked-over : (buf : List ℕ) (n : ℕ) → n ≤ length buf
      → gctr w nonce (take n buf) ++ drop n buf ≡ replace_front (gctr w nonce (take n buf)) buf
  masked-over buf n h =
      ap (λ (m : ℕ). gctr w nonce (take n buf) ++ drop m buf) (sym (gctr-length w nonce 0 (take n buf) ∙ length-take-le n buf h))

  -- sealing what was laid
  pub sealed-over : (text buf under : List ℕ) → length text + 16 ≤ length buf → under ≡ overwrite text buf
      → replace_front (sealed_by w nonce (take (length text) under)) under ≡ replace_front (sealed_by w nonce text) buf
  sealed-over text buf under h e =
      let k : length text ≤ length buf = omega arith in
      let l : length text ≤ length (sealed_by w nonce text) = omega (arith, sealed-length text) in
      ap (λ (t : List ℕ). replace_front (sealed_by w nonce t) under) (overwrite-front text buf under k e)
      ∙ replace_longer text (sealed_by w nonce text) buf under l k e

  -- masking what was laid
  pub opened-over : (xs buf under : List ℕ) (n : ℕ) → length xs ≡ n → n ≤ length buf → under ≡ overwrite xs buf
      → gctr w nonce (take n under) ++ drop n under ≡ replace_front (gctr w nonce xs) buf
  opened-over xs buf under n en h e =
      let k : length xs ≤ length buf = omega arith in
      let g : length (gctr w nonce xs) ≡ length xs = gctr-length w nonce 0 xs in
      let l : length xs ≤ length (gctr w nonce xs) = omega arith in
      ap (λ (m : ℕ). gctr w nonce (take m under) ++ drop m under) (sym en)
      ∙ ap (λ (t : List ℕ). gctr w nonce t ++ drop (length xs) under) (overwrite-front xs buf under k e)
      ∙ ap (λ (m : ℕ). gctr w nonce xs ++ drop m under) (sym g)
      ∙ replace_longer xs (gctr w nonce xs) buf under l k e
