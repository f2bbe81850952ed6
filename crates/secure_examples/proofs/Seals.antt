-- Parts sealed and opened by blocks that are looked up: what antt computes for each part.
use mathlib.Core.Bool.{cond, ◌&&◌}
use mathlib.Core.List.{List, [], ◌∷◌, ◌++◌}
use mathlib.Core.Path.{◌≡◌, refl, ap, ap₂, subst, fun_ext, ◌∙◌}
use Prim.Native.Nat.{ℕ, zero, suc, ◌+◌, ◌-◌, ◌/◌, ◌%◌}
use lib.Bits.{bit_xor}
use lib.Dec.{leb, lit<}
use lib.ListN.{length, take, drop}
use Rattle.refusal.proofs.Booleans.{at_test}
use Rattle.aes.specs.Aes.{State, key_expansion}
use Rattle.aes.specs.Counter.{keystream_block, byte_of, keystream_byte, gctr_from}
use Rattle.ghash.specs.Ghash.{ghash}
use Rattle.gcm.specs.Gcm.{Opened, plain, fail, block_number, block_bytes, tag_of, sealed_by, same_as, tag_fits, opened_by}
use Rattle.gcm.proofs.Opened.{same_bytes}
use Rattle.secure_examples.specs.Parts.{key, nonce0, nonce1, nonce2}
use Rattle.ghash.proofs.Computed.{hash, hash-is}
use Rattle.secure_examples.proofs.Blocks.{w, keys, h, hash-key, block, table0, blocks0, table1, blocks1, table2, blocks2}

-- ---- by any blocks

module _ (f : ℕ → State) where
  abbrev pub mask_by : ℕ → List ℕ → List ℕ
  mask_by j [] = []
  mask_by j (b ∷ bs) = bit_xor b (byte_of (f (j / 16 + 2)) (j % 16)) ∷ mask_by (suc j) bs

  abbrev pub tag_by : List ℕ → List ℕ
  tag_by c = block_bytes (bit_xor (hash h c) (block_number (f 1)))

  abbrev pub seal_by : List ℕ → List ℕ
  seal_by text = mask_by 0 text ++ tag_by (mask_by 0 text)

  abbrev pub open_by : List ℕ → Opened
  open_by s =
      cond (leb 16 (length s) && same_as (tag_by (take (length s - 16) s)) (drop (length s - 16) s)) (plain (mask_by 0 (take (length s - 16) s))) fail

mask_by_lem : (nonce : List ℕ) (j : ℕ) (bs : List ℕ) → gctr_from w nonce j bs ≡ mask_by (keystream_block w nonce) j bs
unfolding gctr_from keystream_byte
mask_by_lem nonce j [] = refl
mask_by_lem nonce j (b ∷ bs) = ap (λ (t : List ℕ). bit_xor b (keystream_byte w nonce j) ∷ t) (mask_by_lem nonce (suc j) bs)

tag_by_lem : (nonce c : List ℕ) → tag_of w nonce c ≡ tag_by (keystream_block w nonce) c
unfolding tag_of
tag_by_lem nonce c =
    ap (λ (y : ℕ). block_bytes (bit_xor y (block_number (keystream_block w nonce 1))))
    (ap (λ (k : ℕ). ghash k c) hash-key ∙ hash-is h c (lit< tt))

-- ---- by the blocks of a nonce

abbrev table_of : List ℕ → List State
table_of nonce = cond (same_as nonce nonce0) table0 (cond (same_as nonce nonce1) table1 (cond (same_as nonce nonce2) table2 []))

-- the table has blocks of this nonce
InTable : List ℕ → List State → Type 0
InTable nonce t = keystream_block w nonce ≡ block nonce t

none : (nonce : List ℕ) → InTable nonce []
unfolding InTable
none nonce = fun_ext go
  where
    go : (i : ℕ) → keystream_block w nonce i ≡ block nonce [] i
    go zero = refl
    go (suc i) = refl

chosen : (n nonce : List ℕ) (t ts : List State) → InTable n t → InTable nonce ts → InTable nonce (cond (same_as nonce n) t ts)
chosen n nonce t ts r rs =
    at_test (λ b. InTable nonce (cond b t ts)) (same_as nonce n) (λ e. subst (λ (m : List ℕ). InTable m t) (same_bytes nonce n e) r) (λ e. rs)

in_table : (nonce : List ℕ) → InTable nonce (table_of nonce)
unfolding InTable
in_table nonce = chosen nonce0 nonce table0 _ blocks0 (chosen nonce1 nonce table1 _ blocks1 (chosen nonce2 nonce table2 [] blocks2 (none nonce)))

abbrev pub sealing : List ℕ → List ℕ → List ℕ
sealing nonce = seal_by (block nonce (table_of nonce))

abbrev pub opening : List ℕ → List ℕ → Opened
opening nonce = open_by (block nonce (table_of nonce))

pub sealed_by_lem : (nonce text : List ℕ) → sealed_by (key_expansion key) nonce text ≡ sealing nonce text
unfolding sealed_by InTable
sealed_by_lem nonce text =
    ap (λ (k : List State). sealed_by k nonce text) keys
    ∙ ap (λ (c : List ℕ). c ++ tag_of w nonce c) (mask_by_lem nonce 0 text)
    ∙ ap (λ (t : List ℕ). mask_by (keystream_block w nonce) 0 text ++ t) (tag_by_lem nonce (mask_by (keystream_block w nonce) 0 text))
    ∙ ap (λ (f : ℕ → State). seal_by f text) (in_table nonce)

pub opened_by_lem : (nonce s : List ℕ) → opened_by (key_expansion key) nonce s ≡ opening nonce s
unfolding opened_by tag_fits InTable
opened_by_lem nonce s =
    ap (λ (k : List State). opened_by k nonce s) keys
    ∙ ap₂ (λ (t c : List ℕ). cond (leb 16 (length s) && same_as t (drop (length s - 16) s)) (plain c) fail)
    (tag_by_lem nonce (take (length s - 16) s))
    (mask_by_lem nonce 0 (take (length s - 16) s))
    ∙ ap (λ (f : ℕ → State). open_by f s) (in_table nonce)
