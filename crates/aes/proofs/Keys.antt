-- The rounds of the cipher one by one, and the list of round keys as it is filled.
use mathlib.Core.Bool.{Bool, true, false}
use mathlib.Core.List.{List, []}
use mathlib.Core.Path.{◌≡◌, refl, sym, ap, ◌∙◌}
use Prim.Native.Nat.{ℕ, zero, suc, ◌+◌, ◌<◌}
use native.Mathlib.Nat.{add_comm, add-zero, zero-add, add-suc, suc-add, not-suc-le-zero, le_of_suc-le-suc}
use native.Mathlib.Numerals.{add-one}
use native.Mathlib.Omega.{arith}
use lib.Arith.{lt_of_le-ne}
use lib.Dec.{eqb}
use lib.ListN.{get_or, length, set, take, drop, length-drop}
use lib.Seq.{length-take-le, get_or-take, get_or-drop, ext_get_or, get_or-set_same, get_or-set_other}
use borrow.Author.Tests.{eqb-true, eqb-false}
use Rattle.sbox.specs.Sbox.{xtime}
use Rattle.aes.specs.Aes.{State, sub_bytes, shift_rows, mix_columns, add_round_key, next_key, round_key, round_keys, rcon, rounds, cipher}

pub rounds-next : (n : ℕ) (w : List State) (s : State) → rounds (n + 1) w s ≡ add_round_key (mix_columns (shift_rows (sub_bytes (rounds n w s)))) (get_or w (n + 1) [])
unfolding rounds
rounds-next n w s = rw (add-one n)

-- the nine round keys of the middle rounds
pub middle-length : (w : List State) → length w ≡ 11 → length (take 9 (drop 1 w)) ≡ 9
middle-length w h = length-take-le 9 (drop 1 w) (omega (arith, length-drop 1 w))

pub middle : (w : List State) (i : ℕ) → i < 9 → get_or (take 9 (drop 1 w)) i [] ≡ get_or w (i + 1) []
middle w i h = get_or-take 9 (drop 1 w) i [] h ∙ get_or-drop 1 w i [] ∙ ap (λ (k : ℕ). get_or w k []) (add_comm 1 i)

pub cipher-last : (w : List State) (s : State) → add_round_key (shift_rows (sub_bytes (rounds 9 w (add_round_key s (get_or w 0 []))))) (get_or w 10 []) ≡ cipher w s
unfolding cipher
cipher-last w s = refl

pub key-next : (n : ℕ) (k : State) → round_key (n + 1) k ≡ next_key (rcon n) (round_key n k)
unfolding round_key
key-next n k = rw (add-one n)

pub rcon-next : (n : ℕ) → rcon (n + 1) ≡ xtime (rcon n)
unfolding rcon
rcon-next n = rw (add-one n)

-- ---- the list being filled

put : (w : List State) (key x : State) (n j : ℕ) → n < length w → x ≡ round_key n key
    → (j < n → get_or w j [] ≡ round_key j key) → j < n + 1 → (b : Bool) → eqb j n ≡ b → get_or (set w n x) j [] ≡ round_key j key
put w key x n j h e f k true d = rw (eqb-true j n d, get_or-set_same w n x [] h) e
put w key x n j h e f k false d =
    let q = eqb-false j n d in
    get_or-set_other w n j x [] q ∙ f (lt_of_le-ne (omega arith) q)

pub keys-more : (w : List State) (key x : State) (n : ℕ) → n < length w → x ≡ round_key n key
    → ((j : ℕ) → j < n → get_or w j [] ≡ round_key j key) → (j : ℕ) → j < n + 1 → get_or (set w n x) j [] ≡ round_key j key
keys-more w key x n h e f j k = put w key x n j h e (f j) k (eqb j n) refl

length-keys : (n i : ℕ) (k : State) → length (round_keys n i k) ≡ n
unfolding round_keys
length-keys zero i k = refl
length-keys (suc n) i k = ap suc (length-keys n (suc i) k)

key-at : (n i j : ℕ) (k : State) → j < n → get_or (round_keys n i k) j [] ≡ round_key (i + j) k
unfolding round_keys
key-at zero i j k h = absurd (not-suc-le-zero h)
key-at (suc n) i zero k h = ap (λ (m : ℕ). round_key m k) (sym (add-zero i))
key-at (suc n) i (suc j) k h =
    key-at n (suc i) j k (le_of_suc-le-suc h) ∙ ap (λ (m : ℕ). round_key m k) (suc-add i j ∙ sym (add-suc i j))

-- eleven, filled
pub expanded : (w : List State) (key : State) → length w ≡ 11 → ((j : ℕ) → j < 11 → get_or w j [] ≡ round_key j key) → w ≡ round_keys 11 0 key
expanded w key l f =
    ext_get_or [] w (round_keys 11 0 key) (l ∙ sym (length-keys 11 0 key))
    (λ j h.
    let g : j < 11 = omega arith in
    f j g ∙ sym (key-at 11 0 j key g ∙ ap (λ (m : ℕ). round_key m key) (zero-add j)))
