-- The rules of the tables: an entry is what the bit steps give, and a word's steps are those of its bytes.
use mathlib.Core.Bool.{Bool, true}
use mathlib.Core.List.{List, [], ◌∷◌}
use mathlib.Core.Path.{◌≡◌, refl, sym, ap, ap₂, ◌∙◌}
use Prim.Native.Nat.{ℕ, zero, suc, ◌+◌, ◌-◌, ◌*◌, ◌/◌, ◌%◌, ◌^◌, ◌<◌, ◌≤◌}
use native.Mathlib.Nat.{add-zero, add-suc, zero-add, suc-add, zero-mul, one-mul}
use native.Mathlib.Omega.{arith}
use lib.Bits.{bit_xor, xor_zero_r}
use lib.Dec.{T}
use lib.ListN.{get_or, length}
use Rattle.std.specs.Int.{w32, to_le_bytes}
use Rattle.crc_steps.specs.Steps.{poly, step, steps}
use Rattle.crc_steps.proofs.Linear.{steps-add, steps-split, steps_xor}
use Rattle.bits.proofs.Xor.{digit, xor_assoc}
use Rattle.bits.proofs.Every.{both, both_left, both_right}
use Rattle.crc_steps.proofs.Tests.{alike, each}
use Rattle.crc_steps.specs.Tables.{StepsOfBytes, shifted, computed}

-- ---- what antt computes is what the bit steps give

step_is : (c : ℕ) → shifted (c % 2) (c / 2) ≡ step c
unfolding step
step_is c =
    digit (λ (d : ℕ). shifted d (c / 2) ≡ bit_xor (c / 2) (d * poly))
    (sym (ap (bit_xor (c / 2)) (zero-mul poly) ∙ xor_zero_r (c / 2)))
    (ap (bit_xor (c / 2)) (sym (one-mul poly)))
    c

pub computed-is : (n c : ℕ) → computed n c ≡ steps n c
unfolding steps
computed-is zero c = refl
computed-is (suc n) c = computed-is n (shifted (c % 2) (c / 2)) ∙ ap (steps n) (step_is c)

-- ---- the tables, by a test that antt computes at each entry

abbrev table : ℕ → ℕ → List ℕ → Bool
table n j t = alike 256 (λ k. get_or t k 0) (computed (n - 8 * j))

-- the four tables from place j on
abbrev pub right : ℕ → ℕ → List (List ℕ) → Bool
right n j [] = true
right n j (t ∷ ts) = both (table n j t) (right n (suc j) ts)

right_at : (n i : ℕ) (ts : List (List ℕ)) → T (right n i ts) → (j k : ℕ) → j < length ts → k < 256 → get_or (get_or ts j []) k 0 ≡ steps (n - 8 * (i + j)) k
right_at n i [] r j k hj hk = absurd (omega arith)
right_at n i (t ∷ ts) r zero k hj hk =
    each 256 (λ k. get_or t k 0) (computed (n - 8 * i)) (both_left (table n i t) (right n (suc i) ts) r) k hk
    ∙ computed-is (n - 8 * i) k
    ∙ ap (λ (x : ℕ). steps (n - 8 * x) k) (sym (add-zero i))
right_at n i (t ∷ ts) r (suc j) k hj hk =
    right_at n (suc i) ts (both_right (table n i t) (right n (suc i) ts) r) j k (omega arith) hk
    ∙ ap (λ (x : ℕ). steps (n - 8 * x) k) (suc-add i j ∙ sym (add-suc i j))

pub steps_of_bytes : (n : ℕ) (ts : List (List ℕ)) → length ts ≡ 4 → T (right n 0 ts) → StepsOfBytes n ts
steps_of_bytes n ts l r = record { at = λ j k hj hk. right_at n 0 ts r j k (omega arith) hk ∙ ap (λ (x : ℕ). steps (n - 8 * x) k) (zero-add j) }

-- ---- a word by its bytes

lowest : (n x : ℕ) → bit_xor (steps (8 + n) (x % 256)) (steps n (x / 256)) ≡ steps (8 + n) x
lowest n x =
    ap (λ (y : ℕ). bit_xor y (steps n (x / 256))) (steps-add 8 n (x % 256))
    ∙ sym (steps_xor n (steps 8 (x % 256)) (x / 256))
    ∙ ap (steps n) (sym (steps-split 8 x))
    ∙ sym (steps-add 8 n x)

-- the four bytes of w, the lowest first
bytewise : (m w : ℕ) → w < 2 ^ 32
    → bit_xor (steps (8 + (8 + (8 + (8 + m)))) (w % 256)) (bit_xor (steps (8 + (8 + (8 + m))) (w / 256 % 256)) (bit_xor (steps (8 + (8 + m)) (w / 65536 % 256)) (steps (8 + m) (w / 16777216 % 256))))
    ≡ steps (8 + (8 + (8 + (8 + m)))) w
bytewise m w fits =
    let a : ℕ = w / 256 in
    let b : ℕ = w / 65536 in
    let last : w / 16777216 % 256 ≡ b / 256 = omega arith in
    let next : b ≡ a / 256 = omega arith in
    ap (bit_xor (steps (8 + (8 + (8 + (8 + m)))) (w % 256)))
    (ap (bit_xor (steps (8 + (8 + (8 + m))) (a % 256)))
    (ap (bit_xor (steps (8 + (8 + m)) (b % 256))) (ap (steps (8 + m)) last)
    ∙ lowest (8 + m) b
    ∙ ap (steps (8 + (8 + m))) next)
    ∙ lowest (8 + (8 + m)) a)
    ∙ lowest (8 + (8 + (8 + m))) w

pub word_steps : (n w : ℕ) (ts : List (List ℕ)) (bs : List ℕ) → StepsOfBytes n ts → 32 ≤ n → w < 2 ^ 32 → bs ≡ to_le_bytes w32 w
    → bit_xor (bit_xor (bit_xor (get_or (get_or ts 0 []) (get_or bs 0 0) 0) (get_or (get_or ts 1 []) (get_or bs 1 0) 0)) (get_or (get_or ts 2 []) (get_or bs 2 0) 0)) (get_or (get_or ts 3 []) (get_or bs 3 0) 0)
    ≡ steps n w
word_steps n w ts bs r long fits e =
    let m : ℕ = n - 32 in
    let whole : n - 8 * 0 ≡ 8 + (8 + (8 + (8 + m))) = omega arith in
    let again : 8 + (8 + (8 + (8 + m))) ≡ n = omega arith in
    let n1 : n - 8 * 1 ≡ 8 + (8 + (8 + m)) = omega arith in
    let n2 : n - 8 * 2 ≡ 8 + (8 + m) = omega arith in
    let n3 : n - 8 * 3 ≡ 8 + m = omega arith in
    let b0 : get_or bs 0 0 ≡ w % 256 = ap (λ (l : List ℕ). get_or l 0 0) e ∙ omega arith in
    let b1 : get_or bs 1 0 ≡ w / 256 % 256 = ap (λ (l : List ℕ). get_or l 1 0) e ∙ omega arith in
    let b2 : get_or bs 2 0 ≡ w / 65536 % 256 = ap (λ (l : List ℕ). get_or l 2 0) e ∙ omega arith in
    let b3 : get_or bs 3 0 ≡ w / 16777216 % 256 = ap (λ (l : List ℕ). get_or l 3 0) e ∙ omega arith in
    let t0 = r.at 0 (get_or bs 0 0) (omega arith) (omega arith) ∙ ap₂ steps whole b0 in
    let t1 = r.at 1 (get_or bs 1 0) (omega arith) (omega arith) ∙ ap₂ steps n1 b1 in
    let t2 = r.at 2 (get_or bs 2 0) (omega arith) (omega arith) ∙ ap₂ steps n2 b2 in
    let t3 = r.at 3 (get_or bs 3 0) (omega arith) (omega arith) ∙ ap₂ steps n3 b3 in
    rw (t0, t1, t2, t3, xor_assoc, xor_assoc) (bytewise m w fits ∙ ap (λ (k : ℕ). steps k w) again)
