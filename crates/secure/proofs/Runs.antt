-- Nonces one behind the other, and their counters.
use Rattle.std.proofs.Common.{◌≡◌, ℕ, zero, suc, ◌+◌, ◌*◌, ◌/◌, ◌%◌, ◌^◌, ◌<◌, ◌≤◌, List, [], ◌∷◌, ◌++◌, length, sym, refl, ap, ◌∙◌, mod-lt, suc-add, div-add-mod', zero-add, arith}
use native.Mathlib.Nat.{mod-add-mod}
use Rattle.buffer.specs.Le.{number_at}
use Rattle.buffer.proofs.Numbers.{le_of-le}
use Rattle.secure.specs.Layout.{all_nonces, next_nonce, nonce_after, parts_from, nonces_of}

-- k nonces from one on
abbrev pub run : ℕ → List ℕ → List (List ℕ)
run zero nonce = []
run (suc k) nonce = nonce ∷ run k (next_nonce nonce)

pub length_run : (k : ℕ) (nonce : List ℕ) → length (run k nonce) ≡ k
length_run zero nonce = refl
length_run (suc k) nonce = ap suc (length_run k (next_nonce nonce))

pub run_of : (nonce : List ℕ) (ts : List (List ℕ)) → nonces_of (parts_from nonce ts) ≡ run (length ts) nonce
run_of nonce [] = refl
run_of nonce (t ∷ ts) = ap (λ (l : List (List ℕ)). nonce ∷ l) (run_of (next_nonce nonce) ts)

pub run_on : (k m : ℕ) (nonce : List ℕ) → run k nonce ++ run m (nonce_after k nonce) ≡ run (k + m) nonce
unfolding nonce_after
run_on zero m nonce = ap (λ (i : ℕ). run i nonce) (sym (zero-add m))
run_on (suc k) m nonce = ap (λ (l : List (List ℕ)). nonce ∷ l) (run_on k m (next_nonce nonce)) ∙ ap (λ (i : ℕ). run i nonce) (sym (suc-add k m))

pub after-add : (j k : ℕ) (nonce : List ℕ) → nonce_after k (nonce_after j nonce) ≡ nonce_after (j + k) nonce
unfolding nonce_after
after-add zero k nonce = ap (λ (i : ℕ). nonce_after i nonce) (sym (zero-add k))
after-add (suc j) k nonce = after-add j k (next_nonce nonce) ∙ ap (λ (i : ℕ). nonce_after i nonce) (sym (suc-add j k))

-- ---- counters

abbrev pub counter : List ℕ → ℕ
counter nonce = number_at 8 4 nonce

counter_next : (nonce : List ℕ) → counter (next_nonce nonce) ≡ (counter nonce + 1) % 2 ^ 64
unfolding next_nonce number_at
counter_next nonce = le_of-le 8 ((number_at 8 4 nonce + 1) % 2 ^ 64) (mod-lt (number_at 8 4 nonce + 1) {m = 2 ^ 64} (omega arith))

pub after_next : (j : ℕ) (nonce : List ℕ) → nonce_after (suc j) nonce ≡ next_nonce (nonce_after j nonce)
unfolding nonce_after
after_next zero nonce = refl
after_next (suc j) nonce = after_next j (next_nonce nonce)

pub counter-after : (j : ℕ) (nonce : List ℕ) → counter (nonce_after (suc j) nonce) ≡ (counter nonce + suc j) % 2 ^ 64
unfolding nonce_after
counter-after zero nonce = counter_next nonce
counter-after (suc j) nonce =
    let c : ℕ = counter nonce in
    let s : c + 1 + suc j ≡ c + suc (suc j) = omega arith in
    counter-after j (next_nonce nonce)
    ∙ ap (λ (i : ℕ). (i + suc j) % 2 ^ 64) (counter_next nonce)
    ∙ mod-add-mod (c + 1) (2 ^ 64) (suc j)
    ∙ ap (λ (i : ℕ). i % 2 ^ 64) s

-- a counter does not come back before all were there
not_back : (c i : ℕ) → 1 ≤ i → i < all_nonces → c ≡ (c + i) % 2 ^ 64 → ⊥
not_back c i h l e =
    let q : (c + i) / 2 ^ 64 * 2 ^ 64 + (c + i) % 2 ^ 64 ≡ c + i = div-add-mod' (c + i) (2 ^ 64) in
    omega arith

pub not_again : (j : ℕ) (nonce : List ℕ) → suc j < all_nonces → nonce ≡ nonce_after (suc j) nonce → ⊥
not_again j nonce h e = not_back (counter nonce) (suc j) (omega arith) h (ap counter e ∙ counter-after j nonce)
