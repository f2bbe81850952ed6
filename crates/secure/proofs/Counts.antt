-- Nonces counted in 64 bits.
use Rattle.std.proofs.Common.{◌≡◌, ℕ, suc, ◌+◌, ◌-◌, ◌%◌, ◌^◌, ◌<◌, ◌≤◌, Bool, true, false, cond, eqb, ltb, leb, sym, ap, ◌∙◌, mod-eq_of_lt, arith, ltb-true, ne_eqb, le-leb, leb-false, leb-true}
use borrow.Author.Tests.{lt-leb}
use Rattle.refusal.specs.declared.Refusal.TheVariants as refusal
use Rattle.refusal.specs.Refusals.{fine}
use Rattle.refusal.proofs.Booleans.{by_test}
use Rattle.refusal.proofs.Judgements.{passed}
use Rattle.secure.specs.Layout.{all_nonces}
use Rattle.secure.specs.Reading.{judge_nonce}

-- k nonces are left, as code tests it without a sum that could wrap
pub left_is : (n k : ℕ) → 1 ≤ k → k ≤ 3 → leb n (18446744073709551615 - (k - 1)) ≡ leb (n + k) all_nonces
left_is n k h₁ h₂ =
    by_test (leb n (18446744073709551615 - (k - 1)))
    (λ e. let l = leb-true n (18446744073709551615 - (k - 1)) e in e ∙ sym (le-leb (n + k) all_nonces (omega arith)))
    (λ e. let l = leb-false n (18446744073709551615 - (k - 1)) e in e ∙ sym (lt-leb (n + k) all_nonces (omega arith)))

-- the count has come round to 0 exactly where all are spent
pub came_round : (n k : ℕ) → 1 ≤ k → n + k ≤ all_nonces → eqb ((n + k) % 2 ^ 64) 0 ≡ leb all_nonces (n + k)
came_round n k h₁ h₂ =
    by_test (leb all_nonces (n + k))
    (λ e.
    let l = leb-true all_nonces (n + k) e in
    let s : n + k ≡ 2 ^ 64 = omega arith in
    ap (λ (m : ℕ). eqb (m % 2 ^ 64) 0) s ∙ sym e)
    (λ e. let l = leb-false all_nonces (n + k) e in ap (λ (m : ℕ). eqb m 0) (mod-eq_of_lt l) ∙ ne_eqb (n + k) 0 (λ z. omega arith) ∙ sym e)

-- a nonce that is left, and the count behind it
pub not_spent : (n : ℕ) → judge_nonce n ≡ fine → n < all_nonces
not_spent n j = ltb-true n all_nonces (passed (ltb n all_nonces) refusal.NoncesSpent j)

pub one_more : (exhausted : Bool) (n : ℕ) → cond exhausted all_nonces n < all_nonces
    → cond (leb all_nonces (n + 1)) all_nonces ((n + 1) % all_nonces) ≡ suc (cond exhausted all_nonces n)
one_more true n h = absurd (omega arith)
one_more false n h =
    by_test (leb all_nonces (n + 1)) (λ e. let l = leb-true all_nonces (n + 1) e in rw e (omega arith))
    (λ e. let l = leb-false all_nonces (n + 1) e in rw e (mod-eq_of_lt (let l' : n + 1 < all_nonces = omega arith in l') ∙ omega arith))
