-- Stages and their ranks: what holds of a stage is read off its rank.
use mathlib.Core.Path.{◌≡◌, refl, sym, ap, ◌∙◌}
use mathlib.Core.Bool.{true, false}
use Prim.Native.Nat.{ℕ, zero, suc, ◌<◌, ◌≤◌, min}
use native.Mathlib.Omega.{arith}
use lib.Dec.{lit<, eqb, leb}
use borrow.Author.Tests.{ne_eqb, leb-true, le-leb}
use Rattle.refusal.proofs.Booleans.{by_less}
use Rattle.receiver.specs.declared.Stage.{Stage}
use Rattle.receiver.specs.declared.Stage.TheVariants as stage
use Rattle.receiver.specs.State.{rank, stage_of}

pub stage-back : (k : Stage) → stage_of (rank k) ≡ k
unfolding stage_of
stage-back stage.Magic = refl
stage-back stage.Length = refl
stage-back stage.Payload = refl
stage-back stage.Skip = refl
stage-back stage.Preamble = refl
stage-back stage.First = refl
stage-back stage.FirstSum = refl
stage-back stage.Rest = refl
stage-back stage.Epilogue = refl
stage-back stage.Refused = refl

-- the stage of a known rank
pub stage_at : (k : Stage) (n : ℕ) → rank k ≡ n → k ≡ stage_of n
stage_at k n e = sym (stage-back k) ∙ ap stage_of e

-- a number past every rank below 9 is none of them
other : (n k : ℕ) → leb k 8 ≡ true → 8 < n → eqb n k ≡ false
other n k h l = ne_eqb n k (λ e. absurd (omega (arith, leb-true k 8 h)))

beyond : (n : ℕ) → 8 < n → rank (stage_of n) ≡ 9
unfolding stage_of
beyond n h = simp (other n)

-- a rank read back
pub rank-back : (n : ℕ) → rank (stage_of n) ≡ min n 9
unfolding stage_of
rank-back zero = refl
rank-back (suc zero) = refl
rank-back (suc (suc zero)) = refl
rank-back (suc (suc (suc zero))) = refl
rank-back (suc (suc (suc (suc zero)))) = refl
rank-back (suc (suc (suc (suc (suc zero))))) = refl
rank-back (suc (suc (suc (suc (suc (suc zero)))))) = refl
rank-back (suc (suc (suc (suc (suc (suc (suc zero))))))) = refl
rank-back (suc (suc (suc (suc (suc (suc (suc (suc zero)))))))) = refl
rank-back (suc (suc (suc (suc (suc (suc (suc (suc (suc n))))))))) =
    let k : ℕ = suc (suc (suc (suc (suc (suc (suc (suc (suc n)))))))) in
    let m : min k 9 ≡ 9 = omega arith in
    beyond k (omega arith) ∙ sym m

pub rank_known : (k : Stage) → rank k ≤ 9
rank_known k = omega (arith, rank-back (rank k), ap rank (stage-back k))

-- a test of a rank below 9 is a test of the number that it was read from
pub rank_is : (n k : ℕ) → k < 9 → eqb (rank (stage_of n)) k ≡ eqb n k
rank_is n k h =
    let l = le-leb k 8 (omega arith) in
    rw (rank-back n)
    (by_less 9 n (λ m. let e : min n 9 ≡ 9 = omega arith in rw e (other 9 k l (lit< tt) ∙ sym (other n k l (omega arith)))) (λ m. let e : min n 9 ≡ n = omega arith in rw e))
