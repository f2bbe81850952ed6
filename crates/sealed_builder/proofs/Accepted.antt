-- What is known of a request that nothing is wrong with.
use Rattle.std.proofs.Common.{◌≡◌, ℕ, ◌+◌, ◌≤◌, Bool, eqb, leb, arith, eqb-true, leb-true}
use Rattle.refusal.specs.declared.Refusal.TheVariants.{SourceLength, NoRoom, NoncesSpent}
use Rattle.refusal.specs.Refusals.{fine}
use Rattle.refusal.proofs.Booleans.{by_test}
use Rattle.refusal.proofs.Judgements.{all-fine, passed, both-fine}
use Rattle.preamble.specs.declared.Header.{Header}
use Rattle.preamble.specs.Layout.{total}
use Rattle.preamble.specs.Judge.{judge_header}
use Rattle.banner.specs.declared.Revision.TheVariants.{Msgr21}
use Rattle.builder.specs.Build.{judge_abort}
use Rattle.secure.specs.Layout.{all_nonces, sealed_length, part_count}
use Rattle.sealed_builder.specs.declared.Sending.{Sending}
use Rattle.sealed_builder.specs.Build.{spent_of, judgements, judge_earlier, judge_nonces, judge_sealed}

pub record Accepted (s : Sending) (h : Header) (abort : Bool) (source space queued : ℕ) : Type 0 where
  pub header : judge_header h ≡ fine
  pub late : judge_abort Msgr21 h.count abort ≡ fine
  pub whole : source ≡ total h
  pub fits : queued + sealed_length h ≤ space
  pub left : spent_of s + part_count h ≤ all_nonces

pub accepted : (s : Sending) (h : Header) (abort : Bool) (source space queued : ℕ) → judge_sealed s h abort source space queued ≡ fine → Accepted s h abort source space queued
unfolding judge_sealed judge_earlier
accepted s h abort source space queued e =
    let b = both-fine (judge_earlier s h abort source space queued) (judge_nonces s (part_count h)) e in
    let f = all-fine (judgements s h abort source space queued) b.0 in
    record {
      header = f.1.1.0;
      late = f.1.1.1.1.0;
      whole = eqb-true source (total h) (passed (eqb source (total h)) SourceLength f.1.1.1.0);
      fits = leb-true (queued + sealed_length h) space (passed (leb (queued + sealed_length h) space) (NoRoom (sealed_length h)) f.1.1.1.1.1.0);
      left = leb-true (spent_of s + part_count h) all_nonces (passed (leb (spent_of s + part_count h) all_nonces) NoncesSpent b.1);
    }

-- where nonces are left, the count is that of the spent ones
pub counted : (s : Sending) (k : ℕ) → 1 ≤ k → spent_of s + k ≤ all_nonces → s.spent + k ≤ all_nonces
counted s k h l =
    by_test s.exhausted (λ e. let z : spent_of s ≡ all_nonces = rw e in omega arith) (λ e. let z : spent_of s ≡ s.spent = rw e in omega arith)
