-- 18 is given exactly when nothing earlier applies and too few nonces are left, and 26 exactly for a state that contradicts itself.
use Rattle.std.proofs.Common.{◌≡◌, ℕ, ◌+◌, ◌<◌, ◌≤◌, Bool, true, false, not, ◌&&◌, ◌||◌, eqb, leb, List, [], ◌∷◌, length, sym, refl, ap, ◌∙◌, ap₂, arith, le-leb}
use mathlib.Core.Bool.{not-or_self}
use borrow.Author.Tests.{lt-leb, not-true}
use Rattle.refusal.specs.declared.Numbers.{Numbers}
use Rattle.refusal.specs.declared.Refusal.{Refusal}
use Rattle.refusal.specs.declared.Refusal.TheVariants as refusal
use Rattle.refusal.specs.Refusals.{Judged, fine, refused, numbers_of, row, or_else, first_of, unless}
use Rattle.refusal.proofs.Booleans.{by_less}
use Rattle.refusal.proofs.Judgements.{by_judgement_lem, all-fine, passed, both-fine}
use Rattle.refusal.specs.Writes.{refused_for, outcome_of}
use Rattle.banner.specs.declared.Revision.TheVariants.{Msgr21}
use Rattle.preamble.specs.declared.Header.{Header}
use Rattle.preamble.specs.Layout.{total}
use Rattle.preamble.specs.Judge.{shape_fault, limit_fault, judge_header, judge_shape, judge_tag, judge_limits}
use Rattle.builder.specs.Build.{judge_source, judge_abort, judge_room}
use Rattle.secure.specs.Layout.{all_nonces, sealed_length, part_count}
use Rattle.sealed_builder.specs.declared.Sending.{Sending}
use Rattle.sealed_builder.specs.Build.{Done, spent_of, agrees, sent_more, judge_sending, judge_switched, judge_nonces, judge_earlier, judgements, judge_sealed}
use Rattle.buffer.specs.Zeros.{all_zero}
use Rattle.sealed_builder.specs.States.{Sound}
use Rattle.sealed_builder.specs.Nonces.{Build, Meets, left, Exactly}
use Rattle.sealed_builder.proofs.Accepted.{accepted, counted}
use Rattle.secure.proofs.Counts.{came_round}
use Rattle.secure.proofs.Lengths.{some}
use Rattle.sealed_builder.proofs.NoNonceTwice.{judged, came, when_fine, when_refused}

-- ---- which judgement gives a number

-- those behind 26 and before 18
abbrev behind26 : Sending → Header → Bool → ℕ → ℕ → ℕ → List Judged
behind26 s h abort source space queued =
    judge_switched s ∷ judge_header h ∷ judge_source source (total h) ∷ judge_abort Msgr21 h.count abort ∷ judge_room (sealed_length h) space queued ∷ []

abbrev IsNot : ℕ → Judged → Type 0
IsNot k j = j ≡ refused (row k 0 0 0) → ⊥

module _ (k : ℕ) where
  not_unless : (b : Bool) (r : Refusal) → ((numbers_of r).number ≡ k → ⊥) → IsNot k (unless b r)
  not_unless true r n e = let z : ◌≡◌ {A = ℕ} 0 1 = cc in omega arith
  not_unless false r n e = n (ap (λ (m : Numbers). m.number) (row_of e))
    where
      row_of : refused (numbers_of r) ≡ refused (row k 0 0 0) → numbers_of r ≡ row k 0 0 0
      row_of e = cc

  not_or : (a b : Judged) → IsNot k a → IsNot k b → IsNot k (or_else a b)
  not_or fine b na nb = nb
  not_or (refused n) b na nb = na

  not_fine : IsNot k fine
  not_fine e = let z : ◌≡◌ {A = ℕ} 0 1 = cc in omega arith

  -- those of a header are below 16, and so are the others between 27 and 18
  module _ (l : 15 < k) (n : k ≡ 27 → ⊥) where
    not_header : (h : Header) → IsNot k (judge_header h)
    unfolding judge_header
    not_header h =
        not_or (judge_shape h) _ (not_unless (eqb (shape_fault h) 0) (refusal.Shape (shape_fault h)) (λ e. omega arith))
        (not_or (judge_tag h.tag) _ (not_unless (leb 1 h.tag && leb h.tag 20) (refusal.Tag h.tag) (λ e. omega arith))
        (not_or (judge_limits h) fine (not_unless (eqb (limit_fault h) 0) (refusal.Limit (limit_fault h)) (λ e. omega arith)) not_fine))

    not_behind : (s : Sending) (h : Header) (abort : Bool) (source space queued : ℕ) → IsNot k (first_of (behind26 s h abort source space queued))
    not_behind s h abort source space queued =
        not_or (judge_switched s) _ (not_unless (not s.refused) refusal.SwitchRefused (λ e. n (sym e)))
        (not_or (judge_header h) _ (not_header h)
        (not_or (judge_source source (total h)) _ (not_unless (eqb source (total h)) refusal.SourceLength (λ e. omega arith))
        (not_or (judge_abort Msgr21 h.count abort) _ (not_unless (not (abort && eqb h.count 1)) refusal.AbortOneSegment (λ e. omega arith))
        (not_or (judge_room (sealed_length h) space queued) fine (not_unless (leb (queued + sealed_length h) space) (refusal.NoRoom (sealed_length h)) (λ e. omega arith)) not_fine))))

not_earlier : (s : Sending) (h : Header) (abort : Bool) (source space queued : ℕ) → IsNot 18 (judge_earlier s h abort source space queued)
unfolding judge_earlier
not_earlier s h abort source space queued =
    not_or 18 (judge_sending s) _ (not_unless 18 (agrees s) refusal.StateContradicts (λ e. omega arith))
    (not_behind 18 (omega arith) (λ e. omega arith) s h abort source space queued)

-- ---- and the last one does where nonces are missing

short : (s : Sending) (k : ℕ) → 1 ≤ k → judge_nonces s k ≡ refused (row 18 0 0 0) → left s < k
short s k h e =
    by_less all_nonces (spent_of s + k) (λ l. omega arith)
    (λ l. let j : judge_nonces s k ≡ fine = rw (le-leb (spent_of s + k) all_nonces l) in let z : ◌≡◌ {A = ℕ} 0 1 = cc in absurd (omega arith))

missing : (s : Sending) (k : ℕ) → left s < k → judge_nonces s k ≡ refused (row 18 0 0 0)
missing s k h = ap (λ (b : Bool). unless b refusal.NoncesSpent) (lt-leb (spent_of s + k) all_nonces (omega arith))

module _ (s : Sending) (b : Build) (m : Meets s b) where
  abbrev earlier : Judged
  earlier = judge_earlier s b.header b.abort (length b.source) (length b.buffer) b.queued

  said : (k : ℕ) → outcome_of b.answer.built ≡ refused_for (row k 0 0 0) → judged s b ≡ refused (row k 0 0 0)
  said k a =
      by_judgement_lem (judged s b)
      (λ e. let w = (when_fine s b m e).0 in let z : ◌≡◌ {A = ℕ} 0 1 = cc in absurd (omega arith))
      (λ r e. let w = (when_refused s b m r e).0 in cc)

  last_one : (j : Judged) → earlier ≡ j → or_else j (judge_nonces s (part_count b.header)) ≡ refused (row 18 0 0 0) → (earlier ≡ fine) × (left s < part_count b.header)
  last_one fine e a = (e, short s (part_count b.header) (some b.header) a)
  last_one (refused r) e a = absurd (not_earlier s b.header b.abort (length b.source) (length b.buffer) b.queued (e ∙ a))

  pub exactly : Exactly s b
  unfolding judge_sealed
  exactly =
      record {
        given = λ a. last_one earlier refl (said 18 a);
        due = λ e l. (when_refused s b m (row 18 0 0 0) (ap (λ (j : Judged). or_else j (judge_nonces s (part_count b.header))) e ∙ missing s (part_count b.header) l)).0;
      }

  -- ---- 26

  abbrev rest : List Judged
  rest = behind26 s b.header b.abort (length b.source) (length b.buffer) b.queued

  by_state : (j : Judged) → judge_sending s ≡ j → judged s b ≡ or_else (or_else j (first_of rest)) (judge_nonces s (part_count b.header))
  unfolding judge_sealed judge_earlier
  by_state j e = ap (λ (x : Judged). or_else (or_else x (first_of rest)) (judge_nonces s (part_count b.header))) e

  contradicts : agrees s ≡ false → (outcome_of b.answer.built ≡ refused_for (row 26 0 0 0)) × (b.answer.sending ≡ s) × (b.after ≡ b.buffer)
  contradicts e =
      let j : judged s b ≡ refused (row 26 0 0 0) = by_state (refused (row 26 0 0 0)) (ap (λ (x : Bool). unless x refusal.StateContradicts) e) in
      let w = when_refused s b m (row 26 0 0 0) j in
      (w.0, w.1, ap (λ (d : Done). d.buffer) (came s b m (refused (row 26 0 0 0)) j))

  never26 : agrees s ≡ true → outcome_of b.answer.built ≡ refused_for (row 26 0 0 0) → ⊥
  never26 e a =
      not_or 26 (first_of rest) (judge_nonces s (part_count b.header))
      (not_behind 26 (omega arith) (λ x. omega arith) s b.header b.abort (length b.source) (length b.buffer) b.queued)
      (not_unless 26 (leb (spent_of s + part_count b.header) all_nonces) refusal.NoncesSpent (λ x. omega arith))
      (sym (by_state fine (ap (λ (x : Bool). unless x refusal.StateContradicts) e)) ∙ said 26 a)

  -- a build that writes has a state that no refused switch handed back
  not_marked : judged s b ≡ fine → s.refused ≡ false
  unfolding judge_sealed judge_earlier
  not_marked e =
      let f = all-fine (judgements s b.header b.abort (length b.source) (length b.buffer) b.queued) (both-fine earlier (judge_nonces s (part_count b.header)) e).0 in
      not-true s.refused (passed (not s.refused) refusal.SwitchRefused f.1.0)

  still-agrees : judged s b ≡ fine → agrees (sent_more s (part_count b.header)) ≡ true
  unfolding agrees sent_more
  still-agrees e =
      let c = accepted s b.header b.abort (length b.source) (length b.buffer) b.queued e in
      let k : ℕ = part_count b.header in
      let n : s.spent + k ≤ all_nonces = counted s k (some b.header) c.left in
      let t : Sending = sent_more s k in
      let r = leb all_nonces (s.spent + k) in
      ap₂ ◌&&◌ (ap (λ (x : Bool). not r || x) (came_round s.spent k (some b.header) n) ∙ not-or_self r)
      (ap (λ (x : Bool). not x || (all_zero t.key && (all_zero t.nonce && (eqb t.spent 0 && not t.exhausted)))) (not_marked e))

  pub sound : Sound s b
  sound =
      record {
        contradicts = contradicts;
        never26 = never26;
        agreeing = λ e. by_judgement_lem (judged s b) (λ j. ap agrees (when_fine s b m j).1 ∙ still-agrees j) (λ r j. ap agrees (when_refused s b m r j).1 ∙ e);
      }
