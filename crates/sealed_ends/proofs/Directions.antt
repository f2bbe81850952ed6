-- Two directions under one key: nonces from two starting ones on that are apart.
use mathlib.Core.Path.{◌≡◌, refl, sym, ap, subst, ◌∙◌}
use mathlib.Core.List.{List}
use Prim.Native.Nat.{ℕ, zero, suc, ◌+◌, ◌%◌, ◌^◌, ◌<◌}
use native.Mathlib.Nat.{add-zero, mod-lt, mod-eq_of_lt}
use native.Mathlib.Omega.{arith}
use lib.ListN.{length}
use Rattle.secure.specs.Layout.{next_nonce, nonce_after}
use Rattle.sealed_receiver.specs.State.{fresh_receiving}
use Rattle.sealed_builder.specs.declared.Sending.{Sending}
use Rattle.sealed_builder.specs.Build.{Done, spent_of, fresh_sending, refused_sending, agrees, judge_earlier, judge_sealed}
use Rattle.sealed_builder.specs.Nonces.{Build, Meets, Chained, used, sending_after, NoneIs, AllDifferent}
use Rattle.secure.proofs.Runs.{run, length_run, after_next, counter, counter-after}
use Rattle.sealed_builder.proofs.NoNonceTwice.{judged, came, when_refused, Line, line, different, counted-all, one_key_lem}
use Rattle.connection.specs.declared.State.{State}
use Rattle.connection.specs.Step.{switched_sending}
use Rattle.connection.specs.Calls.{Try}
use Rattle.refusal.specs.declared.Refusal.TheVariants.{SwitchRefused}
use Rattle.refusal.specs.Refusals.{Judged, refused, numbers_of}
use Rattle.refusal.specs.Writes.{refused_for, outcome_of}
use Rattle.sealed_ends.specs.Openings.{openings, opening_nonces, Made}
use Rattle.sealed_ends.specs.Directions.{fixed_part, counter_at, Apart, fixed, ranges, NoneShared, TwoDirections}
use Rattle.sealed_ends.proofs.Openings.{from-switch}

-- ---- the nonces from one on

fixed-after : (j : ℕ) (nonce : List ℕ) → fixed_part (nonce_after j nonce) ≡ fixed_part nonce
unfolding nonce_after next_nonce
fixed-after zero nonce = refl
fixed-after (suc j) nonce = fixed-after j (next_nonce nonce)

counter-is : (j : ℕ) (nonce : List ℕ) → counter (nonce_after j nonce) % 2 ^ 64 ≡ counter_at nonce j
unfolding nonce_after
counter-is zero nonce = ap (λ (k : ℕ). k % 2 ^ 64) (sym (add-zero (counter nonce)))
counter-is (suc j) nonce =
    ap (λ (k : ℕ). k % 2 ^ 64) (counter-after j nonce)
    ∙ mod-eq_of_lt (mod-lt (counter nonce + suc j) {m = 2 ^ 64} (omega arith))

-- two of them that are the same
never : {a b : List ℕ} {m k : ℕ} → Apart a m b k → (i j : ℕ) → i < m → j < k → nonce_after i a ≡ nonce_after j b → ⊥
never {a} {b} (fixed d) i j l h e = d (sym (fixed-after i a) ∙ ap fixed_part e ∙ fixed-after j b)
never {a} {b} (ranges d) i j l h e = d i j l h (sym (counter-is i a) ∙ ap (λ (x : List ℕ). counter x % 2 ^ 64) e ∙ counter-is j b)

-- ---- two runs

none-run : (x b : List ℕ) (k o : ℕ) → ((j : ℕ) → j < o + k → x ≡ nonce_after j b → ⊥) → NoneIs x (run k (nonce_after o b))
none-run x b zero o d = tt
none-run x b (suc k) o d =
    (d o (omega arith), rw (sym (after_next o b)) (none-run x b k (suc o) (λ j l. d j (omega arith))))

none-shared : (a b : List ℕ) (m k o : ℕ) → ((i j : ℕ) → i < o + m → j < k → nonce_after i a ≡ nonce_after j b → ⊥) → NoneShared (run m (nonce_after o a)) (run k b)
unfolding nonce_after
none-shared a b zero k o d = tt
none-shared a b (suc m) k o d =
    (none-run (nonce_after o a) b k 0 (λ j l. d o j (omega arith) (omega arith)), rw (sym (after_next o a)) (none-shared a b m k (suc o) (λ i j l h. d i j (omega arith) h)))

-- two lists that are such runs
shared : (a b : List ℕ) (m k : ℕ) (xs ys : List (List ℕ)) → xs ≡ run m a → ys ≡ run k b → Apart a (length xs) b (length ys) → NoneShared xs ys
unfolding nonce_after
shared a b m k xs ys e f d =
    let lx : length xs ≡ m = ap length e ∙ length_run m a in
    let ly : length ys ≡ k = ap length f ∙ length_run k b in
    rw (e, f) (none-shared a b m k 0 (λ i j x y. never d i j (omega arith) (omega arith)))

-- ---- what is sealed from a switch on

sends-fresh : (st : State) (c : Try) → Made st c → c.switched.sending ≡ fresh_sending c.key c.sending
sends-fresh st c m =
    m.switched.sends ∙ ap (λ (j : Judged). switched_sending j c.key c.sending) (sym m.switched.judgement ∙ m.judgement)

-- what holds of all builds from a fresh sending state on
from-fresh : (P : Sending → Type 0) (st : State) (c : Try) → Made st c → P (fresh_sending c.key c.sending) → P c.switched.sending
from-fresh P st c m p = subst P (sym (sends-fresh st c m)) p

record Sealed (c : Try) (bs : List Build) : Type 0 where
  count : ℕ
  is : used c.switched.sending bs ≡ run count c.sending

from-sending : (st : State) (c : Try) (bs : List Build) → Made st c → Chained c.switched.sending bs → Sealed c bs
unfolding fresh_sending
from-sending st c bs m ch =
    let s : Sending = c.switched.sending in
    let q : s ≡ fresh_sending c.key c.sending = sends-fresh st c m in
    let l : Line s (used s bs) = line s bs ch (rw q (omega arith)) in
    record { count = l.count; is = l.is ∙ ap (λ (x : Sending). run l.count x.nonce) q }

-- nothing is, with what a refused try hands back
not_sealed : (b : Build) → judged refused_sending b ≡ refused (numbers_of SwitchRefused)
unfolding judge_sealed judge_earlier refused_sending agrees
not_sealed b = refl

with-refused : (s : Sending) (b : Build) → s ≡ refused_sending → Meets s b
    → (outcome_of b.answer.built ≡ refused_for (numbers_of SwitchRefused)) × (b.answer.sending ≡ s) × (b.after ≡ b.buffer)
with-refused s b q m =
    let j : judged s b ≡ refused (numbers_of SwitchRefused) = ap (λ (x : Sending). judged x b) q ∙ not_sealed b in
    let k = when_refused s b m (numbers_of SwitchRefused) j in
    (k.0, k.1, ap (λ (d : Done). d.buffer) (came s b m (refused (numbers_of SwitchRefused)) j))

pub two_directions : TwoDirections
unfolding fresh_sending fresh_receiving
two_directions =
    record {
      once = λ st c bs m ch. from-fresh (λ (s : Sending). Chained s bs → AllDifferent (used s bs)) st c m (different c.key c.sending bs) ch;
      spent = λ st c bs m ch.
          from-fresh (λ (s : Sending). Chained s bs → spent_of (sending_after s bs) ≡ length (used s bs)) st c m (counted-all c.key c.sending bs) ch;
      key = λ st c bs m ch. one_key_lem c.switched.sending bs ch ∙ ap (λ (s : Sending). s.key) (sends-fresh st c m);
      opened = λ st c bs cs m ch ch' d.
          let l = from-sending st c bs m ch in
          let r = from-switch st c cs m ch' in
          shared c.sending c.receiving l.count r.count (used c.switched.sending bs) (opening_nonces (openings c.switched.state cs)) l.is r.is d;
      sealed = λ st st' c c' bs bs' m m' ch ch' d.
          let l = from-sending st c bs m ch in
          let r = from-sending st' c' bs' m' ch' in
          shared c.sending c'.sending l.count r.count (used c.switched.sending bs) (used c'.switched.sending bs') l.is r.is d;
      none = λ st c n b w v m.
          with-refused c.switched.sending b (w.sends ∙ ap (λ (j : Judged). switched_sending j c.key c.sending) (sym w.judgement ∙ v)) m;
    }
