-- No nonce twice: the builds of a chain use nonces one behind the other.
use Rattle.std.proofs.Common.{◌≡◌, ℕ, ◌+◌, ◌%◌, ◌^◌, ◌≤◌, Bool, cond, leb, List, [], ◌∷◌, ◌++◌, length, sym, refl, ap, ◌∙◌, ap₂, mod-eq_of_lt, arith, length-append, leb-false, leb-true}
use Rattle.refusal.specs.declared.Numbers.{Numbers}
use Rattle.refusal.specs.Refusals.{Judged, fine, refused}
use Rattle.refusal.proofs.Booleans.{by_test, at_test}
use Rattle.refusal.proofs.Judgements.{by_judgement_lem}
use Rattle.refusal.specs.Writes.{WriteOutcome, wrote, refused_for, outcome_of}
use Rattle.preamble.specs.declared.Header.{Header}
use Rattle.aes.specs.Aes.{key_expansion}
use Rattle.secure.specs.Layout.{all_nonces, nonce_after, nonces_of, sealed_parts, sealed_length, part_count, texts}
use Rattle.sealed_builder.specs.declared.Sending.{Sending}
use Rattle.sealed_builder.specs.Build.{Done, done, spent_of, fresh_sending, sent_more, sent_parts, judge_sealed, outcome, sealed_done}
use Rattle.sealed_builder.specs.Nonces.{Build, Meets, Chained, used_in, used_by, used, sending_after, AllDifferent, SealedWith}
use Rattle.sealed_builder.proofs.Accepted.{accepted, counted}
use Rattle.secure.proofs.Runs.{run, length_run, run_of, run_on}
use Rattle.secure.proofs.Lengths.{texts-count, some}
use Rattle.sealed_builder.proofs.NoncesDiffer.{all-different}

-- ---- as many nonces as parts

sent-run : (s : Sending) (h : Header) (abort : Bool) (source : List ℕ) → nonces_of (sent_parts s h abort source) ≡ run (part_count h) s.nonce
sent-run s h abort source = run_of s.nonce (texts h abort source) ∙ ap (λ (k : ℕ). run k s.nonce) (texts-count h abort source)

pub needs : (s : Sending) (h : Header) (abort : Bool) (source : List ℕ) → length (nonces_of (sent_parts s h abort source)) ≡ part_count h
needs s h abort source = ap length (sent-run s h abort source) ∙ length_run (part_count h) s.nonce

-- ---- a build, by its judgement

abbrev pub judged : Sending → Build → Judged
judged s b = judge_sealed s b.header b.abort (length b.source) (length b.buffer) b.queued

module _ (s : Sending) (b : Build) (m : Meets s b) where
  pub came : (j : Judged) → judged s b ≡ j
      → done (outcome_of b.answer.built) b.answer.sending b.after
      ≡ outcome j s b.header b.buffer b.queued (sealed_parts (key_expansion s.key) (sent_parts s b.header b.abort b.source))
  unfolding sealed_done
  came j e =
      m.promise
      ∙ ap (λ (i : Judged). outcome i s b.header b.buffer b.queued (sealed_parts (key_expansion s.key) (sent_parts s b.header b.abort b.source))) e

  pub when_fine : judged s b ≡ fine → (outcome_of b.answer.built ≡ wrote (sealed_length b.header)) × (b.answer.sending ≡ sent_more s (part_count b.header))
  when_fine e = (ap (λ (d : Done). d.answer) (came fine e), ap (λ (d : Done). d.sending) (came fine e))

  pub when_refused : (r : Numbers) → judged s b ≡ refused r → (outcome_of b.answer.built ≡ refused_for r) × (b.answer.sending ≡ s)
  when_refused r e = (ap (λ (d : Done). d.answer) (came (refused r) e), ap (λ (d : Done). d.sending) (came (refused r) e))

  pub unspent : (r : Numbers) → outcome_of b.answer.built ≡ refused_for r → b.answer.sending ≡ s
  unspent r a =
      by_judgement_lem (judged s b) (λ e. let w = (when_fine e).0 in let z : ◌≡◌ {A = ℕ} 0 1 = cc in absurd (omega arith)) (λ q e. (when_refused q e).1)

  pub sealed-with : (n : ℕ) → outcome_of b.answer.built ≡ wrote n → SealedWith s b
  sealed-with n a =
      record {
        parts = sent_parts s b.header b.abort b.source;
        bytes =
            by_judgement_lem (judged s b) (λ e. ap (λ (d : Done). d.buffer) (came fine e))
            (λ q e. let w = (when_refused q e).0 in let z : ◌≡◌ {A = ℕ} 0 1 = cc in absurd (omega arith));
        nonces = ap (λ (x : WriteOutcome). used_in x (sent_parts s b.header b.abort b.source)) a;
      }

-- ---- the count

pub spent-more : (s : Sending) (k : ℕ) → 1 ≤ k → spent_of s + k ≤ all_nonces → spent_of (sent_more s k) ≡ spent_of s + k
unfolding sent_more
spent-more s k h l =
    let n : s.spent + k ≤ all_nonces = counted s k h l in
    let now : spent_of (sent_more s k) ≡ s.spent + k =
    at_test (λ b. cond b all_nonces ((s.spent + k) % 2 ^ 64) ≡ s.spent + k) (leb all_nonces (s.spent + k))
    (λ e. let g = leb-true all_nonces (s.spent + k) e in omega arith) (λ e. mod-eq_of_lt (leb-false all_nonces (s.spent + k) e))
    in
    by_test s.exhausted (λ e. let z : spent_of s ≡ all_nonces = rw e in absurd (omega arith)) (λ e. let z : spent_of s ≡ s.spent = rw e in now ∙ sym (ap (λ (i : ℕ). i + k) z))

-- ---- a chain uses nonces one behind the other

pub record Line (s : Sending) (nonces : List (List ℕ)) : Type 0 where
  pub count : ℕ
  pub is : nonces ≡ run count s.nonce
  pub fits : spent_of s + count ≤ all_nonces

-- how many one build takes, none where it is refused
record Takes (s : Sending) (b : Build) : Type 0 where
  count : ℕ
  is : used_by s b ≡ run count s.nonce
  spent : spent_of b.answer.sending ≡ spent_of s + count
  fits : spent_of s + count ≤ all_nonces
  nonce : b.answer.sending.nonce ≡ nonce_after count s.nonce

takes : (s : Sending) (b : Build) → Meets s b → spent_of s ≤ all_nonces → Takes s b
unfolding sent_more nonce_after
takes s b m h =
    by_judgement_lem (judged s b)
    (λ e.
    let f = accepted s b.header b.abort (length b.source) (length b.buffer) b.queued e in
    let w = when_fine s b m e in
    record {
      count = part_count b.header;
      is = ap (λ (a : WriteOutcome). used_in a (sent_parts s b.header b.abort b.source)) w.0 ∙ sent-run s b.header b.abort b.source;
      spent = ap spent_of w.1 ∙ spent-more s (part_count b.header) (some b.header) f.left;
      fits = f.left;
      nonce = ap (λ (t : Sending). t.nonce) w.1;
    })
    (λ r e.
    let w = when_refused s b m r e in
    record {
      count = 0;
      is = ap (λ (a : WriteOutcome). used_in a (sent_parts s b.header b.abort b.source)) w.0;
      spent = ap spent_of w.1 ∙ omega arith;
      fits = omega arith;
      nonce = ap (λ (t : Sending). t.nonce) w.1;
    })

pub line : (s : Sending) (bs : List Build) → Chained s bs → spent_of s ≤ all_nonces → Line s (used s bs)
line s [] c h = record { count = 0; is = refl; fits = omega arith }
line s (b ∷ bs) c h =
    let t = takes s b c.0 h in
    let l = line b.answer.sending bs c.1 (omega (arith, t.spent, t.fits)) in
    record {
      count = t.count + l.count;
      is = ap₂ ◌++◌ t.is (l.is ∙ ap (run l.count) t.nonce) ∙ run_on t.count l.count s.nonce;
      fits = omega (arith, t.spent, l.fits);
    }

pub different : (key nonce : List ℕ) (bs : List Build) → Chained (fresh_sending key nonce) bs → AllDifferent (used (fresh_sending key nonce) bs)
unfolding fresh_sending
different key nonce bs c =
    let s : Sending = fresh_sending key nonce in
    let l = line s bs c (omega arith) in
    rw l.is (all-different l.count nonce (omega (arith, l.fits)))

-- ---- as many are spent as were used

counts : (s : Sending) (bs : List Build) → Chained s bs → spent_of s ≤ all_nonces → spent_of (sending_after s bs) ≡ spent_of s + length (used s bs)
counts s [] c h = omega arith
counts s (b ∷ bs) c h =
    let t = takes s b c.0 h in
    let both = length-append (used_by s b) (used b.answer.sending bs) in
    let here : length (used_by s b) ≡ t.count = ap length t.is ∙ length_run t.count s.nonce in
    omega (arith, both, here, t.spent, counts b.answer.sending bs c.1 (omega (arith, t.spent, t.fits)))

pub counted-all : (key nonce : List ℕ) (bs : List Build) → Chained (fresh_sending key nonce) bs
    → spent_of (sending_after (fresh_sending key nonce) bs) ≡ length (used (fresh_sending key nonce) bs)
unfolding fresh_sending
counted-all key nonce bs c = let rest = counts (fresh_sending key nonce) bs c (omega arith) in omega (arith, rest)

-- ---- under one key

key-after : (s : Sending) (b : Build) → Meets s b → b.answer.sending.key ≡ s.key
unfolding sent_more
key-after s b m =
    by_judgement_lem (judged s b) (λ e. ap (λ (t : Sending). t.key) (when_fine s b m e).1) (λ r e. ap (λ (t : Sending). t.key) (when_refused s b m r e).1)

pub one_key_lem : (s : Sending) (bs : List Build) → Chained s bs → (sending_after s bs).key ≡ s.key
one_key_lem s [] c = refl
one_key_lem s (b ∷ bs) c = one_key_lem b.answer.sending bs c.1 ∙ key-after s b c.0
