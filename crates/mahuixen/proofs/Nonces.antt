-- Sealed builds by C, from those of the builder.
use mathlib.Core.Path.{◌≡◌, refl, sym, ap, ap₂, subst, ◌∙◌}
use mathlib.Core.Logic.{◌↔◌}
use mathlib.Core.List.{List, [], ◌∷◌, ◌++◌}
use mathlib.Core.Bool.{Bool, true, false, cond}
use Prim.Native.Nat.{ℕ, ◌+◌, ◌<◌}
use native.Mathlib.Omega.{arith}
use lib.Dec.{eqb}
use lib.ListN.{length, get_or}
use borrow.Author.Tests.{eqb-true, eqb-false, ne_eqb, lt-leb}
use Rattle.refusal.specs.declared.Refusal.TheVariants.{StateContradicts, SwitchRefused, NoncesSpent}
use Rattle.refusal.specs.declared.Numbers.{Numbers}
use Rattle.refusal.specs.Refusals.{Judged, fine, refused, row, numbers_of, unless, first_of, contradiction}
use Rattle.refusal.proofs.Booleans.{by_test}
use Rattle.refusal.proofs.Judgements.{by_judgement_lem}
use Rattle.preamble.specs.declared.Header.{Header}
use Rattle.aes.specs.Aes.{key_expansion}
use Rattle.std.specs.Prelude.{Err}
use Rattle.refusal.specs.Writes.{wrote}
use Rattle.secure.specs.Layout.{all_nonces, nonces_of, sealed_parts, part_count, sealed_length}
use Rattle.secure.proofs.Lengths.{positive}
use Rattle.sealed_builder.specs.declared.Sending.{Sending}
use Rattle.sealed_builder.specs.Build as sealed
use Rattle.sealed_builder.specs.Build.{spent_of, fresh_sending, refused_sending, sent_more, judge_earlier, judge_sealed, Done, done, outcome, sealed_done}
use Rattle.sealed_builder.specs.Nonces as builder
use Rattle.sealed_builder.specs.Nonces.{Build, Meets, Chained, AllDifferent, NoNonceTwice}
use Rattle.connection.specs.Step.{agrees, may_be_switched, judge_switch, switched_sending}
use Rattle.abi.specs.declared.Written.{Written}
use Rattle.abi.specs.Words.{within, abi_refused, header_at, header_limits}
use Rattle.abi.proofs.Back.{mark-back}
use Rattle.abi_receiver.specs.Words.{number_of}
use Rattle.abi_connection.specs.Words.{AbiConnection, connection_of, fits, AbiSending, sending_words, AbiSwitched, judge_words, AbiSwitchedWith}
use Rattle.abi_sealed.specs.Words.{sending_of, sending_numbers, AbiSealed, sealed_with, in_abi, abi_sealed}
use Rattle.mahuixen.specs.Nonces.{AbiBuild, written_by, AbiMeets, sending_behind, AbiBuilds, sending_after, sending_in, build_of, parts_of, used_by, used, in_fields, TooFew, AbiNoNonceTwice}
use Rattle.mahuixen.proofs.Switches.{by_words}

-- ---- a build

sending-back : (s : Sending) → sending_of (sending_numbers s) s.key s.nonce ≡ s
sending-back s = ap₂ (sealed.sending_state s.key s.nonce s.spent) (mark-back s.exhausted) (mark-back s.refused)

same_numbers : {m n : Numbers} → abi_refused m ≡ abi_refused n → m ≡ n
same_numbers e = ap (λ (w : Written). row (get_or w.refusal 0 0) (get_or w.refusal 1 0) (get_or w.refusal 2 0) (get_or w.refusal 3 0)) e

module _ (x : AbiSending) (b : AbiBuild) (h : AbiMeets x b) where
  abbrev fields : Header
  fields = header_at 0 b.header

  abbrev judgement : Judged
  judgement = judge_sealed (sending_in x) fields b.abort (length b.source) (length b.buffer) b.queued

  abbrev outcome_by : Judged → Done
  outcome_by j = outcome j (sending_in x) fields b.buffer b.queued (sealed_parts (key_expansion x.key) (parts_of x b))

  answered_so : (t : Bool) (j : Judged) → in_fields x b ≡ t → judgement ≡ j
      → b.sealed ≡ cond t (in_abi (outcome_by j)) (sealed_with (abi_refused (numbers_of StateContradicts)) x.numbers x.nonce b.buffer)
  unfolding abi_sealed sealed_done
  answered_so t j e f =
      h.promise
      ∙ ap₂ (λ (u : Bool) (i : Judged). cond u (in_abi (outcome_by i)) (sealed_with (abi_refused (numbers_of StateContradicts)) x.numbers x.nonce b.buffer)) e f

  more-back : sending_of (sending_numbers (sent_more (sending_in x) (part_count fields))) x.key (sent_more (sending_in x) (part_count fields)).nonce ≡ sent_more (sending_in x) (part_count fields)
  unfolding sent_more
  more-back = sending-back (sent_more (sending_in x) (part_count fields))

  abbrev done_by : AbiSealed → Done
  done_by r = done (wrote r.answer.written) (sending_of r.numbers x.key r.nonce) r.buffer

  fine-done : judgement ≡ fine → outcome_by fine ≡ sealed_done (sending_in x) fields b.abort b.source b.buffer b.queued
  unfolding sealed_done
  fine-done f = ap outcome_by (sym f)

  -- by what it comes to: written, refused, or refused for its words
  by_answer : {A : Type 0} → (in_fields x b ≡ true → judgement ≡ fine → A) → (in_fields x b ≡ true → (n : Numbers) → judgement ≡ refused n → A) → (in_fields x b ≡ false → A) → A
  by_answer w r o = by_test (in_fields x b) (λ e. by_judgement_lem judgement (w e) (r e)) o

  pub sent : 0 < written_by b → Meets (sending_in x) (build_of x.key b)
  sent z =
      by_answer
      (λ e f. record { promise = ap done_by (answered_so true fine e f) ∙ ap (λ (s : Sending). done (wrote (sealed_length fields)) s (outcome_by fine).buffer) more-back ∙ fine-done f })
      (λ e n f. absurd (let m : written_by b ≡ 0 = ap (λ (r : AbiSealed). r.answer.written) (answered_so true (refused n) e f) in omega arith))
      (λ e. absurd (let m : written_by b ≡ 0 = ap (λ (r : AbiSealed). r.answer.written) (answered_so false judgement e refl) in omega arith))

  pub unspent : written_by b ≡ 0 → (sending_in (sending_behind x b) ≡ sending_in x) × (b.sealed.buffer ≡ b.buffer)
  unspent z =
      by_answer
      (λ e f. absurd (let m : written_by b ≡ sealed_length fields = ap (λ (r : AbiSealed). r.answer.written) (answered_so true fine e f) in let l = positive fields in omega arith))
      (λ e n f.
      let q = answered_so true (refused n) e f in
      (ap (λ (r : AbiSealed). sending_of r.numbers x.key r.nonce) q ∙ sending-back (sending_in x), ap (λ (r : AbiSealed). r.buffer) q))
      (λ e. let q = answered_so false judgement e refl in (ap (λ (r : AbiSealed). sending_of r.numbers x.key r.nonce) q, ap (λ (r : AbiSealed). r.buffer) q))

  -- 18: it is the build that was refused so
  abbrev spent_build : Build
  spent_build = record {
    header = fields;
    abort = b.abort;
    source = b.source;
    buffer = b.buffer;
    queued = b.queued;
    answer = record { built = Err NoncesSpent; sending = sending_in x };
    after = b.buffer;
  }

  spent-done : (n : Numbers) → judgement ≡ refused n → n ≡ numbers_of NoncesSpent → Meets (sending_in x) spent_build
  unfolding sealed_done
  spent-done n f e = record { promise = ap (λ (i : Numbers). outcome_by (refused i)) (sym e) ∙ ap outcome_by (sym f) }

  given_by : NoNonceTwice → b.sealed.answer ≡ abi_refused (numbers_of NoncesSpent) → TooFew x b
  given_by nonces z =
      by_answer
      (λ e f. absurd (let m : sealed_length fields ≡ 0 = sym (ap (λ (r : AbiSealed). r.answer.written) (answered_so true fine e f)) ∙ ap (λ (w : Written). w.written) z in let l = positive fields in omega arith))
      (λ e n f.
      let q : abi_refused n ≡ abi_refused (numbers_of NoncesSpent) = sym (ap (λ (r : AbiSealed). r.answer) (answered_so true (refused n) e f)) ∙ z in
      let g = (nonces.eighteen (sending_in x) spent_build (spent-done n f (same_numbers q))).given refl in
      record { words = e; earlier = g.0; few = g.1 })
      (λ e. absurd (let m : 26 ≡ 18 = sym (ap (λ (r : AbiSealed). get_or r.answer.refusal 0 0) (answered_so false judgement e refl)) ∙ ap (λ (w : Written). get_or w.refusal 0 0) z in omega arith))

  judged-spent : TooFew x b → judgement ≡ refused (numbers_of NoncesSpent)
  unfolding judge_sealed
  judged-spent k =
      let few = k.few in
      rw (k.earlier, lt-leb (spent_of (sending_in x) + part_count fields) all_nonces (omega arith))

  pub eighteen : NoNonceTwice → (b.sealed.answer ≡ abi_refused (numbers_of NoncesSpent)) ↔ TooFew x b
  eighteen nonces =
      (given_by nonces, (λ k. ap (λ (r : AbiSealed). r.answer) (answered_so true (refused (numbers_of NoncesSpent)) k.words (judged-spent k))))

-- ---- lists: the builds that wrote something are a list of builds, since the others spend nothing

record BuildsThatWrote (x : AbiSending) (bs : List AbiBuild) : Type 0 where
  builds : List Build
  chained : Chained (sending_in x) builds
  uses : builder.used (sending_in x) builds ≡ used x bs
  after : builder.sending_after (sending_in x) builds ≡ sending_in (sending_after x bs)

builds_that_wrote : (x : AbiSending) (bs : List AbiBuild) → AbiBuilds x bs → BuildsThatWrote x bs
builds_that_wrote x [] h = record { builds = []; chained = tt; uses = refl; after = refl }
builds_that_wrote x (b ∷ bs) h =
    let on = builds_that_wrote (sending_behind x b) bs h.1 in
    by_test (eqb (written_by b) 0)
    (λ e.
    let k = (unspent x b h.0 (eqb-true (written_by b) 0 e)).0 in
    record {
      builds = on.builds;
      chained = subst (λ (s : Sending). Chained s on.builds) k on.chained;
      uses = rw e (ap (λ (s : Sending). builder.used s on.builds) (sym k) ∙ on.uses);
      after = ap (λ (s : Sending). builder.sending_after s on.builds) (sym k) ∙ on.after;
    })
    (λ e. record {
      builds = build_of x.key b ∷ on.builds;
      chained = (sent x b h.0 (omega (arith, eqb-false (written_by b) 0 e)), on.chained);
      uses = rw e (ap (λ (l : List (List ℕ)). nonces_of (parts_of x b) ++ l) on.uses);
      after = on.after;
    })

-- ---- what a switch hands out

judged-zero : (f a m : Bool) (j : Judged) → j ≡ cond f (first_of (unless a StateContradicts ∷ unless m SwitchRefused ∷ [])) (refused contradiction) → number_of j ≡ 0 → j ≡ fine
judged-zero true true true j e z = e
judged-zero true true false j e z = absurd (let k : 27 ≡ 0 = ap number_of (sym e) ∙ z in omega arith)
judged-zero true false m j e z = absurd (let k : 26 ≡ 0 = ap number_of (sym e) ∙ z in omega arith)
judged-zero false a m j e z = absurd (let k : 26 ≡ 0 = ap number_of (sym e) ∙ z in omega arith)

module _ (p : AbiConnection) (key receiving sending : List ℕ) (r : AbiSwitched) (h : AbiSwitchedWith p key receiving sending r) where
  pub made-fine : r.number ≡ 0 → judge_words p ≡ fine
  unfolding judge_words judge_switch
  made-fine z = judged-zero (fits p) (agrees (connection_of p)) (may_be_switched (connection_of p)) (judge_words p) refl (sym (ap (λ (y : AbiSwitched). y.number) (by_words h)) ∙ z)

  pub made-sends : r.number ≡ 0 → r.sending ≡ sending_words (fresh_sending key sending)
  made-sends z = ap (λ (y : AbiSwitched). y.sending) (by_words h) ∙ ap (λ (j : Judged). sending_words (switched_sending j key sending)) (made-fine z)

  refused-sends : (r.number ≡ 0 → ⊥) → r.sending ≡ sending_words refused_sending
  refused-sends no_zero =
      by_judgement_lem (judge_words p) (λ e. absurd (no_zero (ap (λ (y : AbiSwitched). y.number) (by_words h) ∙ ap number_of e)))
      (λ n e. ap (λ (y : AbiSwitched). y.sending) (by_words h) ∙ ap (λ (j : Judged). sending_words (switched_sending j key sending)) e)

-- nothing is built with what a refused try hands back
refused-judged : (h : Header) (abort : Bool) (source space queued : ℕ) → judge_sealed refused_sending h abort source space queued ≡ refused (numbers_of SwitchRefused)
unfolding judge_sealed judge_earlier sealed.agrees refused_sending
refused-judged h abort source space queued = refl

none-built : (b : AbiBuild) (t : Bool) → within header_limits 0 b.header ≡ t → AbiMeets (sending_words refused_sending) b
    → b.sealed.answer ≡ abi_refused (numbers_of (cond t SwitchRefused StateContradicts))
unfolding refused_sending
none-built b true e h =
    ap (λ (r : AbiSealed). r.answer)
    (answered_so (sending_words refused_sending) b h true (refused (numbers_of SwitchRefused)) e (refused-judged (header_at 0 b.header) b.abort (length b.source) (length b.buffer) b.queued))
none-built b false e h = ap (λ (r : AbiSealed). r.answer) (answered_so (sending_words refused_sending) b h false _ e refl)

-- ---- the claim

used-one : (x : AbiSending) (b : AbiBuild) → 0 < written_by b → used_by x b ≡ builder.used_by (sending_in x) (build_of x.key b)
used-one x b z =
    let e : eqb (written_by b) 0 ≡ false = ne_eqb (written_by b) 0 (λ (q : written_by b ≡ 0). omega (arith, q, z)) in
    rw e

module _ (nonces : NoNonceTwice) (key nonce : List ℕ) (bs : List AbiBuild) (h : AbiBuilds (sending_words (fresh_sending key nonce)) bs) where
  fresh-different : AllDifferent (used (sending_words (fresh_sending key nonce)) bs)
  unfolding fresh_sending
  fresh-different = let k = builds_that_wrote (sending_words (fresh_sending key nonce)) bs h in subst AllDifferent k.uses (nonces.different key nonce k.builds k.chained)

  fresh-counted : spent_of (sending_in (sending_after (sending_words (fresh_sending key nonce)) bs)) ≡ length (used (sending_words (fresh_sending key nonce)) bs)
  unfolding fresh_sending
  fresh-counted =
      let k = builds_that_wrote (sending_words (fresh_sending key nonce)) bs h in
      ap spent_of (sym k.after) ∙ nonces.counted key nonce k.builds k.chained ∙ ap length k.uses

pub nonces_in_c : NoNonceTwice → AbiNoNonceTwice
nonces_in_c nonces = record {
  different = λ key nonce r m bs h.
      (subst (λ (y : AbiSending). AbiBuilds y bs → AllDifferent (used y bs)) (sym (made-sends m.state key m.receiving nonce r m.promised m.number))
      (fresh-different nonces key nonce bs) h);
  counted = λ key nonce r m bs h.
      (subst (λ (y : AbiSending). AbiBuilds y bs → spent_of (sending_in (sending_after y bs)) ≡ length (used y bs))
      (sym (made-sends m.state key m.receiving nonce r m.promised m.number)) (fresh-counted nonces key nonce bs) h);
  wrote = λ x b h z.
      (let w = nonces.wrote (sending_in x) (build_of x.key b) (written_by b) (sent x b h z) refl in
      record { parts = w.parts; bytes = w.bytes; nonces = used-one x b z ∙ w.nonces });
  eighteen = λ x b h. eighteen x b h nonces;
  unspent = λ x b h z. unspent x b h z;
  none = λ p key receiving sending r h no_zero b.
      (subst (λ (y : AbiSending). AbiMeets y b → b.sealed.answer ≡ abi_refused (numbers_of (cond (within header_limits 0 b.header) SwitchRefused StateContradicts)))
      (sym (refused-sends p key receiving sending r h no_zero)) (none-built b (within header_limits 0 b.header) refl));
}
