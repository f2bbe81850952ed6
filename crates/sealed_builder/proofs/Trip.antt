-- What is built comes back.
use Rattle.std.proofs.Common.{◌≡◌, ℕ, suc, ◌+◌, ◌<◌, ◌≤◌, Bool, true, false, not, eqb, List, ◌++◌, length, take, drop, sym, ap, ◌∙◌, ap₂, arith}
use borrow.Author.Tests.{eqb-false, not-true}
use Rattle.buffer.proofs.Splices.{splice_at}
use Rattle.buffer.specs.Splice.{splice}
use Rattle.refusal.specs.declared.Refusal.TheVariants as refusal
use Rattle.refusal.specs.Refusals.{fine}
use Rattle.refusal.proofs.Judgements.{by_judgement_lem, passed}
use Rattle.refusal.specs.Writes.{wrote, outcome_of}
use Rattle.preamble.specs.declared.Header.{Header}
use Rattle.preamble.specs.Judge.{judge_header}
use Rattle.preamble.specs.Reading.{HeaderFits}
use Rattle.preamble.proofs.Headers.{some-segment}
use Rattle.banner.specs.declared.Revision.TheVariants.{Msgr21}
use Rattle.aes.specs.Aes.{State, key_expansion}
use Rattle.builder.specs.Build.{judge_abort}
use Rattle.secure.specs.Layout.{all_nonces, nonce_after, sealed_frame, sealed_length, part_count, needed}
use Rattle.secure.specs.Reading.{frames}
use Rattle.secure.specs.Trip.{Sent, SealedTrip}
use Rattle.secure.proofs.Lengths.{length-frame}
use Rattle.secure.proofs.Trip.{trip}
use Rattle.sealed_builder.specs.declared.Sending.{Sending}
use Rattle.sealed_builder.specs.Build.{Done, sent_more}
use Rattle.sealed_builder.specs.Nonces.{Build, Meets}
use Rattle.sealed_builder.specs.Trip.{reported, SentBack}
use Rattle.sealed_builder.proofs.Accepted.{accepted}
use Rattle.sealed_builder.proofs.NoNonceTwice.{judged, came, when_fine, when_refused}

-- an aborted frame that a builder accepts has more than one segment
several : (h : Header) → judge_header h ≡ fine → judge_abort Msgr21 h.count true ≡ fine → 1 < h.count
several h j e = omega (arith, some-segment h j, eqb-false h.count 1 (not-true (eqb h.count 1) (passed (not (eqb h.count 1)) refusal.AbortOneSegment e)))

module _ (s : Sending) (b : Build) (n f P : ℕ) (tail store : List ℕ) (m : Meets s b) (fits : HeaderFits b.header)
    (l : n + part_count b.header ≤ all_nonces) (r : needed b.header ≤ length store) where
  abbrev h : Header
  h = b.header

  abbrev w : List State
  w = key_expansion s.key

  read_as : (abort : Bool) → Sent n h b.source store → judge_header h ≡ fine → judge_abort Msgr21 h.count abort ≡ fine
      → frames (suc f) w s.nonce n P (sealed_frame w s.nonce h abort b.source ++ tail) store
      ≡ reported abort h (P + sealed_length h) b.source store (frames f w (nonce_after (part_count h) s.nonce) (n + part_count h) (P + sealed_length h) tail)
  unfolding SealedTrip
  read_as false t j a = (trip w s.nonce n h b.source store t).whole f P tail
  read_as true t j a = (trip w s.nonce n h b.source store t).aborted (several h j a) f P tail

  built-back : (k : ℕ) → judged s b ≡ fine → outcome_of b.answer.built ≡ wrote k
      → frames (suc f) w s.nonce n P (take k (drop b.queued b.after) ++ tail) store
      ≡ reported b.abort h (P + k) b.source store (frames f w b.answer.sending.nonce (n + part_count h) (P + k) tail)
  unfolding sent_more sealed_frame
  built-back k e a =
      let c = accepted s h b.abort (length b.source) (length b.buffer) b.queued e in
      let v = when_fine s b m e in
      let bytes : List ℕ = sealed_frame w s.nonce h b.abort b.source in
      let size : length bytes ≡ sealed_length h = length-frame w s.nonce h b.abort b.source c.whole in
      let count : k ≡ sealed_length h = cc in
      let after : b.after ≡ splice b.buffer b.queued bytes = ap (λ (d : Done). d.buffer) (came s b m fine e) in
      let there : take k (drop b.queued b.after) ≡ bytes = ap (λ (x : List ℕ). take k (drop b.queued x)) after ∙ splice_at b.buffer b.queued bytes (omega (arith, c.fits)) k (size ∙ sym count) in
      let t : Sent n h b.source store = record { fits = fits; header = c.header; whole = c.whole; nonces = l; room = r } in
      ap (λ (x : List ℕ). frames (suc f) w s.nonce n P (x ++ tail) store) there
      ∙ read_as b.abort t c.header c.late
      ∙ ap₂ (λ (i : ℕ) (x : List ℕ). reported b.abort h (P + i) b.source store (frames f w x (n + part_count h) (P + i) tail)) (sym count) (sym (ap (λ (x : Sending). x.nonce) v.1))

pub sent_back : SentBack
unfolding SentBack
sent_back s b k n f P tail store m a fits l r =
    by_judgement_lem (judged s b)
    (λ e. built-back s b n f P tail store m fits l r k e a)
    (λ q e. let v = (when_refused s b m q e).0 in let z : ◌≡◌ {A = ℕ} 0 1 = cc in absurd (omega arith))
