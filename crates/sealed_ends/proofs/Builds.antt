-- What a sealed build that was not refused leaves: its bytes behind the queued ones; and builds one behind the other.
use mathlib.Core.Path.{◌≡◌, sym, ap, ap₂, ◌∙◌}
use mathlib.Core.List.{List, [], ◌∷◌, ◌++◌}
use Prim.Native.Nat.{ℕ, ◌+◌, ◌≤◌}
use native.Mathlib.Omega.{arith}
use lib.ListN.{length, take, drop}
use Rattle.buffer.specs.Splice.{splice}
use Rattle.buffer.proofs.Parts.{written}
use Rattle.refusal.specs.Refusals.{fine}
use Rattle.refusal.proofs.Judgements.{by_judgement_lem}
use Rattle.refusal.specs.Writes.{wrote}
use Rattle.aes.specs.Aes.{key_expansion}
use Rattle.secure.specs.Layout.{sealed_frame, sealed_length, part_count}
use Rattle.secure.proofs.Lengths.{length-frame}
use Rattle.sealed_builder.specs.declared.Sending.{Sending}
use Rattle.sealed_builder.specs.Build.{Done, sent_more}
use Rattle.sealed_builder.specs.Nonces.{Build}
use Rattle.sealed_builder.proofs.Accepted.{Accepted, accepted}
use Rattle.sealed_builder.proofs.NoNonceTwice.{judged, came, when_fine, when_refused}
use Rattle.buffer.proofs.Parts.{Queue, queue-none, queue-more}
use Rattle.sealed_ends.specs.Trip.{written_by, bytes_of, Accepts}
use Rattle.sealed_ends.specs.Ends.{Queued, buffer_by, queued_by}

-- one build
pub record Appended (s : Sending) (b : Build) : Type 0 where
  pub request : Accepted s b.header b.abort (length b.source) (length b.buffer) b.queued
  pub wire : written_by b ≡ sealed_length b.header
  pub length-bytes : length (bytes_of b) ≡ written_by b
  pub buffer : b.after ≡ splice b.buffer b.queued (bytes_of b)
  pub room : b.queued + written_by b ≤ length b.buffer
  pub sending : b.answer.sending ≡ sent_more s (part_count b.header)

pub appended : (s : Sending) (b : Build) → Accepts s b → Appended s b
unfolding sealed_frame
appended s b p =
    by_judgement_lem (judged s b) (λ e. when_written e)
    (λ r e. let v = (when_refused s b p.promised r e).0 in let u = p.wrote in let z : ◌≡◌ {A = ℕ} 0 1 = cc in absurd (omega arith))
  where
    same : (k j : ℕ) → wrote k ≡ wrote j → k ≡ j
    same k j e = cc

    when_written : judged s b ≡ fine → Appended s b
    when_written e =
        let h = b.header in
        let c = accepted s h b.abort (length b.source) (length b.buffer) b.queued e in
        let v = when_fine s b p.promised e in
        let xs : List ℕ = sealed_frame (key_expansion s.key) s.nonce h b.abort b.source in
        let size : length xs ≡ sealed_length h = length-frame (key_expansion s.key) s.nonce h b.abort b.source c.whole in
        let count : written_by b ≡ sealed_length h = same (written_by b) (sealed_length h) (sym p.wrote ∙ v.0) in
        let after : b.after ≡ splice b.buffer b.queued xs = ap (λ (d : Done). d.buffer) (came s b p.promised fine e) in
        let there : bytes_of b ≡ xs = ap (λ (x : List ℕ). take (written_by b) (drop b.queued x)) after ∙ written b.buffer b.queued xs (written_by b) (size ∙ sym count) (omega (arith, c.fits)) in
        record {
          request = c;
          wire = count;
          length-bytes = ap length there ∙ size ∙ sym count;
          buffer = after ∙ ap (splice b.buffer b.queued) (sym there);
          room = omega (arith, c.fits, count);
          sending = v.1;
        }

-- ---- builds one behind the other

abbrev pub all_bytes : List Build → List ℕ
all_bytes [] = []
all_bytes (b ∷ bs) = bytes_of b ++ all_bytes bs

pub queued-up : (s : Sending) (buf : List ℕ) (queued : ℕ) (bs : List Build) → queued ≤ length buf → Queued s buf queued bs → Queue buf queued (all_bytes bs) (buffer_by buf bs) (queued_by queued bs)
queued-up s buf queued [] l q = queue-none buf queued l
queued-up s buf queued (b ∷ bs) l q =
    let a = appended s b q.0 in
    queue-more (bytes_of b) (a.buffer ∙ ap₂ (λ (x : List ℕ) (k : ℕ). splice x k (bytes_of b)) q.1 q.2) a.length-bytes (rw (q.1, q.2) at a.room) (λ k. queued-up b.answer.sending b.after (queued + written_by b) bs k q.3)
