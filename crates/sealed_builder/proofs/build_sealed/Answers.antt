use Rattle.std.proofs.Common.{◌≡◌, ℕ, List, length, sym, ap, ◌∙◌, ap₂, arith}
use Rattle.buffer.specs.Splice.{replace_front}
use Rattle.buffer.proofs.Parts.{rest, back, length_rest, placed}
use Rattle.refusal.specs.Writes.{wrote}
use Rattle.aes.specs.Aes.{State, key_expansion}
use Rattle.secure.specs.Layout.{frame_parts, sealed_parts, sealed_length, part_count}
use Rattle.sealed_builder.specs.declared.Sending.{Sending}
use Rattle.sealed_builder.specs.Build.{sent_more, done, sealed_done}
use Rattle.sealed_builder.proofs.Accepted.{accepted, counted}
use Rattle.sealed_builder.proofs.build_sealed.Goals as goal

pub slice_bounds-put_sealed-count : goal.slice_bounds-put_sealed-count
slice_bounds-put_sealed-count c =
    let g = c.args in
    let f = accepted g.sending g.header g.abort (length g.source.now) (length g.buf.now) g.queued (sym c.in-Ok.ensures) in
    omega arith

pub slice_bounds-put_sealed-start : goal.slice_bounds-put_sealed-start
slice_bounds-put_sealed-start c =
    let g = c.args in
    let f = accepted g.sending g.header g.abort (length g.source.now) (length g.buf.now) g.queued (sym c.in-Ok.ensures) in
    omega arith

pub put_sealed-requires : goal.put_sealed-requires
put_sealed-requires c =
    let g = c.args in
    let f = accepted g.sending g.header g.abort (length g.source.now) (length g.buf.now) g.queued (sym c.in-Ok.ensures) in
    let l = length_rest g.buf.now g.queued in
    (f.whole, omega arith)

pub sent_more-requires : goal.sent_more-requires
sent_more-requires c =
    let g = c.args in
    let f = accepted g.sending g.header g.abort (length g.source.now) (length g.buf.now) g.queued (sym c.in-Ok.ensures) in
    (c.part_count.ensures.1, c.part_count.ensures.2, counted g.sending c.part_count.result c.part_count.ensures.1 (rw c.part_count.ensures.0 f.left))

pub returns-in-Err : goal.returns-in-Err
unfolding sealed_done
returns-in-Err c = record { promise = rw (← c.in-Err.ensures) }

pub returns-in-Ok : goal.returns-in-Ok
unfolding sealed_done
returns-in-Ok c =
    let g = c.args in
    let parts : List State → List ℕ = λ w. sealed_parts w (frame_parts g.sending.nonce g.header g.abort g.source.now) in
    let bytes : c.put_sealed.new.out ≡ replace_front (parts (key_expansion g.sending.key)) (rest g.buf.now g.queued) =
    c.put_sealed.ensures ∙ ap (λ (x : List State). replace_front (parts x) (rest g.buf.now g.queued)) c.key_expansion-w.ensures in
    record {
      promise =
          rw (← c.in-Ok.ensures)
          (ap₂ (λ (n : ℕ) (s : Sending). done (wrote n) s (back g.buf.now g.queued c.put_sealed.new.out)) c.sealed_length.ensures (c.sent_more.ensures ∙ ap (sent_more g.sending) c.part_count.ensures.0)
          ∙ ap (done (wrote (sealed_length g.header)) (sent_more g.sending (part_count g.header))) (placed g.buf.now (parts (key_expansion g.sending.key)) c.put_sealed.new.out g.queued bytes));
    }
