use mathlib.Core.Path.{sym, ap₂}
use mathlib.Core.List.{List}
use Prim.Native.Nat.{ℕ}
use native.Mathlib.Omega.{arith}
use borrow.Author.Rules.{rules}
use Rattle.buffer.proofs.Parts.{length_rest, placed}
use Rattle.refusal.specs.Writes.{wrote, done}
use Rattle.body.specs.Body.{frame_bytes}
use Rattle.builder.specs.Build.{frame_done}
use Rattle.builder.proofs.Accepted.{accepted}
use Rattle.builder.proofs.build_frame.Goals as goal

pub slice_bounds-put_frame-start : goal.slice_bounds-put_frame-start
slice_bounds-put_frame-start c = omega (arith, accepted _ _ _ _ _ _ (sym c.in_ok-judge_frame.ensures))

pub slice_bounds-put_frame-count : goal.slice_bounds-put_frame-count
slice_bounds-put_frame-count c = omega (arith, accepted _ _ _ _ _ _ (sym c.in_ok-judge_frame.ensures))

pub put_frame-requires : goal.put_frame-requires
put_frame-requires c =
    let g = c.args in
    let f = accepted _ _ _ _ _ _ (sym c.in_ok-judge_frame.ensures) in
    (f.whole, omega (arith, length_rest g.buf.now g.queued))

pub returns-in_err-judge_frame : goal.returns-in_err-judge_frame
unfolding frame_done
returns-in_err-judge_frame c = record { promise = rw (sym c.in_err-judge_frame.ensures) (search rules) }

pub returns : goal.returns
unfolding frame_done
returns c =
    let g = c.args in
    let put = placed g.buf.now (frame_bytes g.revision g.header g.abort g.source.now) c.put_frame.new.out g.queued c.put_frame.ensures in
    record { promise = rw (sym c.in_ok-judge_frame.ensures) (ap₂ (λ (n : ℕ) (b : List ℕ). done (wrote n) b) c.wire_length.ensures put) }
