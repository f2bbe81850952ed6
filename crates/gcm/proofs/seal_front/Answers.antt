use Rattle.std.proofs.Common.{◌≡◌, ◌∙◌, List, ℕ, length, take, drop, arith}
use lib.Seq.{length-take-le, take_at}
use Rattle.buffer.specs.Splice.{replace_front}
use Rattle.buffer.proofs.Parts.{next-overwrite}
use Rattle.aes.specs.Counter.{gctr}
use Rattle.aes.proofs.Counters.{gctr-length}
use Rattle.gcm.specs.Gcm.{tag_of, sealed_by}
use Rattle.gcm.proofs.Placing.{masked-over, tag-length}
use Rattle.gcm.proofs.seal_front.Goals as goal

pub returns : goal.returns
unfolding sealed_by
returns c =
    let a = c.args in
    let w = a.w.now in
    let l₀ : List ℕ = a.buf.now in
    let m : List ℕ = gctr w a.nonce (take a.n l₀) in
    let en : length m ≡ a.n = gctr-length w a.nonce 0 (take a.n l₀) ∙ length-take-le a.n l₀ (omega arith) in
    let e₁ : c.xor_keystream.new.buf ≡ replace_front m l₀ = c.xor_keystream.ensures ∙ masked-over w a.nonce l₀ a.n (omega arith) in
    let et : take a.n c.xor_keystream.new.buf ≡ m = rw e₁ (take_at m (drop (length m) l₀) a.n en) in
    next-overwrite l₀ _ m (tag_of w a.nonce m) _ a.n en (omega (arith, tag-length w a.nonce m)) e₁ (rw (c.tag-t.ensures, et) at c.put.ensures)
