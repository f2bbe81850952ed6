use Rattle.std.proofs.Common.{◌≡◌, ◌∙◌, ℕ, List, length, sym, ap₂, arith, rules}
use Rattle.refusal.specs.Writes.{wrote, done}
use Rattle.gcm.proofs.Answers.{in-place-short, in-place-long, in-place-fits}
use Rattle.gcm.proofs.seal_in_place.Goals as goal

pub returns-then-buf-lt16 : goal.returns-then-buf-lt16
returns-then-buf-lt16 c = record { is = sym (in-place-short _ _ _ c.if-buf-lt16.true) }

pub returns-then-n-gt-LONGEST : goal.returns-then-n-gt-LONGEST
returns-then-n-gt-LONGEST c = record { is = sym (in-place-long _ _ _ (omega arith)) }

pub returns : goal.returns
returns c =
    let s = c.args.buf.now in
    let e : length c.seal_front.new.buf ≡ length s = search rules in
    record { is = ap₂ (λ (n : ℕ) (x : List ℕ). done (wrote n) x) e c.seal_front.ensures ∙ sym (in-place-fits _ _ s (omega arith) (omega arith)) }
