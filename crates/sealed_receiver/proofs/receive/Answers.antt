use Rattle.std.proofs.Common.{◌≡◌, ℕ, ◌<◌, length, sym, refl, ap, ◌∙◌}
use Rattle.refusal.specs.declared.Numbers.{Numbers}
use Rattle.refusal.specs.Refusals.{row}
use Rattle.sealed_receiver.specs.Step as step
use Rattle.sealed_receiver.proofs.Every.{contradicting, repeating, shortened, feeding, answered}
use Rattle.sealed_receiver.proofs.receive.Goals as goal

pub returns-then-not-agrees_with_itself : goal.returns-then-not-agrees_with_itself
returns-then-not-agrees_with_itself c =
    let z = c.args in
    let s = z.store.now in
    let e = contradicting z.state s z.piece.now (sym c.agrees_with_itself.ensures ∙ c.if-not-agrees_with_itself.true) in
    answered z.state s z.piece.now e (c.refuse_unchanged.ensures s ∙ ap (λ (n : Numbers). (step.refuse_unchanged z.state n s).received) c.from.ensures) refl

pub returns-then-is_refused : goal.returns-then-is_refused
returns-then-is_refused c =
    let z = c.args in
    let e = repeating z.state z.store.now z.piece.now (sym c.agrees_with_itself.ensures ∙ c.if-not-agrees_with_itself.false) (sym c.is_refused.ensures ∙ c.if-is_refused.true) in
    answered z.state z.store.now z.piece.now e (c.refuse_unchanged-then-is_refused.ensures z.store.now) refl

pub returns-then-store-need : goal.returns-then-store-need
returns-then-store-need c =
    let z = c.args in
    let s = z.store.now in
    let q = c.needed_by-need.ensures in
    let t : length s < step.needed_by z.state = rw q at c.if-store-need.true in
    let e = shortened z.state s z.piece.now (sym c.agrees_with_itself.ensures ∙ c.if-not-agrees_with_itself.false) (sym c.is_refused.ensures ∙ c.if-is_refused.false) t in
    let n : c.from-n.result ≡ step.short_store z.state = c.from-n.ensures ∙ ap (λ (k : ℕ). row 10 k 0 0) q in
    answered z.state s z.piece.now e (c.refuse_unchanged-then-store-need.ensures s ∙ rw (c.refused_state.ensures, n)) refl

pub take_piece-requires : goal.take_piece-requires
take_piece-requires c =
    record {
      agree = sym c.agrees_with_itself.ensures ∙ c.if-not-agrees_with_itself.false;
      live = sym c.is_refused.ensures ∙ c.if-is_refused.false;
      fits = rw c.needed_by-need.ensures at c.if-store-need.false;
    }

pub returns : goal.returns
returns c =
    let z = c.args in
    let f = c.take_piece.ensures in
    answered z.state z.store.now z.piece.now
    (feeding z.state z.store.now z.piece.now (record {
      agree = sym c.agrees_with_itself.ensures ∙ c.if-not-agrees_with_itself.false;
      live = sym c.is_refused.ensures ∙ c.if-is_refused.false;
      fits = rw c.needed_by-need.ensures at c.if-store-need.false;
    }))
    f.received f.store
