use Rattle.std.proofs.Common.{◌≡◌, length, sym, ap, ◌∙◌, arith}
use Rattle.refusal.specs.Refusals.{fine, is_fine}
use Rattle.preamble.specs.declared.Header.{Header}
use Rattle.preamble.specs.Judge.{header_of, judge_header}
use Rattle.secure.specs.Layout.{needed}
use Rattle.secure.specs.Reading.{judge_first}
use Rattle.sealed_receiver.specs.declared.Known.{Known}
use Rattle.sealed_receiver.specs.Step as step
use Rattle.sealed_receiver.proofs.FirstPart.{first-refused, first-accepted}
use Rattle.secure.proofs.Parts.{first_fits, first-header}
use Rattle.sealed_receiver.proofs.Regions.{refused-as}
use Rattle.sealed_receiver.proofs.parts.after_first_part.Goals as goal

pub begin_second_part-requires : goal.begin_second_part-requires
begin_second_part-requires c =
    let text = c.args.text.now in
    let s = c.args.store.now in
    let j : judge_first text (length s) ≡ fine = sym c.in_ok-judge_first.ensures in
    let h : c.with_header.result.header ≡ header_of text = ap (λ (k : Known). k.header) c.with_header.ensures ∙ c.read_header-h.ensures in
    (omega (arith, ap needed h, first_fits text (length s) j, c.put.auto.out), ap (λ (x : Header). is_fine (judge_header x)) h ∙ ap is_fine (first-header text (length s) j))

pub returns : goal.returns
returns c =
    let g = c.args in
    let j : judge_first g.text.now (length g.store.now) ≡ fine = sym c.in_ok-judge_first.ensures in
    c.begin_second_part.ensures
    ∙ ap (λ (k : Known). step.begin_second_part k c.put.new.out) c.with_header.ensures
    ∙ first-accepted g.v g.text.now g.store.now c.read_header-h.result c.part.result.now c.put.new.out j c.read_header-h.ensures c.part.ensures c.put.ensures

pub returns-in_err-judge_first : goal.returns-in_err-judge_first
returns-in_err-judge_first c = refused-as c.from_residual.result _ c.args.store.now c.from_residual.ensures.1 (first-refused c.args.v c.args.text.now c.args.store.now _ (sym c.in_err-judge_first.ensures))
