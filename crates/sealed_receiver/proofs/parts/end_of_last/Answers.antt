use Rattle.std.proofs.Common.{ap, ◌∙◌}
use Rattle.refusal.specs.declared.Refusal.TheVariants as refusal
use Rattle.refusal.specs.Refusals.{unless}
use Rattle.body.specs.declared.Late.{Late}
use Rattle.secure.specs.Reading.{by_late_status}
use Rattle.sealed_receiver.proofs.LastPart.{last-ended}
use Rattle.sealed_receiver.proofs.parts.end_of_last.Goals as goal

pub returns : goal.returns
returns c =
    let late = c.byte_at-late.result in
    let padded = c.all_padded.result in
    c.by_late_status.ensures
    ∙ ap (λ (x : Late). by_late_status x late (unless padded refusal.Padding)) c.read_late.ensures
    ∙ last-ended c.args.h c.args.text.now c.rounded.result c.rounded-2.result c.rounded-3.result c.rounded.ensures.0 c.rounded-2.ensures.0 c.rounded-3.ensures.0 late padded c.byte_at-late.ensures c.all_padded.ensures
