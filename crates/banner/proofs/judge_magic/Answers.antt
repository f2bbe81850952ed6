use Rattle.std.proofs.Common.{◌∙◌, ap}
use Rattle.refusal.specs.Refusals.{unless}
use Rattle.refusal.specs.declared.Refusal.TheVariants as refusal
use Rattle.banner.proofs.Magic.{magic-starts}
use Rattle.banner.proofs.judge_magic.Goals as goal

pub returns : goal.returns
returns c = c.unless.ensures ∙ ap (λ b. unless b refusal.Magic) (c.starts_with.ensures.value ∙ magic-starts c.args.b.now)
