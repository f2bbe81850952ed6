use Rattle.std.proofs.Common.{rules, sym, ◌∙◌, nat_eq}
use Rattle.std.specs.List.{list_any}
use Rattle.std.proofs.lemmas.Iterator.{YieldsList-from_slice}
use Rattle.std.proofs.lemmas.Iterator.Consumers.{YieldsList-from_copied}
use Rattle.std.proofs.lemmas.Iterator.Search.{find_from_yields_List}
use Rattle.std.proofs.lemmas.Iterator.Adapters.{option_map_id}
use borrow.Author.Tests.{tests}
use Rattle.handshake.proofs.Choice.{find-pick}
use Rattle.handshake.proofs.pick_mode.Goals as goal

pub returns : goal.returns
returns c =
    sym (option_map_id _)
    ∙ find_from_yields_List (λ m. list_any (λ y. nat_eq y m) c.args.allowed.now) _ _ c.find.result c.find.ensures.ran (YieldsList-from_copied (YieldsList-from_slice c.args.preferred.now cc)) (λ x b q k. search (rules, tests))
    ∙ find-pick c.args.preferred.now c.args.allowed.now
