use Rattle.std.proofs.Common.{◌≡◌, List, [], ◌∷◌, ℕ, eqb, ◌&&◌, refl, ap, ◌∙◌, rules, tests}
use Rattle.std.specs.List.{list_all}
use Rattle.std.proofs.lemmas.Iterator.{YieldsList-from_slice}
use Rattle.std.proofs.lemmas.Iterator.Search.{all_from_yields_List}
use Rattle.buffer.specs.Zeros.{all_zero}
use Rattle.secure.proofs.all_zero.Goals as goal

each : (l : List ℕ) → list_all (λ b. eqb b 0) l ≡ all_zero l
each [] = refl
each (b ∷ l) = ap (λ t. eqb b 0 && t) (each l)

pub returns : goal.returns
returns c =
    all_from_yields_List (λ b. eqb b 0) _ _ c.all.result c.all.ensures.ran (YieldsList-from_slice c.args.bytes.now cc) (λ x b q k. search (rules, tests))
    ∙ each c.args.bytes.now
