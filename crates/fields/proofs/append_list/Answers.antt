use Rattle.std.proofs.Common.{refl, rules}
use Rattle.fields.specs.Field.{numbers, Fits}
use Rattle.fields.proofs.Drafts.{appended-counted}
use Rattle.fields.proofs.append_list.Goals as goal

pub returns : goal.returns
unfolding Fits
returns c = appended-counted (numbers _) _ c.append_words.ensures.1 c.count_bytes.ensures refl (search rules) (search rules) c.put-next.ensures c.append_words.ensures.0
