use Rattle.std.proofs.Common.{refl}
use Rattle.fields.specs.Field.{payload, Fits}
use Rattle.fields.proofs.Drafts.{appended-counted}
use Rattle.fields.proofs.append_payload.Goals as goal

pub returns : goal.returns
unfolding Fits
returns c = appended-counted (payload _) _ tt c.count_bytes.ensures refl refl refl c.put-next.ensures c.put.ensures
