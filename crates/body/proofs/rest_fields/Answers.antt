use Rattle.body.proofs.Laws.{fields-sent}
use Rattle.body.proofs.rest_fields.Goals as goal

pub returns : goal.returns
returns c = cc (fields-sent c.args.h c.args.abort c.args.rest.now)
