use Rattle.std.proofs.Common.{refl}
use Rattle.crc_steps.proofs.Rules.{steps_of_bytes}
use Rattle.crc_steps.proofs.steps_64.Goals as goal

pub by_bytes-requires-clause-right : goal.by_bytes-requires-clause-right
by_bytes-requires-clause-right c = steps_of_bytes 64 _ refl tt
