use Rattle.std.proofs.Common.{refl}
use Rattle.abi_bodies.proofs.Laws.{abi-reads}
use Rattle.abi_bodies.proofs.abi_read_body.Goals as goal

pub returns : goal.returns
returns c = abi-reads _ _ _ _ _ c.read_any.ensures c.body_words-ws.ensures refl
