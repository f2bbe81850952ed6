use Rattle.std.proofs.Common.{refl}
use Rattle.ghash.proofs.Entries.{products}
use Rattle.ghash.proofs.products.Goals as goal

pub returns : goal.returns
returns c = products c.args.v c.next-a.result c.next-b.result c.next-c.result _ c.next-a.ensures c.next-b.ensures c.next-c.ensures refl
