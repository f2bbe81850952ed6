use Rattle.std.proofs.Common.{true, refl, sym, ◌∙◌}
use Rattle.text.specs.Page.{page}
use Rattle.link.specs.declared.Part.TheVariants.{Count, Table, Bodies, Ended}
use Rattle.link.proofs.Outcomes.{read_by, bodies_few, walk-read, read-nothing}
use Rattle.link.proofs.read.Goals as goal

pub read_bodies-requires : goal.read_bodies-requires
read_bodies-requires c = (sym c.is_ready.ensures ∙ c.if-is_ready.true, bodies_few c.args.link (Bodies _) c.args.bytes.now _ c.wanted.result c.in-Bodies.is c.wanted.ensures c.part-lent.ensures _ refl)

pub returns-then-is_ready : goal.returns-then-is_ready
returns-then-is_ready c = read_by c.args.link (Bodies _) c.args.bytes.now _ c.wanted.result c.in-Bodies.is c.wanted.ensures c.part-lent.ensures _ _ _ _ _ (walk-read _ _ _ _ _ _ _ _ true (sym c.is_ready.ensures ∙ c.if-is_ready.true) (rw c.clear.ensures at c.read_bodies.ensures))

pub returns-in-Count : goal.returns-in-Count
returns-in-Count c = read_by c.args.link Count c.args.bytes.now _ c.wanted.result c.in-Count.is c.wanted.ensures c.part-lent.ensures _ _ _ _ _ (record { store = refl; settled = rw (c.count_outcome.ensures, c.clear.ensures) at c.settle.ensures })

pub returns-in-Table : goal.returns-in-Table
returns-in-Table c = read_by c.args.link (Table _) c.args.bytes.now _ c.wanted.result c.in-Table.is c.wanted.ensures c.part-lent.ensures _ _ _ _ _ (record { store = refl; settled = rw (c.table_outcome.ensures, c.min.ensures, c.clear.ensures) at c.settle-in-Table.ensures })

pub returns-else-is_ready : goal.returns-else-is_ready
returns-else-is_ready c = read_by c.args.link (Bodies _) c.args.bytes.now _ c.wanted.result c.in-Bodies.is c.wanted.ensures c.part-lent.ensures _ _ _ _ _ (rw (c.ended.ensures, c.clear.ensures) (read-nothing _ c.args.link.walk c.args.store.now c.part-lent.result.now (page c.args.page.now.bytes 0) (sym c.is_ready.ensures ∙ c.if-is_ready.false)))

pub returns-in-Ended : goal.returns-in-Ended
returns-in-Ended c = read_by c.args.link Ended c.args.bytes.now _ c.wanted.result c.in-Ended.is c.wanted.ensures c.part-lent.ensures _ _ _ _ _ (record { link = c.ended-in-Ended.ensures; store = refl; kept = c.clear.ensures })
