use Rattle.std.proofs.Common.{refl, lt-ltb, le-ltb}
use Rattle.cases.proofs.Laws.{kind-is, kind_isnt, space-lent}
use Rattle.cases.specs.Kinds.{next_of}
use Rattle.cases.proofs.run_next.Goals as goal

pub returns-then-builds-gt0 : goal.returns-then-builds-gt0
unfolding next_of
returns-then-builds-gt0 c =
    let l = space-lent c.args.space.now c.requires in
    rw (lt-ltb _ _ c.if-builds-gt0.true) (rw l at c.build_record.ensures)

pub returns-then-byte_at-eq89 : goal.returns-then-byte_at-eq89
unfolding next_of
returns-then-byte_at-eq89 c = rw (le-ltb _ _ c.if-builds-gt0.false, kind-is c.byte_at.ensures c.if-byte_at-eq89.true) c.builds_record.ensures

pub returns : goal.returns
unfolding next_of
returns c = rw (le-ltb _ _ c.if-builds-gt0.false, kind_isnt c.byte_at.ensures c.if-byte_at-eq89.false) (record { step = c.run_record.ensures; builds = refl })
