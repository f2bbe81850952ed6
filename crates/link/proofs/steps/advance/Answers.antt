use Rattle.std.proofs.Common.{arith}
use Rattle.link.proofs.Moves.{moves}
use Rattle.link.proofs.Chains.{advance_more, advance_event}
use Rattle.link.proofs.steps.advance.Goals as goal

pub overflow_add-next : goal.overflow_add-next
overflow_add-next c = omega (arith, c.requires.taken, (moves c.args.w.receiver c.args.store.now c.args.piece.now c.receive-o.result _ c.receive-o.ensures).within)

pub returns-in-None : goal.returns-in-None
returns-in-None c = advance_more c.args.w _ _ _ c.receive-o.result _ c.receive-o.ensures c.requires.live c.in-None.is

pub returns-in-Some : goal.returns-in-Some
returns-in-Some c = advance_event c.args.w _ _ _ c.receive-o.result _ c.receive-o.ensures _ _ _ c.in-Some.is c.note.ensures
