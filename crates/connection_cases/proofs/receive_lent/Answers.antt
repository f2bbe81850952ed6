use Rattle.std.proofs.Common.{ap, sym, ◌∙◌, arith, List, ◌++◌, ℕ, drop}
use Rattle.connection.specs.Step.{Answer}
use Rattle.connection_cases.specs.Calls.{lent_answer}
use Rattle.connection_cases.proofs.Laws.{lent-whole}
use Rattle.connection_cases.proofs.receive_lent.Goals as goal

pub returns-then-lent-all : goal.returns-then-lent-all
unfolding lent_answer
returns-then-lent-all c =
    record { received = c.receive.ensures.received; store = ap (λ (l : List ℕ). l ++ drop c.args.lent c.args.store.now) c.receive.ensures.store }

pub returns : goal.returns
returns c =
    let e = lent-whole c.args.state c.args.store.now c.args.piece.now c.args.lent (omega arith) in
    record { received = c.receive-2.ensures.received ∙ sym (ap (λ (a : Answer). a.received) e); store = c.receive-2.ensures.store ∙ sym (ap (λ (a : Answer). a.store) e) }
