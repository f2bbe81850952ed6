use Rattle.abi_delivery.proofs.Laws.{joined}
use Rattle.abi_delivery.proofs.abi_deliver.Goals as goal

pub returns : goal.returns
returns c =
    let r = c.abi_receive-kind in
    record {
      received = r.ensures;
      done = joined _ _ r.ensures.answered.tells c.request_by_words-request.ensures c.apply_words.ensures;
    }
