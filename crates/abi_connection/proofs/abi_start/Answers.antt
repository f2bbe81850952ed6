use mathlib.Core.Path.{◌∙◌, ap}
use Rattle.abi_receiver.specs.Words.{number_of}
use Rattle.abi_connection.proofs.Calls.{begun-words}
use Rattle.abi_connection.proofs.abi_start.Goals as goal

pub returns : goal.returns
returns c =
    let o = c.start-o in
    record {
      number = c.number_of.ensures ∙ ap number_of o.ensures.judgement;
      state = begun-words _ o.result.state _ _ o.ensures.state c.state_numbers.ensures c.secure_words-w.ensures;
    }
