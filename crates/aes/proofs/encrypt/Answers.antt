use Rattle.aes.proofs.encrypt.Goals as goal

pub returns : goal.returns
returns c = c.rounds.ensures c.args.block c.add_round_key.ensures
