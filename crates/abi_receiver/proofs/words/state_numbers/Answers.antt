use Rattle.abi_receiver.proofs.words.state_numbers.Goals as goal

pub returns : goal.returns
returns c = c.numbers_of.ensures c.args.st.position.block
