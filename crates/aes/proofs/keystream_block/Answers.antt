use Rattle.aes.specs.Counter.{keystream_block}
use Rattle.aes.proofs.keystream_block.Goals as goal

pub returns : goal.returns
unfolding keystream_block
returns c = cc (c.rounds.ensures c.counter_block.result c.add_round_key.ensures)
