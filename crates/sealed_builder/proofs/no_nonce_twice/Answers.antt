use Rattle.sealed_builder.proofs.NoNonceTwice.{different, sealed-with, one_key_lem, counted-all, needs, unspent}
use Rattle.sealed_builder.proofs.Refusals18And26.{exactly}
use Rattle.sealed_builder.proofs.no_nonce_twice.Goals as goal

pub returns : goal.returns
returns c =
    record {
      different = different;
      wrote = λ s b n m a. sealed-with s b m n a;
      one_key = one_key_lem;
      counted = counted-all;
      needs = needs;
      eighteen = exactly;
      unspent = λ s b r m a. unspent s b m r a;
    }
