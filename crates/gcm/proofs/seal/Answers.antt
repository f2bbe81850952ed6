use Rattle.gcm.proofs.seal.Goals as goal

pub returns : goal.returns
returns c = record { is = cc }
