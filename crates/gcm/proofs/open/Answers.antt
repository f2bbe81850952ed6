use Rattle.gcm.proofs.open.Goals as goal

pub returns : goal.returns
returns c = record { is = cc }
