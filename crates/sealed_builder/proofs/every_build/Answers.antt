use Rattle.std.proofs.Common.{refl}
use Rattle.sealed_builder.specs.Build.{fresh_sending, refused_sending, agrees}
use Rattle.sealed_builder.proofs.Refusals18And26.{sound}
use Rattle.sealed_builder.proofs.every_build.Goals as goal

pub returns : goal.returns
unfolding fresh_sending refused_sending agrees
returns c = record { fresh = λ key nonce. refl; refused_one = refl; each = sound }
