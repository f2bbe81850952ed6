use mathlib.Core.Path.{refl}
use Rattle.handshake.specs.Table.{find}
use Rattle.handshake.specs.Pick.{on_list, pick_of}
use Rattle.handshake.specs.Worked.{Worked, examples, transitions_from, Transitions, choices}
use Rattle.handshake.proofs.worked_runs.Goals as goal

-- each run, each state and each pick computes
table : Worked
unfolding Worked examples transitions_from Transitions choices find on_list pick_of
table = (
  ((refl, (refl, (refl, (refl, (refl, (refl, (refl, (refl, (refl, (refl, (refl, (refl, tt)))))))))))), ((refl, (refl, (refl, (refl, (refl, (refl, (refl, (refl, tt)))))))), ((refl, (refl, (refl, (refl, (refl, tt))))), ((refl, (refl, (refl, (refl, (refl, tt))))), ((refl, (refl, (refl, tt))), ((refl, (refl, tt)), ((refl, (refl, tt)), ((refl, tt), ((refl, (refl, (refl, (refl, (refl, (refl, (refl, (refl, (refl, (refl, tt)))))))))), ((refl, (refl, (refl, tt))), ((refl, (refl, tt)), ((refl, (refl, (refl, tt))), ((refl, (refl, (refl, (refl, tt)))), ((refl, (refl, (refl, (refl, (refl, tt))))), ((refl, (refl, (refl, (refl, (refl, (refl, tt)))))), ((refl, (refl, tt)), ((refl, (refl, (refl, (refl, tt)))), tt))))))))))))))))),
  (
    λ v. (refl, refl, refl, refl, refl, refl, refl, refl, refl, refl, refl, refl, refl),
    λ a f k. (refl, refl, refl, refl),
    λ g f k. (refl, refl, refl, refl, refl, refl, refl, refl),
    λ a g. (refl, refl, refl, refl),
  ),
  (refl, (refl, (refl, (refl, (refl, (refl, (refl, (refl, tt)))))))),
)

pub returns : goal.returns
returns c = table
