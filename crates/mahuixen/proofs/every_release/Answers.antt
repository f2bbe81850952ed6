use Rattle.mahuixen.proofs.Released.{releases_in_c}
use Rattle.mahuixen.proofs.every_release.Goals as goal

pub returns : goal.returns
returns c = releases_in_c c.every_release.ensures
