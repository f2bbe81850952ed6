use Rattle.std.proofs.Common.{◌∙◌}
use Rattle.buffer.proofs.Parts.{rest-is}
use Rattle.gcm.specs.Gcm.{tag_fits}
use Rattle.gcm.proofs.tag_fits.Goals as goal

pub returns : goal.returns
unfolding tag_fits
returns c = c.same.ensures ∙ rw (c.tag-t.ensures, rest-is)
