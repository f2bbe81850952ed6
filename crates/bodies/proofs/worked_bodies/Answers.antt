use mathlib.Core.Path.{refl}
use Rattle.buffer.specs.Le.{number_at}
use Rattle.fields.specs.Layout.{step_of}
use Rattle.fields.specs.Field.{words_of}
use Rattle.bodies.specs.Table.{layout_in}
use Rattle.bodies.specs.Read.{settled, read_body}
use Rattle.bodies.specs.Write.{kinds_of, bytes_of, write_as, write_body}
use Rattle.bodies.proofs.Limits.{at-limit}
use Rattle.bodies.specs.ByTag.{hello_body, auth_request_body, bad_method_body, more_body, auth_done_body, ident_body, reconnect_body, one_number_body, reset_body, stamp_body, tag_body, body_of}
use Rattle.bodies.specs.Worked.{Worked, readings, placings, writings}
use Rattle.bodies.proofs.worked_bodies.Goals as goal

-- each body computes
pub returns : goal.returns
unfolding Worked readings placings writings hello_body auth_request_body bad_method_body more_body auth_done_body ident_body reconnect_body one_number_body reset_body stamp_body tag_body body_of layout_in settled read_body kinds_of bytes_of write_as write_body step_of number_at words_of
returns c = (
  (refl, (refl, (refl, (refl, (refl, (refl, (refl, (refl, (refl, (refl, (refl, (refl, (refl, (refl, (refl, (refl, (refl, (refl, (refl, (refl, (refl, (refl, (refl, (refl, (refl, (refl, (refl, (refl, (refl, (refl, (refl, (refl, (refl, (refl, (refl, (refl, (refl, (refl, (refl, (refl, (refl, (refl, (refl, (refl, (refl, (refl, (refl, (refl, (refl, (refl, (refl, (refl, (refl, (refl, (refl, (refl, (refl, (refl, (refl, (refl, (refl, (refl, (refl, (refl, (refl, (refl, (refl, (refl, (refl, (refl, (refl, (refl, (refl, (refl, (refl, (refl, (refl, tt))))))))))))))))))))))))))))))))))))))))))))))))))))))))))))))))))))))))))))),
  (refl, (refl, (refl, (refl, (refl, (refl, (refl, (refl, (refl, (refl, (refl, (refl, (refl, (refl, (refl, (refl, (refl, (refl, (refl, (refl, (refl, (refl, (refl, (refl, (refl, (refl, tt)))))))))))))))))))))))))),
  (refl, (refl, (refl, (refl, (refl, (refl, (refl, (refl, (refl, (refl, (refl, (refl, (refl, (refl, (refl, (refl, (refl, (refl, (refl, (refl, (refl, (refl, (refl, tt))))))))))))))))))))))),
  at-limit,
)
