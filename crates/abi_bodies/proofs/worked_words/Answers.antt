use mathlib.Core.Path.{refl}
use Rattle.buffer.specs.Le.{number_at}
use Rattle.bodies.specs.ByTag.{hello_body, auth_request_body, bad_method_body, more_body, auth_done_body, ident_body, reconnect_body, one_number_body, reset_body, stamp_body, tag_body, body_of}
use Rattle.abi_bodies.specs.Worked.{Worked, readings}
use Rattle.abi_bodies.proofs.worked_words.Goals as goal

-- each body computes
pub returns : goal.returns
unfolding Worked readings hello_body auth_request_body bad_method_body more_body auth_done_body ident_body reconnect_body one_number_body reset_body stamp_body tag_body body_of number_at
returns c = (refl, (refl, (refl, (refl, (refl, (refl, (refl, (refl, (refl, (refl, (refl, (refl, (refl, (refl, (refl, (refl, tt))))))))))))))))
