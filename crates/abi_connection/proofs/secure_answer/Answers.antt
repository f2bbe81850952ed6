use mathlib.Core.Path.{◌∙◌, sym}
use Rattle.abi_connection.proofs.Answers.{words-refused, answered}
use Rattle.abi_connection.proofs.secure_answer.Goals as goal

pub returns-then-not-fits : goal.returns-then-not-fits
returns-then-not-fits c =
    let f = c.fits in
    words-refused _ _ _ _ (sym f.ensures ∙ c.if-not-fits.true) c.contradicts.ensures

pub returns : goal.returns
returns c =
    let o = c.receive-o in
    let s = c in
    let f = c.fits in
    answered _ _ _ s.state_of.result o.result _ _ _ (sym f.ensures ∙ c.if-not-fits.false) s.state_of.ensures o.ensures c.secure_words.ensures c.report_words.ensures
