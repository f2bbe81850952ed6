use mathlib.Core.Path.{sym, ◌∙◌}
use Rattle.abi_sealed.proofs.Laws.{sealed-beyond, sealed-built}
use Rattle.abi_sealed.proofs.sealed_written.Goals as goal

pub returns-then-not-fits : goal.returns-then-not-fits
returns-then-not-fits c = sealed-beyond _ _ _ _ _ _ _ _ _ (sym c.fits.ensures ∙ c.if-not-fits.true) c.abi_refused.ensures

pub returns : goal.returns
returns c =
    sealed-built _ _ _ _ _ _ _ _ c.sending_of.result c.header_of.result c.build_sealed.result _ _ _ _
    (sym c.fits.ensures ∙ c.if-not-fits.false)
    c.sending_of.ensures
    c.header_of.ensures
    c.build_sealed.ensures
    c.sealed_words.ensures.0
    c.sealed_words.ensures.1
    c.sealed_words.ensures.2
