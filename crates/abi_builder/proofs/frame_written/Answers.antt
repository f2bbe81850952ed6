use mathlib.Core.Path.{sym, ◌∙◌}
use Rattle.abi_builder.proofs.Laws.{frame-beyond, frame-written}
use Rattle.abi_builder.proofs.frame_written.Goals as goal

pub returns-then-not-header_fits : goal.returns-then-not-header_fits
returns-then-not-header_fits c = frame-beyond _ _ _ _ _ _ _ (sym c.header_fits.ensures ∙ c.if-not-header_fits.true) c.abi_refused.ensures

pub returns : goal.returns
returns c =
    frame-written _ _ _ _ _ _ c.revision_by_number.result c.header_of.result c.build_frame.result _ _
    (sym c.header_fits.ensures ∙ c.if-not-header_fits.false)
    c.revision_by_number.ensures
    c.header_of.ensures
    c.build_frame.ensures
    c.written_of.ensures
