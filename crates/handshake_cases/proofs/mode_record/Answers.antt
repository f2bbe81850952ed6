use Rattle.std.proofs.Common.{refl}
use Rattle.handshake_cases.proofs.Laws.{mode-picked}
use Rattle.handshake_cases.specs.Modes.{mode_size, mode_record}
use Rattle.records.proofs.Laws.{did_bad, did_whole, size-good}
use Rattle.records.specs.Records.{prints}
use Rattle.handshake_cases.proofs.mode_record.Goals as goal

pub returns-in_default : goal.returns-in_default
unfolding mode_record
returns-in_default c = did_bad _ _ c.mode_size.ensures c.in_default.is (c.bad_record.ensures _)

pub returns : goal.returns
unfolding mode_record prints
returns c =
    let good = size-good (mode_size c.args.s.now) c.args.s.now c.in-Some.ensures in
    let e = mode-picked c.args.s.now good c.byte_at-n.ensures c.own_at-from.ensures.0 c.byte_at-m.ensures c.read_words-preferred.ensures c.read_words-own.ensures in
    did_whole _ _ c.in-Some.ensures refl (rw (c.pick_mode.ensures, e) at c.print_mode.ensures)
