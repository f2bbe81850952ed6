use Rattle.std.proofs.Common.{◌∙◌, ◌-◌, length, sym, ap, arith}
use lib.Seq.{length-take-le}
use Rattle.refusal.specs.Refusals.{row}
use Rattle.refusal.specs.Writes.{wrote, refused_for, done}
use Rattle.buffer.proofs.Parts.{overwrite-zeros}
use Rattle.gcm.proofs.Answers.{open_none, open_long, open_short, open_right, open_wrong}
use Rattle.gcm.proofs.Placing.{opened-over}
use Rattle.gcm.proofs.open_with.Goals as goal

pub returns-then-sealed-lt16 : goal.returns-then-sealed-lt16
returns-then-sealed-lt16 c = record { is = sym (open_none _ _ _ _ c.if-sealed-lt16.true) }

pub returns-then-n-gt-LONGEST : goal.returns-then-n-gt-LONGEST
returns-then-n-gt-LONGEST c = record { is = sym (open_long _ _ _ _ (omega arith) (omega arith)) }

pub returns-then-out-n : goal.returns-then-out-n
returns-then-out-n c = record { is = sym (open_short _ _ _ _ (omega arith) (omega arith) (omega arith)) }

pub returns-then-tag_fits : goal.returns-then-tag_fits
returns-then-tag_fits c =
    let s = c.args.sealed.now in
    record { is = ap (done (wrote _)) (c.xor_keystream.ensures ∙ opened-over _ _ _ _ _ _ (length-take-le (length s - 16) s (omega arith)) (omega arith) c.put.ensures) ∙ sym (open_right _ _ _ _ (omega arith) (omega arith) (omega arith) cc) }

pub returns : goal.returns
returns c =
    let a = c.args in
    record { is = ap (done (refused_for (row 17 0 0 0))) (c.put_zeros.ensures ∙ overwrite-zeros (length a.sealed.now - 16) a.out.now (omega arith)) ∙ sym (open_wrong _ _ _ _ (omega arith) (omega arith) (omega arith) cc) }
