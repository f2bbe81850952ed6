use Rattle.std.proofs.Common.{◌∙◌, ◌-◌, length, sym, ap, arith}
use Rattle.refusal.specs.Refusals.{row}
use Rattle.refusal.specs.Writes.{wrote, refused_for, done}
use Rattle.buffer.proofs.Parts.{overwrite-zeros}
use Rattle.gcm.proofs.Answers.{open_none, open_long, open_right, open_wrong}
use Rattle.gcm.proofs.Placing.{masked-over}
use Rattle.gcm.proofs.open_in_place.Goals as goal

pub returns-then-buf-lt16 : goal.returns-then-buf-lt16
returns-then-buf-lt16 c = record { is = sym (open_none _ _ _ _ c.if-buf-lt16.true) }

pub returns-then-n-gt-LONGEST : goal.returns-then-n-gt-LONGEST
returns-then-n-gt-LONGEST c = record { is = sym (open_long _ _ _ _ (omega arith) (omega arith)) }

pub returns-then-tag_fits : goal.returns-then-tag_fits
returns-then-tag_fits c =
    let s = c.args.buf.now in
    record { is = ap (done (wrote _)) (c.xor_keystream.ensures ∙ masked-over _ _ s (length s - 16) (omega arith)) ∙ sym (open_right _ _ _ _ (omega arith) (omega arith) (omega arith) cc) }

pub returns : goal.returns
returns c =
    let s = c.args.buf.now in
    record { is = ap (done (refused_for (row 17 0 0 0))) (c.put_zeros.ensures ∙ overwrite-zeros (length s - 16) s (omega arith)) ∙ sym (open_wrong _ _ _ _ (omega arith) (omega arith) (omega arith) cc) }
