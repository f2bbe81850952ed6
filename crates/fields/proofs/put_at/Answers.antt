use Rattle.std.proofs.Common.{◌≡◌, ◌∙◌, sym, length, arith, length-take, length-drop}
use Rattle.buffer.proofs.CopyLoop.{copied-whole}
use Rattle.fields.proofs.Puts.{put-cut}
use Rattle.fields.proofs.put_at.Goals as goal

pub returns : goal.returns
returns c =
    put-cut c.args.at _ _ _ _ _ c.min-from.ensures c.min-n.ensures (c.put.ensures ∙ sym (copied-whole _ _ (rw (length-take, length-take, length-drop) (omega (arith, c.min-from.ensures, c.min-n.ensures)))))
