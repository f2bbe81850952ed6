use Rattle.secure_examples.proofs.Rows.{frame_rows_hold, first_rows_hold, judge_rows_hold, padding_rows_hold, later_rows_hold, cut_rows_hold}
use Rattle.secure_examples.proofs.Switched.{switched_rows_hold}
use Rattle.secure_examples.proofs.ComputedBuilds.{length_rows_hold, nonce_rows_hold, text_rows_hold, sealed_rows_hold, agree_rows_hold, spend_rows_hold, order_rows_hold, build_rows_hold}
use Rattle.secure_examples.proofs.worked.Goals as goal

pub returns : goal.returns
returns c =
    record {
      lengths = length_rows_hold;
      nonces = nonce_rows_hold;
      texts = text_rows_hold;
      sealed = sealed_rows_hold;
      frames = frame_rows_hold;
      first = first_rows_hold;
      judged = judge_rows_hold;
      paddings = padding_rows_hold;
      later = later_rows_hold;
      cut = cut_rows_hold;
      switched = switched_rows_hold;
      agree = agree_rows_hold;
      spend = spend_rows_hold;
      order = order_rows_hold;
      builds = build_rows_hold;
    }
