-- All tables of worked examples.
use Rattle.stream.specs.Rows.{Holds}
use Rattle.secure_examples.specs.Examples.{frame_rows, first_rows, judge_rows, padding_rows, later_rows, cut_rows, switched_rows}
use Rattle.secure_examples.specs.Builds.{length_rows, nonce_rows, text_rows, sealed_rows, agree_rows, spend_rows, order_rows, build_rows}

-- THE CLAIM: each table holds
pub record Worked : Type 0 where
  pub lengths : Holds length_rows
  pub nonces : Holds nonce_rows
  pub texts : Holds text_rows
  pub sealed : Holds sealed_rows
  pub frames : Holds frame_rows
  pub first : Holds first_rows
  pub judged : Holds judge_rows
  pub paddings : Holds padding_rows
  pub later : Holds later_rows
  pub cut : Holds cut_rows
  pub switched : Holds switched_rows
  pub agree : Holds agree_rows
  pub spend : Holds spend_rows
  pub order : Holds order_rows
  pub builds : Holds build_rows
