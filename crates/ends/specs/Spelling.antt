-- One frame, one spelling (02, K10): two complete frames that read alike are the same bytes. What is spoken of is bytes as demand 3's definition reads them.
use Rattle.std.specs.Prelude.{◌≡◌, List, [], ◌∷◌, true, false, ℕ, suc, ◌+◌, length}
use Rattle.buffer.specs.Le.{Bytes}
use Rattle.buffer.specs.Splice.{replace_front}
use Rattle.banner.specs.declared.Revision.{Revision}
use Rattle.preamble.specs.declared.Header.{Header}
use Rattle.preamble.specs.Layout.{total}
use Rattle.body.specs.Body.{frame_bytes}
use Rattle.stream.specs.declared.Event.TheVariants.{Frame}
use Rattle.stream.specs.Stream.{entry, frames}
use Rattle.ends.specs.Handed.{zero_nibble, after_early_report}

-- X is one complete frame and nothing else, with the fields h and the segments' bytes p: from some byte on and with some store, what the definition gives for it,
-- behind segment 1's early report, is that frame at the last byte of X, p at the store's front
pub record ReadAs (revision : Revision) (h : Header) (p X : List ℕ) : Type 0 where
  pub bytes : Bytes X
  pub at : ℕ
  pub store : List ℕ
  pub entries : after_early_report (frames (suc (length X)) revision at X store).entries ≡ entry (Frame h) (at + length X) (replace_front p store) ∷ []
  pub segments : length p ≡ total h

pub record OneSpelling : Type 0 where
  -- it is the frame that the builder writes
  pub spelling : (revision : Revision) (h : Header) (p X : List ℕ) → ReadAs revision h p X → zero_nibble revision h X ≡ true → X ≡ frame_bytes revision h false p
  -- so two that read alike are the same
  pub same : (revision : Revision) (h : Header) (p X Y : List ℕ) → ReadAs revision h p X → ReadAs revision h p Y
      → zero_nibble revision h X ≡ true → zero_nibble revision h Y ≡ true → X ≡ Y
