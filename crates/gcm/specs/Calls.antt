-- What a call answers and what it leaves in the buffer (02, K3).
use Rattle.std.specs.Prelude.{◌≡◌, Result, List, [], ◌∷◌, ℕ, ◌+◌, ◌-◌, ◌^◌, leb, length, replicate}
use Rattle.buffer.specs.Splice.{replace_front}
use Rattle.refusal.specs.declared.Refusal.TheVariants as refusal
use Rattle.refusal.specs.Refusals.{Judged, fine, refused, numbers_of, first_of, unless}
use Rattle.aes.specs.Aes.{State}
use Rattle.gcm.specs.Gcm.{Opened, plain, fail, sealed_by, opened_by}
use Rattle.refusal.specs.declared.Refusal.{Refusal}
use Rattle.refusal.specs.Writes.{wrote, refused_for, Done, done, outcome_of}

-- GCM's longest text
abbrev pub limit : ℕ
limit = 2 ^ 36 - 32

-- ---- sealing: 9, then 14

abbrev pub judge_seal : ℕ → ℕ → Judged
judge_seal n space = first_of (unless (leb n limit) (refusal.Limit 0) ∷ unless (leb (n + 16) space) (refusal.NoRoom (n + 16)) ∷ [])

abbrev pub by_judge : Judged → ℕ → List ℕ → List ℕ → Done
by_judge fine n bytes buf = done (wrote n) (replace_front bytes buf)
by_judge (refused r) n bytes buf = done (refused_for r) buf

-- WHAT SEALING A TEXT INTO THE FRONT OF A BUFFER COMES TO
unfoldable pub seal_done : List State → List ℕ → List ℕ → List ℕ → Done
seal_done w nonce text buf = by_judge (judge_seal (length text) (length buf)) (length text + 16) (sealed_by w nonce text) buf

-- ---- opening n + 16 bytes: 17 for fewer than 16, 9, 14, none of which changes a byte, and then 17 for a wrong tag, with zeros over the text's length

abbrev pub judge_open : ℕ → ℕ → Judged
judge_open n space = first_of (unless (leb 16 n) refusal.AuthTag ∷ unless (leb (n - 16) limit) (refusal.Limit 0) ∷ unless (leb (n - 16) space) (refusal.NoRoom (n - 16)) ∷ [])

abbrev pub by_tag : Opened → ℕ → List ℕ → Done
by_tag (plain text) n buf = done (wrote n) (replace_front text buf)
by_tag fail n buf = done (refused_for (numbers_of refusal.AuthTag)) (replace_front (replicate n 0) buf)

abbrev pub by_both : Judged → Opened → ℕ → List ℕ → Done
by_both fine o n buf = by_tag o n buf
by_both (refused r) o n buf = done (refused_for r) buf

-- WHAT OPENING SEALED BYTES INTO THE FRONT OF A BUFFER COMES TO
unfoldable pub open_done : List State → List ℕ → List ℕ → List ℕ → Done
open_done w nonce s buf = by_both (judge_open (length s) (length buf)) (opened_by w nonce s) (length s - 16) buf

-- ---- THE PROMISES of a call that was lent buf, answered r and left `after`

pub record Sealing (w : List State) (nonce text buf : List ℕ) (r : Result ℕ Refusal) (after : List ℕ) : Type 0 where
  pub is : done (outcome_of r) after ≡ seal_done w nonce text buf

pub record Opening (w : List State) (nonce s buf : List ℕ) (r : Result ℕ Refusal) (after : List ℕ) : Type 0 where
  pub is : done (outcome_of r) after ≡ open_done w nonce s buf
