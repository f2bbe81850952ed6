-- A part that is opened where it stands.
use Rattle.std.proofs.Common.{◌≡◌, ℕ, suc, ◌+◌, ◌-◌, ◌<◌, ◌≤◌, Bool, true, false, cond, ◌||◌, leb, List, ◌++◌, length, drop, sym, refl, ap, ◌∙◌, ap₂, arith, lt-ltb, le-leb}
use Rattle.refusal.specs.declared.Numbers.{Numbers}
use Rattle.refusal.specs.declared.Refusal.TheVariants as refusal
use Rattle.refusal.specs.declared.Refusal.{Refusal}
use Rattle.std.specs.Prelude.{Result, Ok, Err}
use Rattle.refusal.specs.Refusals.{Judged, fine, refused, numbers_of, refused_with, or_else, unless}
use Rattle.refusal.proofs.Judgements.{both-fine}
use Rattle.aes.specs.Aes.{State, key_expansion}
use Rattle.gcm.specs.Gcm.{Opened, plain, fail, opened_by, opened}
use Rattle.refusal.specs.Writes as writes
use Rattle.gcm.specs.Calls.{limit, by_tag, Opening}
use Rattle.refusal.specs.Writes.{wrote, Done, done, outcome_of}
use Rattle.gcm.proofs.Opened.{text-length}
use Rattle.gcm.proofs.Answers.{open_in_place}
use Rattle.secure.specs.Layout.{all_nonces}
use Rattle.secure.specs.Reading.{judge_nonce}
use Rattle.secure.proofs.Counts.{not_spent, one_more}
use Rattle.sealed_receiver.specs.declared.Receiving.{Receiving}
use Rattle.sealed_receiver.specs.State.{opened_of, opened_more}
use Rattle.sealed_receiver.specs.Step.{judge_opened, text_of, judge_part, part_text, judged_as, OpenedPart}

differ : {A : Type 0} {n : Numbers} → refused n ≡ fine → A
differ e = let z : ◌≡◌ {A = ℕ} 0 1 = cc in absurd (omega arith)

text_if : (w : List State) (nonce s : List ℕ) (j : Judged) (o : Opened) → opened_by w nonce s ≡ o → or_else j (judge_opened o) ≡ fine
    → length (text_of o) ≡ length s - 16
text_if w nonce s j (plain text) e f = text-length w nonce s text e
text_if w nonce s j fail e f = differ (both-fine j (judge_opened fail) f).1

pub part-text-length : (r : Receiving) (bytes : List ℕ) → judge_part r bytes ≡ fine → length (part_text r bytes) ≡ length bytes - 16
unfolding judge_part part_text
part-text-length r bytes f = text_if (key_expansion r.key) r.nonce bytes (judge_nonce (opened_of r)) (opened r.key r.nonce bytes) refl f

-- ---- one nonce more is used

pub opened-next : (r : Receiving) (bytes : List ℕ) → judge_part r bytes ≡ fine → opened_of (opened_more r) ≡ suc (opened_of r)
unfolding judge_part opened_more
opened-next r bytes j =
    one_more r.exhausted r.opened
    (not_spent (opened_of r) (both-fine (judge_nonce (opened_of r)) (judge_opened (opened r.key r.nonce bytes)) j).0)

-- at least so many parts were opened, as code tests it
pub enough : (exhausted : Bool) (m : ℕ) {n k : ℕ} → n ≡ k → n < 3 → (exhausted || leb n m) ≡ leb k (cond exhausted all_nonces m)
enough true m {n} {k} e l = sym (le-leb k all_nonces (omega (arith, e, l)))
enough false m e l = ap (λ (i : ℕ). leb i m) e

-- ---- no nonce is left

pub none_left : (r : Receiving) (bytes after : List ℕ) → r.exhausted ≡ true → OpenedPart r bytes (Err refusal.NoncesSpent) after
unfolding judge_part
none_left r bytes after e =
    let j : judge_part r bytes ≡ refused_with refusal.NoncesSpent =
    ap (λ (b : Bool). or_else (judge_nonce (cond b all_nonces r.opened)) (judge_opened (opened r.key r.nonce bytes))) e in
    record { judged = sym j; text = λ f. differ (sym j ∙ f) }

-- ---- the answers of an opening

wrote-is : (o : Result ℕ Refusal) (n : ℕ) → outcome_of o ≡ wrote n → judged_as o ≡ fine
wrote-is (Ok m) n e = refl
wrote-is (Err x) n e = cc

refused-is : (o : Result ℕ Refusal) (n : Numbers) → outcome_of o ≡ writes.refused_for n → judged_as o ≡ refused n
refused-is (Ok m) n e = cc
refused-is (Err x) n e = cc

module _ (r : Receiving) (bytes after : List ℕ) (o : Result ℕ Refusal) where
  by_opened : (x : Opened) → opened r.key r.nonce bytes ≡ x → judge_part r bytes ≡ judge_opened x → part_text r bytes ≡ text_of x
      → done (outcome_of o) after ≡ by_tag x (length bytes - 16) bytes → OpenedPart r bytes o after
  by_opened (plain text) ex j t d =
      let n : length text ≡ length bytes - 16 = text-length (key_expansion r.key) r.nonce bytes text ex in
      record {
        judged = wrote-is o (length bytes - 16) (ap (λ (x : Done). x.outcome) d) ∙ sym j;
        text = λ f. ap (λ (x : Done). x.buffer) d ∙ ap₂ (λ (y : List ℕ) (k : ℕ). y ++ drop k bytes) (sym t) n;
      }
  by_opened fail ex j t d =
      record {
        judged = refused-is o (numbers_of refusal.AuthTag) (ap (λ (x : Done). x.outcome) d) ∙ sym j;
        text = λ f. differ (sym j ∙ f);
      }

  pub opened-part : r.exhausted ≡ false → r.opened < all_nonces → 16 ≤ length bytes → length bytes ≤ limit + 16
      → Opening (key_expansion r.key) r.nonce bytes bytes o after → OpenedPart r bytes o after
  unfolding judge_part part_text
  opened-part e l h k opening =
      let x : Opened = opened r.key r.nonce bytes in
      let j : judge_part r bytes ≡ judge_opened x =
      ap (λ (b : Bool). or_else (judge_nonce (cond b all_nonces r.opened)) (judge_opened x)) e
      ∙ ap (λ (b : Bool). or_else (unless b refusal.NoncesSpent) (judge_opened x)) (lt-ltb r.opened all_nonces l) in
      by_opened x refl j refl (opening.is ∙ open_in_place (key_expansion r.key) r.nonce bytes h k)
