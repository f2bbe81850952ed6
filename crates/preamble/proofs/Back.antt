-- Reading what was built.
use mathlib.Core.Path.{◌≡◌, refl, ap, ◌∙◌, sym, ap₂}
use mathlib.Core.List.{List, ◌++◌, append_assoc, [], ◌∷◌, append-nil}
use Prim.Native.Nat.{ℕ, ◌≤◌}
use borrow.Author.Tests.{eq-eqb, le-leb}
use lib.ListN.{take, drop, get_or}
use Rattle.buffer.specs.Le.{le, number_at}
use Rattle.buffer.proofs.Numbers.{le_of-le}
use Rattle.crc32c.specs.Crc.{crc_of}
use Rattle.refusal.specs.Refusals.{fine, or_else}
use Rattle.refusal.proofs.Judgements.{all-fine}
use Rattle.preamble.specs.declared.Header.{Header}
use Rattle.preamble.specs.Layout.{preamble_front, preamble_bytes, total}
use Rattle.preamble.specs.Judge.{preamble_of, judge_checksum, header_of, judge_shape, judge_tag, judge_limits, judge_header, judge_fields, judge_preamble}
use Rattle.preamble.specs.Reading.{HeaderFits, ReadsBack, built_preamble}
use Rattle.preamble.proofs.Laws.{header-back, front-crc_lt}
use Rattle.preamble.specs.declared.Preamble.{Preamble}

-- what stands in the front, and behind it
parts : (h : Header) (rest : List ℕ)
    → (get_or (preamble_front h ++ rest) 26 0 ≡ 0) × (get_or (preamble_front h ++ rest) 27 0 ≡ 0) × (take 28 (preamble_front h ++ rest) ≡ preamble_front h) × (drop 28 (preamble_front h ++ rest) ≡ rest)
unfolding preamble_front
parts h rest = (refl, refl, refl, refl)

pub reads-back : ReadsBack
unfolding ReadsBack preamble_bytes number_at
reads-back h rest f =
    let tail : List ℕ = le 4 (crc_of 0 (preamble_front h)) ++ rest in
    let p = parts h tail in
    let whole = append_assoc (preamble_front h) (le 4 (crc_of 0 (preamble_front h))) rest in
    let sum : number_at 4 28 (preamble_front h ++ tail) ≡ crc_of 0 (preamble_front h) = rw p.3 (le_of-le 4 (crc_of 0 (preamble_front h)) (front-crc_lt h f)) in
    record {
      fields = rw whole (simp (header-back h tail f, p.0, p.1, sum));
      checked = rw whole (simp (p.2, sum, eq-eqb (crc_of 0 (preamble_front h)) (crc_of 0 (preamble_front h)) refl));
    }

-- ---- a preamble that was built is accepted

pub fields-fine : (h : Header) (n : ℕ) → judge_header h ≡ fine → total h ≤ n → judge_fields (built_preamble h) n ≡ fine
unfolding judge_header judge_fields
fields-fine h n e l =
    let f = all-fine (judge_shape h ∷ judge_tag h.tag ∷ judge_limits h ∷ []) e in
    rw (f.0, f.1.0, f.1.1.0, le-leb (total h) n l)

pub record Front (h : Header) (n : ℕ) : Type 0 where
  pub header : header_of (preamble_bytes h) ≡ h
  pub accepted : judge_preamble (preamble_bytes h) n ≡ fine

pub front-back : (h : Header) (n : ℕ) → HeaderFits h → judge_header h ≡ fine → total h ≤ n → Front h n
unfolding ReadsBack judge_preamble judge_fields
front-back h n f e l =
    let b = reads-back h [] f in
    let a = sym (append-nil (preamble_bytes h)) in
    let fields = ap preamble_of a ∙ b.fields in
    record {
      header = ap (λ (p : Preamble). p.header) fields;
      accepted = ap₂ or_else (ap judge_checksum a ∙ b.checked) (ap (λ (p : Preamble). judge_fields p n) fields) ∙ fields-fine h n e l;
    }
