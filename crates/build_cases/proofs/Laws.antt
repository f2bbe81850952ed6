-- Laws of sealed builds by a record.
use Rattle.std.proofs.Common.{◌≡◌, ℕ, ◌+◌, ◌≤◌, true, ◌&&◌, leb, List, length, get_or, take, drop, Option, None, Some, sym, ◌∙◌, arith, eq-eqb, ne_eqb, leb-true}
use Rattle.refusal.proofs.Booleans.{both_left, both_right}
use Rattle.buffer.specs.Le.{number_at}
use Rattle.crc32c.specs.Crc.{crc_of}
use Rattle.refusal.specs.Writes.{WriteOutcome}
use Rattle.sealed_builder.specs.declared.Sending.{Sending}
use Rattle.sealed_builder.specs.Build.{Done, done, refused_sending}
use Rattle.text.specs.Line.{Piece}
use Rattle.text.specs.Page.{Page}
use Rattle.records.specs.Records.{outcome_line, is_whole, size_in, taken_of, Did, bad_record, prints, allowed}
use Rattle.records.proofs.Laws.{size-bad, size-good, sized-good, whole-within, did_bad, did_whole}
use Rattle.build_cases.specs.declared.Builds.{Builds}
use Rattle.build_cases.specs.declared.Part.{Part}
use Rattle.build_cases.specs.Sealed.{sealed_line, sending_after, sending_of, head_size, build_size, part_of, DidPart}

-- ---- the head

-- its sending state
pub sending-refused : (s : List ℕ) {b : ℕ} → b ≡ get_or s 1 0 → b ≡ 1 → refused_sending ≡ sending_of s
unfolding sending_of
sending-refused s e f = rw (eq-eqb (get_or s 1 0) 1 (sym e ∙ f))

pub sending-made : (s : List ℕ) {b : ℕ} {key nonce : List ℕ} {spent : ℕ}
    → b ≡ get_or s 1 0
    → (b ≡ 1 → ⊥)
    → key ≡ take 16 (drop 2 s)
    → nonce ≡ take 12 (drop 18 s)
    → spent ≡ number_at 8 30 s
    → sending_after key nonce spent ≡ sending_of s
unfolding sending_of
sending-made s e f ek en es = rw (ne_eqb (get_or s 1 0) 1 (λ g. f (e ∙ g)), ek, en, es)

-- one that is whole
pub head_long : (s : List ℕ) → is_whole (head_size s) s ≡ true → 40 ≤ length s
head_long s e =
    let g = sized-good (leb (get_or s 1 0) 1 && leb (number_at 2 38 s) 256) 40 s e in
    let h = whole-within (head_size s) s e in
    let t : head_size s ≡ 40 = rw g in
    omega arith

-- ---- a build

-- the buffer's length of one that is whole
pub build-buffer : (room : ℕ) (s : List ℕ) → is_whole (build_size room s) s ≡ true → number_at 4 27 s ≤ room
build-buffer room s e =
    let g = sized-good (leb (get_or s 26 0) 1 && (leb (number_at 4 27 s) room && allowed (number_at 4 40 s))) (44 + number_at 4 40 s) s e in
    leb-true (number_at 4 27 s) room (both_left (leb (number_at 4 27 s) room) _ (both_right (leb (get_or s 26 0) 1) _ g))

-- its line as code comes to it
pub built-line : (w : WriteOutcome) (x : Sending) (buf : List ℕ) {sum : ℕ} {d : Done} → done w x buf ≡ d → sum ≡ crc_of 4294967295 buf → outcome_line w sum ≡ sealed_line d
built-line w x buf e k = rw (k, ← e)

-- ---- a part that is bad, and one that is whole

module _ (n : ℕ) (lines : List (List Piece)) (b before : Builds) {s : List ℕ} {old new : Page} {r : Part} where
  pub part-bad : {x : Option ℕ} → x ≡ size_in n s → x ≡ None → Did bad_record s old new r.taken → r.builds ≡ before → DidPart (part_of n s lines b before) s old new r
  part-bad e h d q = record { step = did_bad n lines e h d; builds = rw (size-bad n s (sym h ∙ e)) q }

  pub part-whole : {m : ℕ} → Some m ≡ size_in n s → taken_of r.taken ≡ m → new ≡ prints lines old → r.builds ≡ b → DidPart (part_of n s lines b before) s old new r
  part-whole e g p q = record { step = did_whole n lines e g p; builds = rw (size-good n s e) q }
