-- What crosses to C and Rust: pointers and 64-bit words, one field a word. What is narrower than a word has a limit; of a word beyond it a field has the low bits, as
-- C's casts have, and a call answers 26 before it reads any.
use Rattle.std.specs.Prelude.{List, [], ◌∷◌, ◌++◌, Bool, true, not, cond, ◌&&◌, ℕ, suc, ◌+◌, ◌%◌, ◌≤◌, leb, eqb, get_or}
use Rattle.refusal.specs.declared.Numbers.{Numbers}
use Rattle.refusal.specs.Refusals.{row, no_refusal}
use Rattle.refusal.specs.Writes.{WriteOutcome, wrote, refused_for, Done}
use Rattle.banner.specs.declared.Features.{Features}
use Rattle.banner.specs.declared.Revision.{Revision}
use Rattle.banner.specs.declared.Revision.TheVariants.{Msgr20, Msgr21}
pub use Rattle.banner.specs.Banner.{revision_number}
use Rattle.preamble.specs.declared.Segment.{Segment}
use Rattle.preamble.specs.declared.Header.{Header}
use Rattle.abi.specs.declared.Written.{Written}

-- ---- limits

-- the words from place i on are within these limits
abbrev pub within : List ℕ → ℕ → List ℕ → Bool
within [] i ws = true
within (m ∷ []) i ws = leb (get_or ws i 0) m
within (m ∷ n ∷ ms) i ws = leb (get_or ws i 0) m && within (n ∷ ms) (suc i) ws

-- the same as facts
abbrev pub Within : List ℕ → ℕ → List ℕ → Type 0
Within [] i ws = Unit {0}
Within (m ∷ ms) i ws = (get_or ws i 0 ≤ m) × Within ms (suc i) ws

abbrev pub max_u8 : ℕ
max_u8 = 255

abbrev pub max_u16 : ℕ
max_u16 = 65535

abbrev pub max_u32 : ℕ
max_u32 = 4294967295

-- a word's low bits
abbrev pub low_u8 : ℕ → ℕ
low_u8 n = n % 256

abbrev pub low_u16 : ℕ → ℕ
low_u16 n = n % 65536

abbrev pub low_u32 : ℕ → ℕ
low_u32 n = n % 4294967296

-- ---- revisions and marks: any number but 0 is msgr2.1, and true, as C's truth values are

abbrev pub revision_by_number : ℕ → Revision
revision_by_number n = cond (eqb n 0) Msgr20 Msgr21

abbrev pub mark_number : Bool → ℕ
mark_number b = cond b 1 0

abbrev pub mark_of : ℕ → Bool
mark_of n = not (eqb n 0)

-- ---- features, refusals and headers

abbrev pub features : ℕ → ℕ → Features
features s r = record { supported = s; required = r }

abbrev pub refusal_words : Numbers → List ℕ
refusal_words n = n.number ∷ n.first ∷ n.second ∷ n.third ∷ []

abbrev pub refusal_at : ℕ → List ℕ → Numbers
refusal_at i ws = row (low_u8 (get_or ws i 0)) (get_or ws (i + 1) 0) (get_or ws (i + 2) 0) (get_or ws (i + 3) 0)

-- what a call answers that writes bytes: how many, and a refusal, either of which is zeros
abbrev pub written : ℕ → List ℕ → Written
written n r = record { written = n; refusal = r }

abbrev pub abi_wrote : ℕ → Written
abi_wrote n = written n (refusal_words no_refusal)

abbrev pub abi_refused : Numbers → Written
abi_refused n = written 0 (refusal_words n)

-- the answer, and the buffer then
pub record AbiDone : Type 0 where
  pub answer : Written
  pub buffer : List ℕ

abbrev pub abi_done : Written → List ℕ → AbiDone
abi_done w l = record { answer = w; buffer = l }

abbrev pub abi_result : WriteOutcome → Written
abi_result (wrote n) = abi_wrote n
abi_result (refused_for n) = abi_refused n

abbrev pub in_abi : Done → AbiDone
in_abi d = abi_done (abi_result d.outcome) d.buffer

abbrev segment_words : Segment → List ℕ
segment_words s = s.len ∷ s.align ∷ []

abbrev pub header_words : Header → List ℕ
header_words h = h.tag ∷ h.count ∷ (segment_words h.s1 ++ (segment_words h.s2 ++ (segment_words h.s3 ++ segment_words h.s4)))

abbrev pub segment_at : ℕ → List ℕ → Segment
segment_at i ws = record { len = low_u32 (get_or ws i 0); align = low_u16 (get_or ws (i + 1) 0) }

abbrev pub header_at : ℕ → List ℕ → Header
header_at i ws = record {
  tag = low_u8 (get_or ws i 0);
  count = low_u8 (get_or ws (i + 1) 0);
  s1 = segment_at (i + 2) ws;
  s2 = segment_at (i + 4) ws;
  s3 = segment_at (i + 6) ws;
  s4 = segment_at (i + 8) ws;
}

abbrev pub header_limits : List ℕ
header_limits = max_u8 ∷ max_u8 ∷ max_u32 ∷ max_u16 ∷ max_u32 ∷ max_u16 ∷ max_u32 ∷ max_u16 ∷ max_u32 ∷ max_u16 ∷ []
