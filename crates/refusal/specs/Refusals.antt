-- 01's table of refusals, the one place of their numbers and details (three, 0 where a case has fewer), and judgements, which name a case.
use Rattle.std.specs.Prelude.{Result, Ok, Err, Bool, true, false, cond, ◌&&◌, List, [], ◌∷◌, ℕ, eqb}
use Rattle.refusal.specs.declared.Missing.{Missing}
use Rattle.refusal.specs.declared.Numbers.{Numbers}
use Rattle.refusal.specs.declared.Refusal.{Refusal}
use Rattle.refusal.specs.declared.Refusal.TheVariants.{Magic, BannerLength, PeerRequires, PeerLacks, PreambleChecksum, Shape, Flags, Tag, Limit, StoreShort, SegmentChecksum, LateStatus, SourceLength, NoRoom, AbortOneSegment, OwnFeatures, AuthTag, NoncesSpent, Padding, BodyMalformed, UnexpectedTag, TableFull, AckAhead, NonCanonical, NumbersSpent, StateContradicts, SwitchRefused}

-- a number and three details
abbrev pub row : ℕ → ℕ → ℕ → ℕ → Numbers
row n a b c = record { number = n; first = a; second = b; third = c }

-- THE TABLE
abbrev pub numbers_of : Refusal → Numbers
numbers_of Magic = row 1 0 0 0
numbers_of (BannerLength n) = row 2 n 0 0
numbers_of (PeerRequires m) = row 3 m.bits m.lowest m.count
numbers_of (PeerLacks m) = row 4 m.bits m.lowest m.count
numbers_of PreambleChecksum = row 5 28 0 0
numbers_of (Shape place) = row 6 place 0 0
numbers_of (Flags place) = row 7 place 0 0
numbers_of (Tag t) = row 8 t 0 0
numbers_of (Limit place) = row 9 place 0 0
numbers_of (StoreShort n) = row 10 n 0 0
numbers_of (SegmentChecksum k) = row 11 k 0 0
numbers_of (LateStatus b) = row 12 b 0 0
numbers_of SourceLength = row 13 0 0 0
numbers_of (NoRoom n) = row 14 n 0 0
numbers_of AbortOneSegment = row 15 0 0 0
numbers_of OwnFeatures = row 16 0 0 0
numbers_of AuthTag = row 17 0 0 0
numbers_of NoncesSpent = row 18 0 0 0
numbers_of Padding = row 19 0 0 0
numbers_of (BodyMalformed place) = row 20 place 0 0
numbers_of (UnexpectedTag t) = row 21 t 0 0
numbers_of TableFull = row 22 0 0 0
numbers_of AckAhead = row 23 0 0 0
numbers_of (NonCanonical k) = row 24 k 0 0
numbers_of NumbersSpent = row 25 0 0 0
numbers_of StateContradicts = row 26 0 0 0
numbers_of SwitchRefused = row 27 0 0 0

-- a case's number by itself, which its details do not change
abbrev pub refusal_number : Refusal → ℕ
refusal_number r = (numbers_of r).number

abbrev pub no_missing : Missing
no_missing = record { bits = 0; lowest = 0; count = 0 }

-- 26, which every call that is given a state can give
abbrev pub contradiction : Numbers
contradiction = numbers_of StateContradicts

-- the numbers of none
abbrev pub no_refusal : Numbers
no_refusal = row 0 0 0 0

abbrev pub is_no_refusal : Numbers → Bool
is_no_refusal n = (eqb n.number 0 && eqb n.first 0) && (eqb n.second 0 && eqb n.third 0)

-- what a judgement comes to: nothing wrong, or a refusal
pub data Judged : Type 0 where
  fine : Judged
  refused : Numbers → Judged

abbrev pub refused_with : Refusal → Judged
refused_with r = refused (numbers_of r)

abbrev pub judged_by : Result (Unit {0}) Refusal → Judged
judged_by (Ok u) = fine
judged_by (Err r) = refused_with r

abbrev pub is_fine : Judged → Bool
is_fine fine = true
is_fine (refused n) = false

-- one answer where nothing is wrong, one made of a refusal otherwise
module _ {ℓ} {A : Type ℓ} where
  abbrev pub by_judgement : Judged → A → (Numbers → A) → A
  by_judgement fine a f = a
  by_judgement (refused n) a f = f n

-- the first of two that is a refusal
abbrev pub or_else : Judged → Judged → Judged
or_else fine b = b
or_else (refused n) b = refused n

-- the first of a list, in 01's order
abbrev pub first_of : List Judged → Judged
first_of [] = fine
first_of (j ∷ js) = or_else j (first_of js)

-- a refusal, unless a test holds
abbrev pub unless : Bool → Refusal → Judged
unless ok r = cond ok fine (refused_with r)
