-- The end of a body (01, "Bodies", "Order at the end of a body", refusals 11 and 12; 02, K8 and K10).
use Rattle.std.specs.Prelude.{Result, Ok, Err, List, [], ◌∷◌, ◌++◌, cond, ◌||◌, ℕ, zero, suc, ◌+◌, ◌%◌, take, drop, get_or, leb, ltb, eqb}
use Rattle.buffer.specs.Le.{number_at}
use Rattle.refusal.specs.declared.Numbers.{Numbers}
use Rattle.refusal.specs.declared.Refusal.{Refusal}
use Rattle.refusal.specs.declared.Refusal.TheVariants as refusal
use Rattle.refusal.specs.Refusals.{Judged, fine, refused, numbers_of, or_else, unless}
use Rattle.banner.specs.declared.Revision.{Revision}
use Rattle.banner.specs.declared.Revision.TheVariants.{Msgr20, Msgr21}
use Rattle.preamble.specs.declared.Header.{Header}
use Rattle.body.specs.declared.Ending.{Ending}
use Rattle.body.specs.declared.Ending.TheVariants as ends
use Rattle.body.specs.declared.Late.{Late}
use Rattle.body.specs.declared.Late.TheVariants as late
use Rattle.body.specs.Body.{segment_sum, rest_length, segments, epilogue_from, in_epilogue, first_sum_length, no_epilogue, epilogue_sums}

-- late_flags: bit 0 set means aborted. late_status: one of two code words in the low four bits; the high four are not looked at
abbrev pub late_of : Revision → ℕ → Late
late_of Msgr20 b = cond (eqb (b % 2) 1) late.Aborted late.Complete
late_of Msgr21 b = cond (eqb (b % 16) 0x0E) late.Complete (cond (eqb (b % 16) 0x01) late.Aborted late.Wrong)

-- what the end of a body comes to
pub data Ended : Type 0 where
  whole : Ended
  dropped : Ended
  refused_for : Numbers → Ended

-- the segment bytes among the first bytes b behind a preamble
abbrev pub segment_bytes : Revision → Header → List ℕ → List ℕ
segment_bytes revision h b = take h.s1.len b ++ take (rest_length h) (drop (h.s1.len + first_sum_length revision h) b)

-- n checksum fields of an epilogue e, one behind the other
abbrev pub sums_at : ℕ → ℕ → List ℕ → List ℕ
sums_at zero at e = []
sums_at (suc n) at e = number_at 4 at e ∷ sums_at n (at + 4) e

-- those that it holds, behind the late byte
abbrev pub stored : Revision → List ℕ → List ℕ
stored revision e = sums_at (epilogue_sums revision) 1 e

-- segments from number k on, of which those that are used are compared with their stored checksums, lowest first
abbrev pub compare_from : ℕ → ℕ → List ℕ → List (List ℕ) → Judged
compare_from count k [] ss = fine
compare_from count k (f ∷ fs) ss =
    or_else (unless (ltb count k || eqb f (segment_sum (get_or ss 0 []))) (refusal.SegmentChecksum k)) (compare_from count (suc k) fs (drop 1 ss))

-- the checksums in an epilogue e against those of the segments' bytes p
abbrev pub compared : Revision → Header → List ℕ → List ℕ → Judged
compared revision h e p =
    compare_from h.count (epilogue_from revision) (stored revision e) (in_epilogue revision (segments h (take h.s1.len p) (drop h.s1.len p)))

-- one frame, one spelling (02, K10): the checksum fields of unused segments are 0, from number k on, lowest first
abbrev pub unused_from : ℕ → ℕ → List ℕ → Judged
unused_from count k [] = fine
unused_from count k (f ∷ fs) = or_else (unless (leb k count || eqb f 0) (refusal.NonCanonical k)) (unused_from count (suc k) fs)

-- and late_flags, in msgr2.0, is 0 or 1
abbrev pub judge_late_flags : Revision → ℕ → Judged
judge_late_flags Msgr20 b = unless (ltb b 2) (refusal.NonCanonical 0)
judge_late_flags Msgr21 b = fine

abbrev pub judge_spelling : Revision → Header → List ℕ → Judged
judge_spelling revision h e = or_else (unused_from h.count (epilogue_from revision) (stored revision e)) (judge_late_flags revision (get_or e 0 0))

abbrev pub ended_by : Judged → Ended
ended_by fine = whole
ended_by (refused n) = refused_for n

abbrev pub by_late : Late → ℕ → Judged → Ended
by_late late.Wrong b j = refused_for (numbers_of (refusal.LateStatus b))
by_late late.Aborted b j = dropped
by_late late.Complete b j = ended_by j

abbrev pub end_unless_refused : Judged → Ended → Ended
end_unless_refused fine x = x
end_unless_refused (refused n) x = refused_for n

-- THE ORDER AT THE END OF A BODY: the spelling, of aborted frames too, then the late byte, and only then the checksums
unfoldable pub ending : Revision → Header → List ℕ → List ℕ → Ended
ending revision h e p =
    cond (no_epilogue revision h) whole
    (end_unless_refused (judge_spelling revision h e) (by_late (late_of revision (get_or e 0 0)) (get_or e 0 0) (compared revision h e p)))

abbrev pub ended_as : Result Ending Refusal → Ended
ended_as (Ok ends.Whole) = whole
ended_as (Ok ends.Dropped) = dropped
ended_as (Err r) = refused_for (numbers_of r)
