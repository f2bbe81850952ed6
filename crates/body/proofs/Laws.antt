-- Laws of bodies: how long they are, and zeros in place of bytes.
use mathlib.Core.Path.{◌≡◌, refl, ap, ap₂, ◌∙◌}
use mathlib.Core.List.{List, [], ◌∷◌}
use mathlib.Core.Bool.{Bool, true, false, cond}
use Prim.Native.Nat.{ℕ, zero, suc}
use native.Mathlib.Omega.{arith}
use lib.ListN.{length, take, drop, length-append, length-drop, length-replicate}
use lib.Seq.{length-take-le}
use Rattle.buffer.specs.Le.{le, words}
use Rattle.banner.specs.declared.Revision.{Revision}
use Rattle.banner.specs.declared.Revision.TheVariants.{Msgr20, Msgr21}
use Rattle.preamble.specs.declared.Header.{Header}
use Rattle.preamble.specs.Layout.{total, preamble_bytes}
use Rattle.preamble.proofs.Laws.{length-preamble}
use Rattle.body.specs.Body.{segment_sum, rest_length, field, fields_from, segments, epilogue_from, in_epilogue, no_first_sum, first_sum_length, no_epilogue, epilogue_length, body_length, wire_length, first_sum, late_byte, epilogue, body, rest_sent, frame_bytes}

-- zeros in place of a part's bytes
pub take-sent : (abort : Bool) (n : ℕ) (l : List ℕ) → take n (rest_sent abort l) ≡ rest_sent abort (take n l)
take-sent false n l = refl
take-sent true zero l = refl
take-sent true (suc n) [] = refl
take-sent true (suc n) (x ∷ l) = ap (λ (t : List ℕ). 0 ∷ t) (take-sent true n l)

pub drop-sent : (abort : Bool) (n : ℕ) (l : List ℕ) → drop n (rest_sent abort l) ≡ rest_sent abort (drop n l)
drop-sent false n l = refl
drop-sent true zero l = refl
drop-sent true (suc n) [] = refl
drop-sent true (suc n) (x ∷ l) = drop-sent true n l

-- so the fields of an aborted frame are those of zeros in place of each segment
pub fields-sent : (h : Header) (abort : Bool) (rest : List ℕ)
    → field h.count 2 (rest_sent abort (take h.s2.len rest))
    ∷ field h.count 3 (rest_sent abort (take h.s3.len (drop h.s2.len rest)))
    ∷ field h.count 4 (rest_sent abort (take h.s4.len (drop h.s3.len (drop h.s2.len rest))))
    ∷ []
    ≡ fields_from h.count 2 (drop 1 (segments h [] (rest_sent abort rest)))
fields-sent h false rest = refl
fields-sent h true rest =
    let from3 : List ℕ = drop h.s2.len rest in
    simp (take-sent true h.s2.len rest, drop-sent true h.s2.len rest, take-sent true h.s3.len from3, drop-sent true h.s3.len from3, take-sent true h.s4.len (drop h.s3.len from3))

pub length-sent : (abort : Bool) (l : List ℕ) → length (rest_sent abort l) ≡ length l
length-sent true l = length-replicate (length l) 0
length-sent false l = refl

length_cond : (b : Bool) (xs : List ℕ) (n : ℕ) → length xs ≡ n → length (cond b [] xs) ≡ cond b 0 n
length_cond true xs n e = refl
length_cond false xs n e = e

pub length-first-sum : (revision : Revision) (h : Header) (first : List ℕ) → length (first_sum revision h first) ≡ first_sum_length revision h
length-first-sum revision h first = length_cond (no_first_sum revision h) (le 4 (segment_sum first)) 4 refl

pub length-epilogue : (revision : Revision) (h : Header) (late : ℕ) (first rest : List ℕ) → length (epilogue revision h late first rest) ≡ epilogue_length revision h
length-epilogue Msgr20 h late first rest = refl
length-epilogue Msgr21 h late first rest = length_cond (no_epilogue Msgr21 h) (late ∷ words (fields_from h.count 2 (drop 1 (segments h first rest)))) 13 refl

-- an epilogue from its late byte and its fields
pub epilogue-is : (revision : Revision) (h : Header) (late : ℕ) (first rest : List ℕ) (b : ℕ) (fs : List ℕ) → no_epilogue revision h ≡ false → b ≡ late
    → fs ≡ fields_from h.count (epilogue_from revision) (in_epilogue revision (segments h first rest))
    → b ∷ words fs ≡ epilogue revision h late first rest
epilogue-is revision h late first rest b fs there e₁ e₂ = ap₂ (λ (x : ℕ) (l : List ℕ). x ∷ words l) e₁ e₂ ∙ rw there

-- segments of their lengths make a body of its length
pub length-body : (revision : Revision) (h : Header) (late : ℕ) (first rest : List ℕ) → length first ≡ h.s1.len → length rest ≡ rest_length h
    → length (body revision h late first rest) ≡ body_length revision h
unfolding body
length-body revision h late first rest e₁ e₂ =
    let a = length-first-sum revision h first in
    let b = length-epilogue revision h late first rest in
    simp (length-append, a, b) (omega arith)

pub length-frame : (revision : Revision) (h : Header) (abort : Bool) (source : List ℕ) → length source ≡ total h → length (frame_bytes revision h abort source) ≡ wire_length revision h
unfolding frame_bytes
length-frame revision h abort source e =
    let n = h.s1.len in
    let first : List ℕ = take n source in
    let rest : List ℕ = drop n source in
    let e₁ : length first ≡ n = length-take-le n source (omega arith) in
    let e₂ : length (rest_sent abort rest) ≡ rest_length h = length-sent abort rest ∙ length-drop n source ∙ omega arith in
    let b = length-body revision h (late_byte revision abort) first (rest_sent abort rest) e₁ e₂ in
    length-append (preamble_bytes h) (body revision h (late_byte revision abort) first (rest_sent abort rest)) ∙ omega (arith, length-preamble h, b)
