-- How long the lines of a read are at most.
use mathlib.Core.Path.{◌≡◌}
use mathlib.Core.Bool.{Bool, true, false, cond, true≢false}
use mathlib.Core.List.{List, [], ◌∷◌, ◌++◌}
use Prim.Native.Nat.{ℕ, ◌+◌, ◌*◌, ◌≤◌}
use native.Mathlib.Omega.{arith}
use Rattle.refusal.specs.Refusals.{by_judgement}
use Rattle.banner.specs.declared.Revision.{Revision}
use Rattle.stream.specs.Events.{is_frame, Role, banner_end, first_end, frame_end, stream_end, role_of, is_frame_end, judge_role}
use Rattle.stream.specs.Stream.{Entry, refused_in}
use Rattle.stream.specs.Adds.{Adds, AddsUp}
use Rattle.stream.proofs.Events.{by_adds, by_front}
use Rattle.receiver.specs.Calls.{Call, taken_by, reported_by}
use Rattle.receiver.proofs.Appended.{adds-behind, Between, taken_more, reported-between}
use Rattle.text.specs.Line.{Piece, width}
use Rattle.text.proofs.Laws.{width-append}
use Rattle.link.specs.declared.Walk.{Walk}
use Rattle.std.specs.Prelude.{Ok, Err}
use Rattle.link.specs.declared.Part.TheVariants.{Count, Table, Bodies, Ended}
use Rattle.link.specs.Lines.{banner_line, role_line, lines_of, End, ok, cut, refused_at, bad_file, end_line}
use Rattle.link.specs.Walks.{end_at}
use Rattle.link.specs.Reads.{Outcome, last_pieces}

-- ---- widths

line-width : (whole : Bool) (k : ℕ) (w : Role) → width (role_line whole k w) ≤ 109
line-width whole k (banner_end p r) = omega arith
line-width whole k (first_end h) = omega arith
line-width true k (frame_end h) = omega arith
line-width false k (frame_end h) = omega arith
line-width whole k (stream_end n) = omega arith

end-width : (e : End) → width (end_line e) ≤ 109
end-width (ok n) = omega arith
end-width (cut n) = omega arith
end-width (refused_at r n) = omega arith
end-width bad_file = omega arith

last-width : (o : Outcome) (w : Walk) → width (last_pieces o w) ≤ 109
last-width (Ok Count) w = omega arith
last-width (Ok (Table n)) w = omega arith
last-width (Ok (Bodies left)) w = omega arith
last-width (Ok Ended) w = end-width (end_at false w)
last-width (Err e) w = end-width (end_at true w)

-- ---- how long the lines are between two bytes: a line has at most 109 bytes, and a frame 32 or more

abbrev Long : ℕ → ℕ → List Piece → Type 0
Long P E xs = 109 * P + 32 * width xs ≤ 109 * E

one_more : (xs ys : List Piece) (P Q E : ℕ) → width xs ≤ 109 → Long Q E ys → P + 32 ≤ Q → Long P E (xs ++ ys)
one_more xs ys P Q E h g l = omega (arith, width-append xs ys)

-- the line of an event, by its role, and those behind it
abbrev onward : Bool → ℕ → List Entry → Role → List Piece
onward whole k es w = role_line whole k w ++ by_judgement (judge_role w) (lines_of (cond (is_frame_end w) (k + 1) k) es) (λ n. [])

-- frames from P on
spaced : (k : ℕ) (r : Revision) (P u E : ℕ) (es : List Entry) → Adds r P es → Between u E es → P ≤ E → Long P E (lines_of k es)
unfolding lines_of
spaced k r P u E [] a b h = omega arith
spaced k r P u E (e ∷ es) a b h =
    let whole = is_frame e.event in
    by_adds (λ w. Long P E (onward whole k es w)) r P e.at (λ Q. Adds r Q es)
    (λ f x. spaced k r P u E es x b.2 h)
    (λ f q x.
    let l : P + 32 ≤ e.at = omega (arith, q) in
    one_more (role_line whole k (frame_end f)) (lines_of (k + 1) es) P e.at E (line-width whole k (frame_end f)) (spaced (k + 1) r e.at u E es x b.2 b.1) l)
    (λ n l. omega (arith, b.1))
    (role_of e.event)
    a

-- frames from somewhere before u on
later : (k : ℕ) (r : Revision) (P u E : ℕ) (es : List Entry) → Adds r P es → Between u E es → u ≤ E → Long u (E + 32) (lines_of k es)
unfolding lines_of
later k r P u E [] a b h = omega arith
later k r P u E (e ∷ es) a b h =
    let whole = is_frame e.event in
    by_adds (λ w. Long u (E + 32) (onward whole k es w)) r P e.at (λ Q. Adds r Q es)
    (λ f x. later k r P u E es x b.2 h)
    (λ f q x.
    let y : Long (e.at + 32) (E + 32) (lines_of (k + 1) es) = omega (arith, spaced (k + 1) r e.at u E es x b.2 b.1) in
    let l : u + 32 ≤ e.at + 32 = omega (arith, b.0) in
    one_more (role_line whole k (frame_end f)) (lines_of (k + 1) es) u (e.at + 32) (E + 32) (line-width whole k (frame_end f)) y l)
    (λ n l. omega arith)
    (role_of e.event)
    a

few-lines : (k : ℕ) (es fs : List Entry) (u E : ℕ) → refused_in es ≡ false → AddsUp (es ++ fs) → Between u E fs → u ≤ E → Long u (E + 64) (lines_of k fs)
unfolding lines_of
few-lines k [] [] u E c a b h = omega arith
few-lines k [] (f ∷ fs) u E c a b h =
    let whole = is_frame f.event in
    by_front (λ w. Long u (E + 64) (onward whole k fs w)) f.at fs
    (λ p v x.
    let y : Long (u + 32) (E + 64) (lines_of k fs) = omega (arith, later k v f.at u E fs x b.2 h) in
    one_more (banner_line p v) (lines_of k fs) u (u + 32) (E + 64) (line-width whole k (banner_end p v)) y (omega arith))
    (λ n. omega arith)
    (role_of f.event)
    a
few-lines k (e ∷ es) fs u E c a b h =
    by_front (λ w. by_judgement (judge_role w) (refused_in es) (λ n. true) ≡ false → Long u (E + 64) (lines_of k fs)) e.at (es ++ fs)
    (λ p v x d. let q = adds-behind v e.at es fs d x in omega (arith, later k v q.0 u E fs q.1 b h))
    (λ n d. absurd (true≢false d))
    (role_of e.event)
    a
    c

-- the lines of calls that take at most 16,384 bytes, behind others, and a last line have room
pub roomy : (es : List Entry) (k u : ℕ) (cs : List Call) (o : Outcome) (w : Walk) → refused_in es ≡ false → AddsUp (es ++ reported_by u cs) → taken_by u cs ≤ u + 16384 → width (lines_of k (reported_by u cs) ++ last_pieces o w) ≤ 65536
roomy es k u cs o w c a h =
    let n = few-lines k es (reported_by u cs) u (taken_by u cs) c a (reported-between u cs) (taken_more u cs) in
    omega (arith, width-append (lines_of k (reported_by u cs)) (last_pieces o w), last-width o w)

pub roomy-last : (o : Outcome) (w : Walk) → width (last_pieces o w) ≤ 65536
roomy-last o w = omega (arith, last-width o w)
