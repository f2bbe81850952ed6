-- The lines of the link checker (02, K12): one for each banner, frame and drop of demand 3's list, and one for the end.
use Rattle.std.specs.Prelude.{Bool, cond, ◌||◌, List, [], ◌∷◌, ◌++◌, ℕ, ◌+◌, ◌-◌, leb}
use Rattle.banner.specs.declared.Features.{Features}
use Rattle.banner.specs.declared.Revision.{Revision}
use Rattle.banner.specs.Banner.{revision_number}
use Rattle.preamble.specs.declared.Header.{Header}
use Rattle.preamble.specs.Layout.{total}
use Rattle.stream.specs.declared.Event.{Event}
use Rattle.stream.specs.Events.{is_banner, is_frame, ends_frame, Role, banner_end, first_end, frame_end, stream_end, role_of, passing}
use Rattle.stream.specs.Stream.{Entry}
use Rattle.text.specs.Line.{Piece, raw, number, codes, word, newline, field}

-- ---- lines

abbrev pub banner_line : Features → Revision → List Piece
banner_line p r = field "banner supported" p.supported ++ field " required" p.required ++ field " revision" (revision_number r) ++ (newline ∷ [])

-- a frame or a drop: its number, its fields, and T
abbrev pub frame_line : List ℕ → ℕ → Header → List Piece
frame_line letters k h = (raw letters ∷ number k ∷ []) ++ field " tag" h.tag ++ field " segments" h.count ++ field " bytes" (total h) ++ (newline ∷ [])

-- of a whole frame or not, where k frames and drops came before. They are numbered together; an early report of segment 1 has no line, and a refusal, which ends the list, only the end's
abbrev pub role_line : Bool → ℕ → Role → List Piece
role_line whole k (banner_end p r) = banner_line p r
role_line whole k (first_end h) = []
role_line whole k (frame_end h) = frame_line (cond whole (codes "frame") (codes "drop")) (k + 1) h
role_line whole k (stream_end n) = []

abbrev pub line_of : ℕ → Event → List Piece
line_of k e = role_line (is_frame e) k (role_of e)

abbrev pub numbered : ℕ → Event → ℕ
numbered k e = cond (ends_frame e) (k + 1) k

unfoldable pub lines_of : ℕ → List Entry → List Piece
lines_of k [] = []
lines_of k (e ∷ es) = line_of k e.event ++ passing e.event (lines_of (numbered k e.event) es) (λ n. [])

-- ---- the end

pub data End : Type 0 where
  ok : ℕ → End
  cut : ℕ → End
  refused_at : ℕ → ℕ → End
  bad_file : End

abbrev pub end_line : End → List Piece
end_line (ok n) = field "end ok" n ++ (newline ∷ [])
end_line (cut n) = field "end cut" n ++ (newline ∷ [])
end_line (refused_at r n) = field "end refused" r ++ field " at" n ++ (newline ∷ [])
end_line bad_file = word "end bad file\n" ∷ []

-- no refusal among n bytes, of which the last banner, frame or drop ends at p: the rest is an unfinished banner or frame
abbrev pub open_end : Bool → ℕ → ℕ → End
open_end bad n p = cond bad bad_file (cond (leb n p) (ok n) (cut (n - p)))

-- the byte of the last banner, frame or drop, where it was at p before: there the unfinished part begins
abbrev pub entry_end_by : ℕ → Event → ℕ → ℕ
entry_end_by p e at = cond (is_banner e || ends_frame e) at p

unfoldable pub end_of : Bool → ℕ → ℕ → List Entry → End
end_of bad n p [] = open_end bad n p
end_of bad n p (e ∷ es) = passing e.event (end_of bad n (entry_end_by p e.event e.at) es) (λ r. refused_at r.number e.at)
