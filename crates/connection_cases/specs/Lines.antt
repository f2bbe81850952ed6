-- Lines of R, X and T records.
use Rattle.std.specs.Prelude.{Option, None, Some, List, [], ◌∷◌, ◌++◌, ℕ}
use Rattle.refusal.specs.Refusals.{Judged, fine, refused}
use Rattle.banner.specs.declared.Features.{Features}
use Rattle.banner.specs.declared.Revision.{Revision}
use Rattle.banner.specs.Banner.{revision_number}
use Rattle.preamble.specs.declared.Header.{Header}
use Rattle.stream.specs.declared.Event.{Event}
use Rattle.stream.specs.declared.Event.TheVariants as event
use Rattle.text.specs.Line.{Piece, raw, codes, word, number, field, newline}
use Rattle.records.specs.Records.{sum_pieces, why_pieces}

-- start ok
-- switch refused 27 detail 0 0 0
abbrev pub judgement_line : List ℕ → Judged → List Piece
judgement_line letters fine = raw letters ∷ word " ok\n" ∷ []
judgement_line letters (refused w) = (raw letters ∷ word " refused" ∷ why_pieces w) ++ (newline ∷ [])

abbrev pub four_pieces : List ℕ → ℕ → ℕ → ℕ → ℕ → List Piece
four_pieces letters a b c d = raw letters ∷ number a ∷ number b ∷ number c ∷ number d ∷ []

abbrev pub tag_pieces : Header → List Piece
tag_pieces h = field " tag" h.tag ++ field " segments" h.count

abbrev pub length_pieces : Header → List Piece
length_pieces h = four_pieces (codes " lengths") h.s1.len h.s2.len h.s3.len h.s4.len

abbrev pub alignment_pieces : Header → List Piece
alignment_pieces h = four_pieces (codes " alignments") h.s1.align h.s2.align h.s3.align h.s4.align

abbrev pub header_pieces : Header → List Piece
header_pieces h = tag_pieces h ++ length_pieces h ++ alignment_pieces h

abbrev pub feature_pieces : Features → List Piece
feature_pieces f = field " supported" f.supported ++ field " required" f.required

abbrev pub peer_pieces : Features → Revision → List Piece
peer_pieces f r = feature_pieces f ++ field " revision" (revision_number r)

-- frame taken 115 tag 17 segments 2 lengths 0 70 0 0 alignments 0 8 0 0 crc 01234567
abbrev pub frame_line : List ℕ → ℕ → Header → ℕ → List Piece
frame_line letters n h c = (raw letters ∷ number n ∷ []) ++ header_pieces h ++ sum_pieces c

-- banner taken 26 supported 1 required 0 revision 1 crc 01234567
-- refused taken 3 number 3 detail 20 2 2 crc 01234567
abbrev pub event_line : Event → ℕ → ℕ → List Piece
event_line (event.Banner f r) n c = field "banner taken" n ++ peer_pieces f r ++ sum_pieces c
event_line (event.First h) n c = frame_line (codes "first taken") n h c
event_line (event.Frame h) n c = frame_line (codes "frame taken") n h c
event_line (event.Dropped h) n c = frame_line (codes "dropped taken") n h c
event_line (event.Refused w) n c = field "refused taken" n ++ (word " number" ∷ why_pieces w) ++ sum_pieces c

-- more taken 7 crc 01234567
abbrev pub report_line : Option Event → ℕ → ℕ → List Piece
report_line None n c = field "more taken" n ++ sum_pieces c
report_line (Some e) n c = event_line e n c
