-- Reading the file: what a link wants next, and what it makes of the bytes that it is lent.
use Rattle.std.specs.Prelude.{◌≡◌, List, [], Bool, true, false, cond, not, ◌&&◌, None, is_some, Result, Ok, Err, ℕ, ◌*◌, ◌-◌, min, length, take, leb, ltb, eqb}
use Rattle.buffer.specs.Le.{number_at}
use Rattle.receiver.specs.Step.{started}
use Rattle.text.specs.Line.{Piece}
use Rattle.text.specs.Page.{Page, page, puts}
use Rattle.link.specs.declared.Walk.{Walk}
use Rattle.link.specs.declared.Part.{Part}
use Rattle.link.specs.declared.Part.TheVariants.{Count, Table, Bodies, Ended}
use Rattle.link.specs.declared.BadFile.{BadFile}
use Rattle.link.specs.declared.Link.{Link}
use Rattle.link.specs.Lines.{end_line}
use Rattle.link.specs.File.{sum_of, ours}
use Rattle.link.specs.Walks.{end_at, Walked}

-- before the first byte
abbrev pub new_walk : Walk
new_walk = record { receiver = started ours; segments = record { left = 0; bytes = 0 }; taken = 0; entry_end = 0; frames = 0; refused = None }

abbrev pub link_at : Part → Walk → Link
link_at part w = record { part = part; walk = w }

abbrev pub begun : Link
begun = link_at Count new_walk

-- how many bytes come next: the count, the table, at most 16,384 bytes of the bodies, or none
abbrev pub wanted_by : Part → ℕ
wanted_by Count = 2
wanted_by (Table n) = 4 * min n 512
wanted_by (Bodies left) = min left 16384
wanted_by Ended = 0

abbrev pub wanted_of : Link → ℕ
wanted_of l = wanted_by l.part

-- ---- what follows the bytes: more of the file, or the end, where the file is bad or not

abbrev pub Outcome : Type 0
Outcome = Result Part BadFile

abbrev pub Ends : Bool → Outcome
Ends true = Err (record {})
Ends false = Ok Ended

abbrev pub count_outcome : List ℕ → Outcome
count_outcome bytes =
    cond (ltb (length bytes) 2) (Ends true)
    (cond (ltb 512 (number_at 2 0 bytes)) (Ends true)
    (cond (eqb (number_at 2 0 bytes) 0) (Ends false) (Ok (Table (number_at 2 0 bytes)))))

abbrev pub table_outcome : ℕ → List ℕ → Outcome
table_outcome n bytes =
    cond (ltb (length bytes) (4 * n)) (Ends true)
    (cond (eqb (sum_of n bytes) 0) (Ends false) (Ok (Bodies (sum_of n bytes))))

-- n bytes of the bodies came
abbrev pub bodies_outcome : ℕ → ℕ → Bool → Outcome
bodies_outcome left n refused =
    cond refused (Ends false)
    (cond (ltb n (min left 16384)) (Ends true)
    (cond (leb left n) (Ends false) (Ok (Bodies (left - n)))))

abbrev pub link_after : Outcome → Walk → Link
link_after (Ok part) w = link_at part w
link_after (Err e) w = link_at Ended w

abbrev pub last_pieces : Outcome → Walk → List Piece
last_pieces (Ok Count) w = []
last_pieces (Ok (Table n)) w = []
last_pieces (Ok (Bodies left)) w = []
last_pieces (Ok Ended) w = end_line (end_at false w)
last_pieces (Err e) w = end_line (end_at true w)

pub record Settled (o : Outcome) (w : Walk) (text : Page) (r : Link) (text' : Page) : Type 0 where
  pub link : r ≡ link_after o w
  pub lines : text' ≡ puts (last_pieces o w) text

-- ---- the promise of a read

-- a walk that can go on: it is not refused, and its counts have room. Every walk of a file is one until it is refused
abbrev pub ready : Walk → Bool
ready w = not (is_some w.refused) && (leb w.taken 4611686018427387904 && leb w.frames 4611686018427387904)

pub record BodiesRead (left : ℕ) (w : Walk) (s bytes : List ℕ) (text : Page) (r : Link) (s' : List ℕ) (text' : Page) : Type 0 where
  pub walk : Walk
  pub text₁ : Page
  pub walked : Walked w s bytes text walk s' text₁
  pub settled : Settled (bodies_outcome left (length bytes) (is_some walk.refused)) walk text₁ r text'

-- nothing is read
pub record NothingRead (w : Walk) (s : List ℕ) (text : Page) (r : Link) (s' : List ℕ) (text' : Page) : Type 0 where
  pub link : r ≡ link_at Ended w
  pub store : s' ≡ s
  pub kept : text' ≡ text

pub record TableRead (o : Outcome) (w : Walk) (s : List ℕ) (text : Page) (r : Link) (s' : List ℕ) (text' : Page) : Type 0 where
  pub store : s' ≡ s
  pub settled : Settled o w text r text'

abbrev pub WalkRead : Bool → ℕ → Walk → List ℕ → List ℕ → Page → Link → List ℕ → Page → Type 0
WalkRead true left w s bytes text r s' text' = BodiesRead left w s bytes text r s' text'
WalkRead false left w s bytes text r s' text' = NothingRead w s text r s' text'

abbrev pub ReadBy : Part → Walk → List ℕ → List ℕ → Page → Link → List ℕ → Page → Type 0
ReadBy Count w s bytes text r s' text' = TableRead (count_outcome bytes) w s text r s' text'
ReadBy (Table n) w s bytes text r s' text' = TableRead (table_outcome (min n 512) bytes) w s text r s' text'
ReadBy (Bodies left) w s bytes text r s' text' = WalkRead (ready w) left w s bytes text r s' text'
ReadBy Ended w s bytes text r s' text' = NothingRead w s text r s' text'

-- THE PROMISE: of bytes no more than are wanted are read, and the text starts at the front
unfoldable pub ReadOn : Link → List ℕ → List ℕ → Page → Link → List ℕ → Page → Type 0
ReadOn l s bytes text r s' text' = ReadBy l.part l.walk s (take (wanted_of l) bytes) (page text.bytes 0) r s' text'
