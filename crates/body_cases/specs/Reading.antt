-- H records: a body is read.
use Rattle.std.specs.Prelude.{cond, List, [], ◌∷◌, ◌++◌, ℕ, ◌+◌, ◌-◌, eqb, length, take, drop, get_or}
use Prim.Native.String.{String}
use Rattle.buffer.specs.Le.{number_at}
use Rattle.crc32c.specs.Crc.{crc_of}
use Rattle.io.specs.Digits.{last_digits}
use Rattle.fields.specs.Field.{Field, number, negative, numbers, payload, opaque, fixed}
use Rattle.bodies.specs.declared.Ident.{Ident}
use Rattle.bodies.specs.declared.Reconnect.{Reconnect}
use Rattle.bodies.specs.Read.{Answer, whole, refused, read_body}
use Rattle.text.specs.Line.{Piece, raw, codes, decimal, hex, word, field, newline}
use Rattle.text.specs.Line as line
use Rattle.records.specs.Records.{Record, refused_pieces, allowed}
use Rattle.records.specs.Records as records

-- ---- fields: a name, and what the field holds

unfoldable pub each_number : List ℕ → List Piece
each_number [] = []
each_number (n ∷ ns) = line.number n ∷ each_number ns

-- a list as its count and its numbers
abbrev pub list_pieces : List ℕ → List ℕ → List Piece
list_pieces name ns = raw name ∷ line.number (length ns) ∷ each_number ns

-- a block or payload as its length and its checksum
abbrev pub bytes_pieces : List ℕ → List ℕ → List Piece
bytes_pieces name bs = raw name ∷ line.number (length bs) ∷ word " crc " ∷ hex (crc_of 4294967295 bs) ∷ []

-- each byte in two digits
unfoldable pub each_byte : List ℕ → List Piece
each_byte [] = []
each_byte (b ∷ bs) = raw (last_digits 16 2 b) ∷ each_byte bs

-- a number in decimal, an error below zero by its 32 bits, a stamp as its bytes
abbrev pub field_pieces : String → Field → List Piece
field_pieces name (number w n) = field name n
field_pieces name (negative n) = word name ∷ word " -" ∷ decimal (4294967296 - n) ∷ []
field_pieces name (numbers ns) = list_pieces (codes name) ns
field_pieces name (payload bs) = bytes_pieces (codes name) bs
field_pieces name (opaque k bs) = bytes_pieces (codes name) bs
field_pieces name (fixed w bs) = word name ∷ word " " ∷ each_byte bs

abbrev pub fields_pieces : List String → List Field → List Piece
fields_pieces [] fs = []
fields_pieces (name ∷ names) [] = []
fields_pieces (name ∷ names) (f ∷ fs) = field_pieces name f ++ fields_pieces names fs

-- ---- THE NAMES of each tag's fields, in their order

abbrev pub hello_names : List String
hello_names = " type" ∷ " address" ∷ []

abbrev pub request_names : List String
request_names = " method" ∷ " modes" ∷ " payload" ∷ []

abbrev pub bad_method_names : List String
bad_method_names = " method" ∷ " error" ∷ " methods" ∷ " modes" ∷ []

abbrev pub more_names : List String
more_names = " payload" ∷ []

abbrev pub done_names : List String
done_names = " id" ∷ " mode" ∷ " payload" ∷ []

abbrev pub ident_names : List String
ident_names = " addresses" ∷ " block" ∷ " gid" ∷ " global" ∷ " supported" ∷ " required" ∷ " flags" ∷ " cookie" ∷ []

abbrev pub feature_names : List String
feature_names = " features" ∷ []

abbrev pub reconnect_names : List String
reconnect_names = " addresses" ∷ " block" ∷ " client" ∷ " server" ∷ " global" ∷ " connect" ∷ " message" ∷ []

abbrev pub reset_names : List String
reset_names = " full" ∷ []

abbrev pub message_names : List String
message_names = " message" ∷ []

abbrev pub stamp_names : List String
stamp_names = " stamp" ∷ []

unfoldable pub names_of : ℕ → List String
names_of tag =
    cond (eqb tag 1) hello_names
    (cond (eqb tag 2) request_names
    (cond (eqb tag 3) bad_method_names
    (cond (eqb tag 4) more_names
    (cond (eqb tag 5) more_names
    (cond (eqb tag 6) done_names
    (cond (eqb tag 8) ident_names
    (cond (eqb tag 9) ident_names
    (cond (eqb tag 10) feature_names
    (cond (eqb tag 11) reconnect_names
    (cond (eqb tag 12) reset_names
    (cond (eqb tag 15) message_names
    (cond (eqb tag 18) stamp_names
    (cond (eqb tag 19) stamp_names
    (cond (eqb tag 20) message_names
    []))))))))))))))

-- ---- lines

-- body 6 id 4107 mode 1 payload 36 crc 01234567
abbrev pub row_line : ℕ → List String → List Field → List Piece
row_line tag names fs = field "body" tag ++ fields_pieces names fs ++ (newline ∷ [])

-- parts of it, as the code goes
abbrev pub block_pieces : ℕ → ℕ → List ℕ → List Piece
block_pieces tag addresses bs = field "body" tag ++ field " addresses" addresses ++ bytes_pieces (codes " block") bs

abbrev pub ident_pieces : Ident → List Piece
ident_pieces i =
    field " gid" i.gid ++ field " global" i.global_seq ++ field " supported" i.supported ++ field " required" i.required
    ++ field " flags" i.flags ++ field " cookie" i.cookie

abbrev pub reconnect_pieces : Reconnect → List Piece
reconnect_pieces k =
    field " client" k.client_cookie ++ field " server" k.server_cookie ++ field " global" k.global_seq ++ field " connect" k.connect_seq
    ++ field " message" k.msg_seq

abbrev pub number_names : ℕ → List String
number_names tag = cond (eqb tag 10) feature_names message_names

-- refused 20 detail 4 0 0
abbrev pub read_line : ℕ → Answer → List Piece
read_line tag (whole fs) = row_line tag (names_of tag) fs
read_line tag (refused w) = refused_pieces w ++ (newline ∷ [])

-- ---- the record: tag u8, length u32, bytes

abbrev pub read_size : List ℕ → ℕ
read_size s = records.sized (allowed (number_at 4 2 s)) (6 + number_at 4 2 s)

unfoldable pub answer_of : List ℕ → Answer
answer_of s = read_body (get_or s 1 0) (take (number_at 4 2 s) (drop 6 s))

unfoldable pub read_record : List ℕ → Record
read_record s = records.whole (read_size s) s (read_line (get_or s 1 0) (answer_of s) ∷ [])
