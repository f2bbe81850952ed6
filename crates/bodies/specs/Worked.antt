-- Worked bodies, computed from the definitions as one table: each fault and its place, faults at once, and what may stand.
use Rattle.std.specs.Prelude.{◌≡◌, List, [], ◌∷◌, ◌++◌, ℕ, Result, Ok, Err, length, replicate}
use Rattle.buffer.specs.Le.{le}
use Rattle.refusal.specs.Refusals.{row}
use Rattle.refusal.specs.declared.Refusal.{Refusal}
use Rattle.refusal.specs.declared.Refusal.TheVariants.{BodyMalformed}
use Rattle.refusal.specs.Writes.{WriteOutcome, wrote, refused_for, Done, done}
use Rattle.fields.specs.Field.{Field, numbers_from, bytes_from}
use Rattle.bodies.specs.declared.Body.{Body}
use Rattle.bodies.specs.declared.Body.TheVariants as body
use Rattle.bodies.specs.declared.Ident.{Ident}
use Rattle.bodies.specs.declared.Reconnect.{Reconnect}
use Rattle.bodies.specs.Rows.{hello_of, auth_request_of, bad_method_of, more_of, auth_done_of, ident_of, reconnect_of, one_number_of, reset_of, stamp_of}
use Rattle.bodies.specs.Read.{Answer, whole, refused, read_body}
use Rattle.bodies.specs.ByTag.{body_of}
use Rattle.bodies.specs.Write.{write_body}

abbrev zeros : ℕ → List ℕ
zeros n = replicate {A = ℕ} n 0

-- ---- reading

pub record Reading : Type 0 where
  pub tag : ℕ
  pub bytes : List ℕ
  pub answer : Answer

abbrev reads : ℕ → List ℕ → Answer → Reading
reads tag bytes answer = record { tag = tag; bytes = bytes; answer = answer }

abbrev identity : Ident
identity = record { gid = 4107; global_seq = 11; supported = 7; required = 3; flags = 1; cookie = 5 }

abbrev resumed : Reconnect
resumed = record { client_cookie = 1; server_cookie = 2; global_seq = 3; connect_seq = 4; msg_seq = 5 }

-- refused with 20 and the place
abbrev bad : ℕ → Answer
bad at = refused (row 20 at 0 0)

-- closing fields, byte for byte
abbrev closing48 : List ℕ
closing48 = le 8 4107 ++ le 8 11 ++ le 8 7 ++ le 8 3 ++ le 8 1 ++ le 8 5

abbrev closing40 : List ℕ
closing40 = le 8 1 ++ le 8 2 ++ le 8 3 ++ le 8 4 ++ le 8 5

unfoldable pub readings : List Reading
readings =
    -- each body
    reads 1 (8 ∷ 1 ∷ 2 ∷ 3 ∷ []) (whole (hello_of 8 (1 ∷ 2 ∷ 3 ∷ [])))
    ∷ reads 2 (le 4 2 ++ le 4 2 ++ le 4 1 ++ le 4 2 ++ 9 ∷ []) (whole (auth_request_of 2 (1 ∷ 2 ∷ []) (9 ∷ [])))
    ∷ reads 3 (le 4 1 ++ le 4 4294967201 ++ le 4 1 ++ le 4 2 ++ le 4 2 ++ le 4 1 ++ le 4 2) (whole (bad_method_of 1 4294967201 (2 ∷ []) (1 ∷ 2 ∷ [])))
    ∷ reads 4 (le 4 3 ++ 7 ∷ 8 ∷ 9 ∷ []) (whole (more_of (7 ∷ 8 ∷ 9 ∷ [])))
    ∷ reads 5 (le 4 0) (whole (more_of []))
    ∷ reads 6 (le 8 4107 ++ le 4 1 ++ 9 ∷ 9 ∷ []) (whole (auth_done_of 4107 1 (9 ∷ 9 ∷ [])))
    -- the address count is a number and is not judged: here the marker byte of real peers makes it 258
    ∷ reads 8 (2 ∷ 1 ∷ 0 ∷ 0 ∷ 0 ∷ 6 ∷ closing48) (whole (ident_of 258 (0 ∷ 6 ∷ []) identity))
    ∷ reads 9 (le 4 0 ++ closing48) (whole (ident_of 0 [] identity))
    ∷ reads 10 (le 8 12) (whole (one_number_of 12))
    ∷ reads 11 (le 4 1 ++ 6 ∷ closing40) (whole (reconnect_of 1 (6 ∷ []) resumed))
    ∷ reads 12 (255 ∷ []) (whole (reset_of 255))
    ∷ reads 15 (le 8 5) (whole (one_number_of 5))
    ∷ reads 18 (208 ∷ 201 ∷ 249 ∷ 106 ∷ 169 ∷ 238 ∷ 149 ∷ 11 ∷ []) (whole (stamp_of (208 ∷ 201 ∷ 249 ∷ 106 ∷ 169 ∷ 238 ∷ 149 ∷ 11 ∷ [])))
    ∷ reads 19 (zeros 8) (whole (stamp_of (zeros 8)))
    ∷ reads 20 (le 8 18446744073709551615) (whole (one_number_of 18446744073709551615))
    -- the lowest byte first; a body that ends with its opaque bytes may have none of them, a list none; a reset's byte is any
    ∷ reads 15 (1 ∷ 2 ∷ 3 ∷ 4 ∷ 5 ∷ 6 ∷ 7 ∷ 8 ∷ []) (whole (one_number_of 578437695752307201))
    ∷ reads 1 (8 ∷ []) (whole (hello_of 8 []))
    ∷ reads 2 (le 4 1 ++ le 4 0) (whole (auth_request_of 1 [] []))
    ∷ reads 6 (le 8 1 ++ le 4 2) (whole (auth_done_of 1 2 []))
    ∷ reads 9 (le 4 4294967295 ++ closing48) (whole (ident_of 4294967295 [] identity))
    ∷ reads 11 (le 4 4294967295 ++ closing40) (whole (reconnect_of 4294967295 [] resumed))
    ∷ reads 12 (2 ∷ []) (whole (reset_of 2))
    -- unlisted tags
    ∷ reads 0 [] (bad 0)
    ∷ reads 0 (le 8 5) (bad 0)
    ∷ reads 7 (zeros 32) (bad 0)
    ∷ reads 7 [] (bad 0)
    ∷ reads 13 (le 8 5) (bad 0)
    ∷ reads 13 [] (bad 0)
    ∷ reads 14 (1 ∷ []) (bad 0)
    ∷ reads 14 (le 8 5) (bad 0)
    ∷ reads 14 [] (bad 0)
    ∷ reads 16 [] (bad 0)
    ∷ reads 16 (1 ∷ []) (bad 0)
    ∷ reads 16 (le 8 5) (bad 0)
    ∷ reads 17 (zeros 41) (bad 0)
    ∷ reads 17 [] (bad 0)
    ∷ reads 21 (le 8 5) (bad 0)
    ∷ reads 21 [] (bad 0)
    -- a list of 32 stands; one of 33 is at fault at its count, though its numbers are cut off too
    ∷ reads 2 (le 4 2 ++ le 4 32 ++ zeros 128) (whole (auth_request_of 2 (zeros 32) []))
    ∷ reads 2 (le 4 2 ++ le 4 33 ++ zeros 132) (bad 4)
    ∷ reads 2 (le 4 2 ++ le 4 33) (bad 4)
    -- a short one at the number cut off, and a count cut off at itself
    ∷ reads 2 (le 4 2 ++ le 4 2 ++ le 4 1 ++ 0 ∷ 0 ∷ []) (bad 12)
    ∷ reads 2 (le 4 2 ++ le 4 2 ++ le 4 1) (bad 12)
    ∷ reads 2 (le 4 2 ++ le 4 3 ++ le 4 1 ++ 0 ∷ 0 ∷ []) (bad 12)
    ∷ reads 2 (le 4 2 ++ le 4 1) (bad 8)
    ∷ reads 2 (le 4 2 ++ 1 ∷ 0 ∷ []) (bad 4)
    ∷ reads 2 (le 4 2 ++ 200 ∷ 0 ∷ []) (bad 4)
    -- a payload shorter than its length at that length, a length cut off at itself
    ∷ reads 4 (le 4 5 ++ 1 ∷ 2 ∷ 3 ∷ []) (bad 0)
    ∷ reads 4 (1 ∷ 0 ∷ 0 ∷ []) (bad 0)
    ∷ reads 4 (le 4 4294967295 ++ 1 ∷ 2 ∷ 3 ∷ []) (bad 0)
    -- an error of 0 and the highest, at their place, before an overlong list; the lowest is legal
    ∷ reads 3 (le 4 1 ++ le 4 0 ++ le 4 0 ++ le 4 0) (bad 4)
    ∷ reads 3 (le 4 1 ++ le 4 2147483647 ++ le 4 33) (bad 4)
    ∷ reads 3 (le 4 1 ++ le 4 2147483648 ++ le 4 0 ++ le 4 0) (whole (bad_method_of 1 2147483648 [] []))
    -- the second list, and a byte behind it
    ∷ reads 3 (le 4 1 ++ le 4 4294967295 ++ le 4 0 ++ le 4 33) (bad 12)
    ∷ reads 3 (le 4 1 ++ le 4 4294967295 ++ le 4 0 ++ le 4 0 ++ 7 ∷ []) (bad 16)
    ∷ reads 3 (le 4 1 ++ le 4 4294967295 ++ le 4 1 ++ le 4 9 ++ le 4 2 ++ le 4 5 ++ 1 ∷ []) (bad 24)
    -- each of its fields cut off, at its place; a field that fails comes before a byte left over
    ∷ reads 3 (1 ∷ 0 ∷ []) (bad 0)
    ∷ reads 3 (le 4 1 ++ 255 ∷ 255 ∷ 255 ∷ []) (bad 4)
    ∷ reads 3 (le 4 1 ++ le 4 4294967295 ++ 0 ∷ []) (bad 8)
    ∷ reads 3 (le 4 1 ++ le 4 4294967295 ++ le 4 1 ++ 0 ∷ 0 ∷ []) (bad 12)
    ∷ reads 3 (le 4 1 ++ le 4 4294967295 ++ le 4 0) (bad 12)
    ∷ reads 3 (le 4 1 ++ le 4 0 ++ le 4 0 ++ le 4 0 ++ 7 ∷ []) (bad 4)
    -- too short for the address count and the closing fields
    ∷ reads 8 (zeros 51) (bad 0)
    ∷ reads 8 (zeros 3) (bad 0)
    ∷ reads 11 (zeros 43) (bad 0)
    ∷ reads 9 (zeros 52) (whole (ident_of 0 [] (record { gid = 0; global_seq = 0; supported = 0; required = 0; flags = 0; cookie = 0 })))
    -- a field cut off at its place, a byte left over at itself
    ∷ reads 1 [] (bad 0)
    ∷ reads 6 (le 8 1 ++ 1 ∷ 0 ∷ []) (bad 8)
    ∷ reads 20 (1 ∷ 2 ∷ []) (bad 0)
    ∷ reads 20 (le 8 5 ++ 1 ∷ []) (bad 8)
    ∷ reads 5 (le 4 1 ++ 1 ∷ 2 ∷ []) (bad 5)
    ∷ reads 12 (1 ∷ 1 ∷ []) (bad 1)
    ∷ reads 12 (1 ∷ 1 ∷ 1 ∷ []) (bad 1)
    ∷ reads 10 (le 8 5 ++ 1 ∷ 2 ∷ []) (bad 8)
    ∷ reads 12 [] (bad 0)
    ∷ reads 18 (zeros 7) (bad 0)
    ∷ reads 19 (zeros 9) (bad 8)
    ∷ []

abbrev pub AllRead : List Reading → Type 0
AllRead [] = Unit {0}
AllRead (x ∷ xs) = (read_body x.tag x.bytes ≡ x.answer) × AllRead xs

-- ---- places

pub record Placing : Type 0 where
  pub tag : ℕ
  pub bytes : List ℕ
  pub body : Result Body Refusal

abbrev places : ℕ → List ℕ → Body → Placing
places tag bytes b = record { tag = tag; bytes = bytes; body = Ok b }

abbrev faulty : ℕ → List ℕ → ℕ → Placing
faulty tag bytes at = record { tag = tag; bytes = bytes; body = Err (BodyMalformed at) }

unfoldable pub placings : List Placing
placings =
    -- to the end
    places 1 (8 ∷ 1 ∷ 2 ∷ 3 ∷ []) (body.Hello 8 (bytes_from 1 3))
    ∷ places 1 (8 ∷ []) (body.Hello 8 (bytes_from 1 0))
    ∷ places 6 (le 8 4107 ++ le 4 1 ++ 9 ∷ 9 ∷ []) (body.AuthDone 4107 1 (bytes_from 12 2))
    ∷ places 6 (le 8 4107 ++ le 4 1) (body.AuthDone 4107 1 (bytes_from 12 0))
    -- a list stands behind its count, which counts numbers; what follows stands behind the last of them
    ∷ places 2 (le 4 2 ++ le 4 2 ++ le 4 1 ++ le 4 2 ++ 9 ∷ []) (body.AuthRequest 2 (numbers_from 8 2) (bytes_from 16 1))
    ∷ places 2 (le 4 1 ++ le 4 0) (body.AuthRequest 1 (numbers_from 8 0) (bytes_from 8 0))
    ∷ places 2 (le 4 1 ++ le 4 2 ++ le 4 1 ++ le 4 2) (body.AuthRequest 1 (numbers_from 8 2) (bytes_from 16 0))
    ∷ places 2 (le 4 1 ++ le 4 0 ++ 9 ∷ 9 ∷ []) (body.AuthRequest 1 (numbers_from 8 0) (bytes_from 8 2))
    ∷ places 3 (le 4 1 ++ le 4 4294967201 ++ le 4 1 ++ le 4 2 ++ le 4 2 ++ le 4 1 ++ le 4 2) (body.BadMethod 1 4294967201 (numbers_from 12 1) (numbers_from 20 2))
    ∷ places 3 (le 4 1 ++ le 4 2147483648 ++ le 4 0 ++ le 4 0) (body.BadMethod 1 2147483648 (numbers_from 12 0) (numbers_from 16 0))
    ∷ places 3 (le 4 1 ++ le 4 2147483648 ++ le 4 0 ++ le 4 1 ++ le 4 2) (body.BadMethod 1 2147483648 (numbers_from 12 0) (numbers_from 16 1))
    ∷ places 3 (le 4 1 ++ le 4 2147483648 ++ le 4 1 ++ le 4 2 ++ le 4 0) (body.BadMethod 1 2147483648 (numbers_from 12 1) (numbers_from 20 0))
    -- a payload stands behind its length, which does not count itself
    ∷ places 4 (le 4 3 ++ 7 ∷ 8 ∷ 9 ∷ []) (body.More (bytes_from 4 3))
    ∷ places 4 (le 4 0) (body.More (bytes_from 4 0))
    ∷ places 5 (le 4 0) (body.More (bytes_from 4 0))
    -- blocks end where the closing fields begin
    ∷ places 8 (2 ∷ 1 ∷ 0 ∷ 0 ∷ 0 ∷ 6 ∷ closing48) (body.Ident 258 (bytes_from 4 2) identity)
    ∷ places 9 (le 4 0 ++ closing48) (body.Ident 0 (bytes_from 4 0) identity)
    ∷ places 8 (le 4 1 ++ closing48) (body.Ident 1 (bytes_from 4 0) identity)
    ∷ places 11 (le 4 1 ++ 6 ∷ closing40) (body.Reconnect 1 (bytes_from 4 1) resumed)
    ∷ places 11 (le 4 1 ++ closing40) (body.Reconnect 1 (bytes_from 4 0) resumed)
    ∷ places 18 (208 ∷ 201 ∷ 249 ∷ 106 ∷ 169 ∷ 238 ∷ 149 ∷ 11 ∷ []) (body.Stamp (bytes_from 0 8))
    ∷ places 19 (zeros 8) (body.Stamp (bytes_from 0 8))
    -- nothing has a place
    ∷ places 20 (le 8 5) (body.Number 5)
    ∷ places 12 (255 ∷ []) (body.Reset 255)
    ∷ faulty 4 (le 4 4 ++ 7 ∷ 8 ∷ 9 ∷ []) 0
    ∷ faulty 5 (le 4 1 ++ 1 ∷ 2 ∷ []) 5
    ∷ []

abbrev pub AllPlaced : List Placing → Type 0
AllPlaced [] = Unit {0}
AllPlaced (x ∷ xs) = (body_of x.tag x.bytes ≡ x.body) × AllPlaced xs

-- ---- writing

pub record Writing : Type 0 where
  pub tag : ℕ
  pub fields : List Field
  pub before : List ℕ
  pub done : Done

abbrev writes : ℕ → List Field → List ℕ → WriteOutcome → List ℕ → Writing
writes tag fields before outcome after = record { tag = tag; fields = fields; before = before; done = done outcome after }

abbrev refuses : ℕ → List Field → List ℕ → ℕ → ℕ → Writing
refuses tag fields before number detail = record { tag = tag; fields = fields; before = before; done = done (refused_for (row number detail 0 0)) before }

unfoldable pub writings : List Writing
writings =
    -- at the front, the rest kept
    writes 4 (more_of (1 ∷ 2 ∷ [])) (replicate {A = ℕ} 7 9) (wrote 6) (2 ∷ 0 ∷ 0 ∷ 0 ∷ 1 ∷ 2 ∷ 9 ∷ [])
    ∷ writes 11 (reconnect_of 1 (6 ∷ []) resumed) (zeros 45) (wrote 45) (le 4 1 ++ 6 ∷ closing40)
    ∷ writes 8 (ident_of 258 [] identity) (zeros 52) (wrote 52) (le 4 258 ++ closing48)
    ∷ writes 1 (hello_of 8 (1 ∷ 2 ∷ [])) (zeros 3) (wrote 3) (8 ∷ 1 ∷ 2 ∷ [])
    ∷ writes 2 (auth_request_of 2 (1 ∷ 258 ∷ []) (9 ∷ [])) (zeros 17) (wrote 17) (2 ∷ 0 ∷ 0 ∷ 0 ∷ 2 ∷ 0 ∷ 0 ∷ 0 ∷ 1 ∷ 0 ∷ 0 ∷ 0 ∷ 2 ∷ 1 ∷ 0 ∷ 0 ∷ 9 ∷ [])
    ∷ writes 3 (bad_method_of 1 4294967201 (2 ∷ []) []) (zeros 20) (wrote 20) (1 ∷ 0 ∷ 0 ∷ 0 ∷ 161 ∷ 255 ∷ 255 ∷ 255 ∷ 1 ∷ 0 ∷ 0 ∷ 0 ∷ 2 ∷ 0 ∷ 0 ∷ 0 ∷ 0 ∷ 0 ∷ 0 ∷ 0 ∷ [])
    ∷ writes 6 (auth_done_of 4107 1 (9 ∷ [])) (zeros 13) (wrote 13) (le 8 4107 ++ le 4 1 ++ 9 ∷ [])
    ∷ writes 20 (one_number_of 513) (zeros 8) (wrote 8) (1 ∷ 2 ∷ 0 ∷ 0 ∷ 0 ∷ 0 ∷ 0 ∷ 0 ∷ [])
    ∷ writes 12 (reset_of 255) (zeros 2) (wrote 1) (255 ∷ 0 ∷ [])
    ∷ writes 19 (stamp_of (1 ∷ 2 ∷ 3 ∷ 4 ∷ 5 ∷ 6 ∷ 7 ∷ 8 ∷ [])) (zeros 8) (wrote 8) (1 ∷ 2 ∷ 3 ∷ 4 ∷ 5 ∷ 6 ∷ 7 ∷ 8 ∷ [])
    -- the lowest error is legal, and a list of 32
    ∷ writes 3 (bad_method_of 1 2147483648 [] []) (zeros 16) (wrote 16) (le 4 1 ++ le 4 2147483648 ++ zeros 8)
    ∷ writes 2 (auth_request_of 1 (zeros 32) []) (zeros 136) (wrote 136) (le 4 1 ++ le 4 32 ++ zeros 128)
    -- a fault comes before the room, and neither changes a byte
    ∷ refuses 3 (bad_method_of 1 5 [] []) (7 ∷ []) 20 4
    ∷ refuses 3 (bad_method_of 1 2147483648 [] (zeros 33)) [] 20 12
    ∷ refuses 2 (auth_request_of 1 (zeros 33) []) (7 ∷ []) 20 4
    ∷ refuses 4 (more_of (1 ∷ 2 ∷ [])) (7 ∷ []) 14 6
    ∷ refuses 12 (reset_of 9) [] 14 1
    -- a stamp of seven bytes is cut off, one of nine has one left over
    ∷ refuses 18 (stamp_of (zeros 7)) (zeros 9) 20 0
    ∷ refuses 18 (stamp_of (zeros 9)) (zeros 9) 20 8
    -- an unlisted tag, and another tag's body
    ∷ refuses 7 (reset_of 1) (zeros 9) 20 0
    ∷ refuses 7 (reset_of 1) [] 20 0
    ∷ refuses 13 (one_number_of 1) (zeros 9) 20 0
    ∷ refuses 12 (hello_of 1 []) (zeros 9) 20 0
    ∷ []

abbrev pub AllWritten : List Writing → Type 0
AllWritten [] = Unit {0}
AllWritten (x ∷ xs) = (write_body x.tag x.fields x.before ≡ x.done) × AllWritten xs

-- ---- the limit of a segment: a body of 1,048,576 bytes stands, and one byte more is malformed at 0, ahead of its fields, of what its tag is and of the room

unfoldable pub AtLimit : Type 0
AtLimit =
    ((bs : List ℕ) → length bs ≡ 1048575 → read_body 1 (8 ∷ bs) ≡ whole (hello_of 8 bs))
    × ((bs : List ℕ) → length bs ≡ 1048576 → read_body 1 (8 ∷ bs) ≡ bad 0)
    × ((bs : List ℕ) → length bs ≡ 1048569 → read_body 3 (le 4 1 ++ le 4 0 ++ bs) ≡ bad 0)
    × ((bs : List ℕ) → length bs ≡ 1048575 → write_body 1 (hello_of 8 bs) (7 ∷ []) ≡ done (refused_for (row 14 1048576 0 0)) (7 ∷ []))
    × ((bs out : List ℕ) → length bs ≡ 1048576 → write_body 1 (hello_of 8 bs) out ≡ done (refused_for (row 20 0 0 0)) out)
    × ((bs out : List ℕ) → length bs ≡ 1048437 → write_body 2 (auth_request_of 1 (zeros 33) bs) out ≡ done (refused_for (row 20 0 0 0)) out)

unfoldable pub Worked : Type 0
Worked = AllRead readings × AllPlaced placings × AllWritten writings × AtLimit
