-- What each tag's body comes to, written out place by place from 000 ("Hello" to "Message exchange") and 02 (K6), with no table and no cursor: its numbers, and where its lists and bytes stand.
-- THE CLAIM: what stands there is what the table says, for every tag and every body, and all of it stands within the body.
use Rattle.std.specs.Prelude.{◌≡◌, Bool, cond, ◌||◌, List, ℕ, Result, Ok, Err, ◌+◌, ◌-◌, ◌*◌, ◌/◌, ◌≤◌, ltb, eqb, length}
use Rattle.buffer.specs.Le.{number_at}
use Rattle.preamble.specs.Judge.{segment_limit}
use Rattle.refusal.specs.declared.Refusal.{Refusal}
use Rattle.fields.specs.declared.Span.{Span}
use Rattle.fields.specs.declared.NumberList.{NumberList}
use Rattle.fields.specs.Field.{numbers_from, bytes_from}
use Rattle.bodies.specs.declared.Body.{Body}
use Rattle.bodies.specs.declared.Body.TheVariants as body
use Rattle.bodies.specs.Read.{malformed_body, read_body, answer_of}

-- malformed at a place, or else what follows
abbrev pub malformed_when : Bool → ℕ → Result Body Refusal → Result Body Refusal
malformed_when bad at b = cond bad (malformed_body at) b

-- there are fewer bytes
abbrev pub short : List ℕ → ℕ → Bool
short s n = ltb (length s) n

-- a body that ends at a place: what stands behind it is left over
abbrev pub ends_at : List ℕ → ℕ → Result Body Refusal → Result Body Refusal
ends_at s at b = malformed_when (ltb at (length s)) at b

-- a count and that many numbers: one cut off or above 32 is at fault at the count, a list cut short at the number cut off
abbrev pub list_then : List ℕ → ℕ → Result Body Refusal → Result Body Refusal
list_then s at b =
    malformed_when (short s (at + 4)) at
    (malformed_when (ltb 32 (number_at 4 at s)) at
    (malformed_when (short s (at + 4 + 4 * number_at 4 at s)) (at + 4 + (length s - (at + 4)) / 4 * 4) b))

-- where a list ends, and where its numbers stand
abbrev pub list_end : List ℕ → ℕ → ℕ
list_end s at = at + 4 + 4 * number_at 4 at s

abbrev pub list_at : List ℕ → ℕ → NumberList
list_at s at = numbers_from (at + 4) (number_at 4 at s)

-- the bytes from a place up to the end
abbrev pub rest_at : List ℕ → ℕ → Span
rest_at s at = bytes_from at (length s - at)

-- ---- the bodies

unfoldable pub hello_body : List ℕ → Result Body Refusal
hello_body s = malformed_when (short s 1) 0 (Ok (body.Hello (number_at 1 0 s) (rest_at s 1)))

unfoldable pub auth_request_body : List ℕ → Result Body Refusal
auth_request_body s = malformed_when (short s 4) 0 (list_then s 4 (Ok (body.AuthRequest (number_at 4 0 s) (list_at s 4) (rest_at s (list_end s 4)))))

-- an error of 0 or above, by its 32 bits, is at fault at its place
unfoldable pub bad_method_body : List ℕ → Result Body Refusal
bad_method_body s =
    malformed_when (short s 4) 0
    (malformed_when (short s 8 || ltb (number_at 4 4 s) 2147483648) 4
    (list_then s 8
    (list_then s (list_end s 8)
    (ends_at s (list_end s (list_end s 8)) (Ok (body.BadMethod (number_at 4 0 s) (number_at 4 4 s) (list_at s 8) (list_at s (list_end s 8))))))))

-- a payload shorter than its length is at fault at that length
unfoldable pub more_body : List ℕ → Result Body Refusal
more_body s = malformed_when (short s 4 || short s (4 + number_at 4 0 s)) 0 (ends_at s (4 + number_at 4 0 s) (Ok (body.More (bytes_from 4 (number_at 4 0 s)))))

unfoldable pub auth_done_body : List ℕ → Result Body Refusal
auth_done_body s = malformed_when (short s 8) 0 (malformed_when (short s 12) 8 (Ok (body.AuthDone (number_at 8 0 s) (number_at 4 8 s) (rest_at s 12))))

-- too short for the address count and the closing fields is at fault at 0; the count itself is not judged
unfoldable pub ident_body : List ℕ → Result Body Refusal
ident_body s =
    let at = length s - 48 in
    malformed_when (short s 52) 0
    (Ok (body.Ident (number_at 4 0 s) (bytes_from 4 (at - 4))
    (record {
      gid = number_at 8 at s;
      global_seq = number_at 8 (at + 8) s;
      supported = number_at 8 (at + 16) s;
      required = number_at 8 (at + 24) s;
      flags = number_at 8 (at + 32) s;
      cookie = number_at 8 (at + 40) s;
    })))

unfoldable pub reconnect_body : List ℕ → Result Body Refusal
reconnect_body s =
    let at = length s - 40 in
    malformed_when (short s 44) 0
    (Ok (body.Reconnect (number_at 4 0 s) (bytes_from 4 (at - 4))
    (record {
      client_cookie = number_at 8 at s;
      server_cookie = number_at 8 (at + 8) s;
      global_seq = number_at 8 (at + 16) s;
      connect_seq = number_at 8 (at + 24) s;
      msg_seq = number_at 8 (at + 32) s;
    })))

unfoldable pub one_number_body : List ℕ → Result Body Refusal
one_number_body s = malformed_when (short s 8) 0 (ends_at s 8 (Ok (body.Number (number_at 8 0 s))))

-- any byte
unfoldable pub reset_body : List ℕ → Result Body Refusal
reset_body s = malformed_when (short s 1) 0 (ends_at s 1 (Ok (body.Reset (number_at 1 0 s))))

unfoldable pub stamp_body : List ℕ → Result Body Refusal
stamp_body s = malformed_when (short s 8) 0 (ends_at s 8 (Ok (body.Stamp (bytes_from 0 8))))

-- ---- by tag; an unlisted one is malformed at 0

unfoldable pub tag_body : ℕ → List ℕ → Result Body Refusal
tag_body tag s =
    cond (eqb tag 1) (hello_body s)
    (cond (eqb tag 2) (auth_request_body s)
    (cond (eqb tag 3) (bad_method_body s)
    (cond (eqb tag 4) (more_body s)
    (cond (eqb tag 5) (more_body s)
    (cond (eqb tag 6) (auth_done_body s)
    (cond (eqb tag 8) (ident_body s)
    (cond (eqb tag 9) (ident_body s)
    (cond (eqb tag 10) (one_number_body s)
    (cond (eqb tag 11) (reconnect_body s)
    (cond (eqb tag 12) (reset_body s)
    (cond (eqb tag 15) (one_number_body s)
    (cond (eqb tag 18) (stamp_body s)
    (cond (eqb tag 19) (stamp_body s)
    (cond (eqb tag 20) (one_number_body s)
    (malformed_body 0)))))))))))))))

-- ahead of all, a body above the limit of a segment
unfoldable pub body_of : ℕ → List ℕ → Result Body Refusal
body_of tag s = malformed_when (ltb segment_limit (length s)) 0 (tag_body tag s)

-- ---- within the segment

abbrev pub numbers_within : List ℕ → NumberList → Type 0
numbers_within s l = l.at + 4 * l.count ≤ length s

abbrev pub bytes_within : List ℕ → Span → Type 0
bytes_within s p = p.at + p.len ≤ length s

-- each list, and all bytes, that a body names
unfoldable pub Within : List ℕ → Result Body Refusal → Type 0
Within s (Ok (body.Hello entityType address)) = bytes_within s address
Within s (Ok (body.AuthRequest method modes payload)) = numbers_within s modes × bytes_within s payload
Within s (Ok (body.BadMethod method error methods modes)) = numbers_within s methods × numbers_within s modes
Within s (Ok (body.More payload)) = bytes_within s payload
Within s (Ok (body.AuthDone globalId mode payload)) = bytes_within s payload
Within s (Ok (body.Ident addresses block i)) = bytes_within s block
Within s (Ok (body.Reconnect addresses block k)) = bytes_within s block
Within s (Ok (body.Number n)) = Unit {0}
Within s (Ok (body.Reset full)) = Unit {0}
Within s (Ok (body.Stamp p)) = bytes_within s p
Within s (Err r) = Unit {0}

-- THE CLAIM
unfoldable pub EveryBody : Type 0
EveryBody = (tag : ℕ) (s : List ℕ) → (answer_of s (body_of tag s) ≡ read_body tag s) × Within s (body_of tag s)
