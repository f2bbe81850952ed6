-- Bodies of control frames over words: what a body says as eighteen of them, a request to write one as the first eight. Places: 0 kind, 1 to 7 numbers in the body's
-- order, 8 and 9 the first list, its place and count, 10 and 11 the second, 12 and 13 bytes, their place and length, 14 to 17 refusal; what a kind does not use is 0.
-- Kinds: 0 refused, 1 hello, 2 auth request, 3 bad method, 4 more, 5 auth done, 6 ident, 7 reconnect, 8 one number, 9 reset, 10 stamp.
use Rattle.std.specs.Prelude.{◌≡◌, Option, Some, None, Result, Ok, Err, List, [], ◌∷◌, ◌++◌, Bool, cond, ◌&&◌, ◌||◌, ℕ, ◌+◌, ◌*◌, ◌≤◌, eqb, leb, length, get_or}
use Rattle.refusal.specs.declared.Numbers.{Numbers}
use Rattle.refusal.specs.declared.Refusal.{Refusal}
use Rattle.refusal.specs.declared.Refusal.TheVariants.{StateContradicts}
use Rattle.refusal.specs.Refusals.{numbers_of, no_refusal}
use Rattle.fields.specs.declared.Span.{Span}
use Rattle.fields.specs.declared.NumberList.{NumberList}
use Rattle.bodies.specs.declared.Ident.{Ident}
use Rattle.bodies.specs.declared.Reconnect.{Reconnect}
use Rattle.bodies.specs.declared.Body.{Body}
use Rattle.bodies.specs.declared.Body.TheVariants as body
use Rattle.bodies.specs.declared.Request.{Request}
use Rattle.bodies.specs.declared.Request.TheVariants as request
use Rattle.bodies.specs.Read as read
use Rattle.bodies.specs.Read.{read_body, answer_of}
use Rattle.bodies.specs.ByTag.{body_of}
use Rattle.bodies.specs.Rows.{requested}
use Rattle.bodies.specs.Write as write
use Rattle.abi.specs.declared.Written.{Written}
use Rattle.abi.specs.Words.{max_u8, max_u32, low_u8, low_u32, refusal_words, abi_refused, AbiDone, abi_done, in_abi}

-- ---- a body read

abbrev pub span_words : Span → List ℕ
span_words s = s.at ∷ s.len ∷ []

abbrev pub list_words : NumberList → List ℕ
list_words l = l.at ∷ l.count ∷ []

abbrev pub nothing : List ℕ
nothing = 0 ∷ 0 ∷ []

abbrev pub saying : ℕ → List ℕ → List ℕ → List ℕ → List ℕ → Numbers → List ℕ
saying kind ns first second bytes n = kind ∷ (ns ++ (first ++ (second ++ (bytes ++ refusal_words n))))

-- up to two numbers, and zeros
abbrev pub two : ℕ → ℕ → List ℕ
two a b = a ∷ b ∷ 0 ∷ 0 ∷ 0 ∷ 0 ∷ 0 ∷ []

abbrev pub ident_numbers : ℕ → Ident → List ℕ
ident_numbers n i = n ∷ i.gid ∷ i.global_seq ∷ i.supported ∷ i.required ∷ i.flags ∷ i.cookie ∷ []

abbrev pub reconnect_numbers : ℕ → Reconnect → List ℕ
reconnect_numbers n k = n ∷ k.client_cookie ∷ k.server_cookie ∷ k.global_seq ∷ k.connect_seq ∷ k.msg_seq ∷ 0 ∷ []

-- THE WORDS OF A BODY
abbrev pub body_words : Result Body Refusal → List ℕ
body_words (Ok (body.Hello entityType address)) = saying 1 (two entityType 0) nothing nothing (span_words address) no_refusal
body_words (Ok (body.AuthRequest method modes payload)) = saying 2 (two method 0) (list_words modes) nothing (span_words payload) no_refusal
body_words (Ok (body.BadMethod method error methods modes)) = saying 3 (two method error) (list_words methods) (list_words modes) nothing no_refusal
body_words (Ok (body.More payload)) = saying 4 (two 0 0) nothing nothing (span_words payload) no_refusal
body_words (Ok (body.AuthDone globalId mode payload)) = saying 5 (two globalId mode) nothing nothing (span_words payload) no_refusal
body_words (Ok (body.Ident n block i)) = saying 6 (ident_numbers n i) nothing nothing (span_words block) no_refusal
body_words (Ok (body.Reconnect n block k)) = saying 7 (reconnect_numbers n k) nothing nothing (span_words block) no_refusal
body_words (Ok (body.Number n)) = saying 8 (two n 0) nothing nothing nothing no_refusal
body_words (Ok (body.Reset full)) = saying 9 (two full 0) nothing nothing nothing no_refusal
body_words (Ok (body.Stamp p)) = saying 10 (two 0 0) nothing nothing (span_words p) no_refusal
body_words (Err r) = saying 0 (two 0 0) nothing nothing nothing (numbers_of r)

-- WHAT READING COMES TO: 26 where a tag has more than 8 bits
abbrev pub abi_read : ℕ → List ℕ → read.Answer
abi_read tag s = cond (leb tag max_u8) (read_body tag s) (read.refused (numbers_of StateContradicts))

-- and the body that says it: its numbers, and the places of its lists and bytes
abbrev pub abi_body : ℕ → List ℕ → Result Body Refusal
abi_body tag s = cond (leb tag max_u8) (body_of tag s) (Err StateContradicts)

-- what the words say of lists and bytes lies within the segment
abbrev pub WithinWords : List ℕ → List ℕ → Type 0
WithinWords s ws =
    (get_or ws 8 0 + 4 * get_or ws 9 0 ≤ length s)
    × (get_or ws 10 0 + 4 * get_or ws 11 0 ≤ length s)
    × (get_or ws 12 0 + get_or ws 13 0 ≤ length s)

-- THE PROMISE OF READING: the words of that body; a call answers its kind
pub record AbiReads (tag : ℕ) (s : List ℕ) (n : ℕ) (ws : List ℕ) : Type 0 where
  pub words : ws ≡ body_words (abi_body tag s)
  pub kind : n ≡ get_or ws 0 0
  -- what stands at its places, each of which lies within the segment
  pub answer : answer_of s (abi_body tag s) ≡ abi_read tag s
  pub within : WithinWords s ws

-- ---- a body to be written

abbrev pub ident_at : List ℕ → Ident
ident_at ws = record {
  gid = get_or ws 2 0;
  global_seq = get_or ws 3 0;
  supported = get_or ws 4 0;
  required = get_or ws 5 0;
  flags = get_or ws 6 0;
  cookie = get_or ws 7 0;
}

abbrev pub reconnect_at : List ℕ → Reconnect
reconnect_at ws = record { client_cookie = get_or ws 2 0; server_cookie = get_or ws 3 0; global_seq = get_or ws 4 0; connect_seq = get_or ws 5 0; msg_seq = get_or ws 6 0 }

-- by kind: 10, and any other, which `fits` rules out
unfoldable pub request_with : ℕ → ℕ → ℕ → Ident → Reconnect → Request
request_with kind a b i k =
    cond (eqb kind 1) (request.Hello (low_u8 a))
    (cond (eqb kind 2) (request.AuthRequest (low_u32 a))
    (cond (eqb kind 3) (request.BadMethod (low_u32 a) (low_u32 b))
    (cond (eqb kind 4) request.More
    (cond (eqb kind 5) (request.AuthDone a (low_u32 b))
    (cond (eqb kind 6) (request.Ident (low_u32 a) i)
    (cond (eqb kind 7) (request.Reconnect (low_u32 a) k)
    (cond (eqb kind 8) (request.Number a)
    (cond (eqb kind 9) (request.Reset (low_u8 a)) request.Stamp))))))))

-- THE REQUEST THAT WORDS STAND FOR
abbrev pub request_of : List ℕ → Request
request_of ws = request_with (get_or ws 0 0) (get_or ws 1 0) (get_or ws 2 0) (ident_at ws) (reconnect_at ws)

-- THE KIND IS ONE, AND EACH NUMBER IS ONE OF ITS FIELD: those of the other places are as wide as a word
unfoldable pub fits : ℕ → ℕ → ℕ → Bool
fits kind a b =
    cond (eqb kind 1 || eqb kind 9) (leb a max_u8)
    (cond (eqb kind 2 || (eqb kind 6 || eqb kind 7)) (leb a max_u32)
    (cond (eqb kind 3) (leb a max_u32 && leb b max_u32)
    (cond (eqb kind 5) (leb b max_u32) (leb 1 kind && leb kind 10))))

-- as the code has it: none where a number is beyond its field
abbrev pub asked : List ℕ → Option Request
asked ws = cond (fits (get_or ws 0 0) (get_or ws 1 0) (get_or ws 2 0)) (Some (request_of ws)) None

-- WHAT WRITING COMES TO, with two lists and bytes: 26, and the buffer as it was, where a number is beyond its field
unfoldable pub abi_write : ℕ → List ℕ → List ℕ → List ℕ → List ℕ → List ℕ → AbiDone
abi_write tag ws ms ns bs out =
    cond (leb tag max_u8 && fits (get_or ws 0 0) (get_or ws 1 0) (get_or ws 2 0)) (in_abi (write.write_body tag (requested (request_of ws) ms ns bs) out)) (abi_done (abi_refused (numbers_of StateContradicts)) out)

-- THE PROMISE OF WRITING
pub record AbiWrites (tag : ℕ) (ws ms ns bs out : List ℕ) (r : Written) (after : List ℕ) : Type 0 where
  pub promise : abi_done r after ≡ abi_write tag ws ms ns bs out
