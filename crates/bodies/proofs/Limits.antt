-- The worked bodies at the limit of a segment.
use mathlib.Core.Path.{◌≡◌, refl, sym, ◌∙◌}
use mathlib.Core.List.{List, [], ◌∷◌, ◌++◌, append-nil}
use Prim.Native.Nat.{ℕ, ◌+◌, ◌-◌, ◌≤◌, ◌<◌}
use native.Mathlib.Omega.{arith}
use borrow.Author.Tests.{lt-leb, le-ltb}
use lib.ListN.{length, take, length-append}
use lib.Seq.{take_all}
use Rattle.buffer.specs.Le.{le, number_at, words}
use Rattle.preamble.specs.Judge.{segment_limit}
use Rattle.refusal.specs.Refusals.{row}
use Rattle.refusal.specs.Writes.{refused_for, done}
use Rattle.bodies.specs.Table.{layout_in}
use Rattle.bodies.specs.Rows.{hello_of, auth_request_of}
use Rattle.bodies.specs.Read.{whole, read_body}
use Rattle.bodies.specs.Write.{kinds_of, bytes_of, write_as, write_body}
use Rattle.bodies.specs.ByTag.{hello_body, tag_body, body_of}
use Rattle.bodies.specs.Worked.{AtLimit}
use Rattle.bodies.proofs.Judged.{length-words}
use Rattle.bodies.proofs.Drafted.{read-long}
use Rattle.bodies.proofs.ByTags.{reads_as}

hello-read : (bs : List ℕ) → 1 + length bs ≤ segment_limit → read_body 1 (8 ∷ bs) ≡ whole (hello_of 8 bs)
unfolding body_of tag_body hello_body number_at
hello-read bs h =
    let e : take (length (8 ∷ bs) - 1) bs ≡ bs = take_all (length (8 ∷ bs) - 1) bs (omega arith) in
    sym (reads_as (8 ∷ bs) 1) ∙ rw (le-ltb segment_limit (length (8 ∷ bs)) (omega arith), le-ltb (length (8 ∷ bs)) 1 (omega arith), e)

hello-bytes : (bs : List ℕ) → bytes_of (hello_of 8 bs) ≡ 8 ∷ bs
unfolding bytes_of
hello-bytes bs = rw append-nil

hello-no-room : (bs : List ℕ) → length bs ≡ 1048575 → write_body 1 (hello_of 8 bs) (7 ∷ []) ≡ done (refused_for (row 14 1048576 0 0)) (7 ∷ [])
unfolding write_body write_as layout_in kinds_of
hello-no-room bs e =
    let n : length (8 ∷ bs) ≡ 1048576 = omega arith in
    rw (hello-bytes bs, hello-read bs (omega arith), lt-leb (length (8 ∷ bs)) 1 (omega arith), n)

hello-long : (bs out : List ℕ) → length bs ≡ 1048576 → write_body 1 (hello_of 8 bs) out ≡ done (refused_for (row 20 0 0 0)) out
unfolding write_body write_as layout_in kinds_of
hello-long bs out e = rw (hello-bytes bs, read-long 1 (8 ∷ bs) (omega arith))

request-length : (zs bs : List ℕ) → length zs ≡ 33 → length bs ≡ 1048437 → segment_limit < length (bytes_of (auth_request_of 1 zs bs))
unfolding bytes_of
request-length zs bs e f =
    let w = length-words zs in
    let a : length (words zs ++ (bs ++ [])) ≡ length (words zs) + length bs = simp (append-nil, length-append) in
    let b : length (bytes_of (auth_request_of 1 zs bs)) ≡ 8 + length (words zs ++ (bs ++ [])) = omega arith in
    omega arith

request-long : (zs bs out : List ℕ) → length zs ≡ 33 → length bs ≡ 1048437 → write_body 2 (auth_request_of 1 zs bs) out ≡ done (refused_for (row 20 0 0 0)) out
unfolding write_body write_as layout_in kinds_of
request-long zs bs out e f = rw (read-long 2 (bytes_of (auth_request_of 1 zs bs)) (request-length zs bs e f))

pub at-limit : AtLimit
unfolding AtLimit
at-limit = (
  λ bs e. hello-read bs (omega arith),
  λ bs e. read-long 1 (8 ∷ bs) (omega arith),
  λ bs e. read-long 3 (le 4 1 ++ le 4 0 ++ bs) (omega arith),
  hello-no-room,
  hello-long,
  λ bs out e. request-long _ bs out refl e,
)
