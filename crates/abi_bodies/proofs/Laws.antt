-- What reading and writing promise, in words.
use mathlib.Core.Path.{◌≡◌, refl, ap, ◌∙◌}
use mathlib.Core.List.{List}
use mathlib.Core.Bool.{Bool, true, false, cond, ◌&&◌}
use Prim.Native.Nat.{ℕ, ◌≤◌, ◌<◌}
use native.Mathlib.Omega.{arith}
use borrow.Author.Tests.{lt-leb, le-leb}
use lib.Dec.{leb}
use lib.ListN.{get_or}
use Rattle.std.specs.Prelude.{Some, None, Result, Ok, Err}
use Rattle.refusal.specs.declared.Refusal.{Refusal}
use Rattle.refusal.specs.declared.Refusal.TheVariants.{StateContradicts}
use Rattle.refusal.specs.Refusals.{numbers_of}
use Rattle.refusal.proofs.Booleans.{by_test}
use Rattle.bodies.specs.declared.Body.{Body}
use Rattle.bodies.specs.declared.Body.TheVariants as body
use Rattle.bodies.specs.declared.Request.{Request}
use Rattle.refusal.specs.Writes.{outcome_of}
use Rattle.bodies.specs.Rows.{requested}
use Rattle.bodies.specs.Read.{refused, read_body, answer_of}
use Rattle.bodies.specs.ByTag.{body_of, Within}
use Rattle.bodies.specs.Claims.{Reads, Writes}
use Rattle.bodies.proofs.ByTags.{reads_as, all-within}
use Rattle.abi.specs.Words.{max_u8, low_u8, abi_refused, in_abi, abi_result}
use Rattle.abi.proofs.Headers.{small8}
use Rattle.abi_bodies.specs.Words.{body_words, abi_body, WithinWords, AbiReads, request_of, fits, asked, abi_write, AbiWrites}

-- what stands in a body, and that it does
answer-words : (tag : ℕ) (s : List ℕ) (q : Bool) → answer_of s (cond q (body_of tag s) (Err StateContradicts)) ≡ cond q (read_body tag s) (refused (numbers_of StateContradicts))
answer-words tag s true = reads_as s tag
answer-words tag s false = refl

within : (tag : ℕ) (s : List ℕ) (q : Bool) → Within s (cond q (body_of tag s) (Err StateContradicts))
unfolding Within
within tag s true = all-within s tag
within tag s false = tt

-- nothing, at the front, is within any segment
within-words : (s : List ℕ) (b : Result Body Refusal) → Within s b → WithinWords s (body_words b)
unfolding Within
within-words s (Ok (body.Hello entityType address)) h = (omega arith, omega arith, h)
within-words s (Ok (body.AuthRequest method modes payload)) h = (h.0, omega arith, h.1)
within-words s (Ok (body.BadMethod method error methods modes)) h = (h.0, h.1, omega arith)
within-words s (Ok (body.More payload)) h = (omega arith, omega arith, h)
within-words s (Ok (body.AuthDone globalId mode payload)) h = (omega arith, omega arith, h)
within-words s (Ok (body.Ident addresses block i)) h = (omega arith, omega arith, h)
within-words s (Ok (body.Reconnect addresses block k)) h = (omega arith, omega arith, h)
within-words s (Ok (body.Number n)) h = (omega arith, omega arith, omega arith)
within-words s (Ok (body.Reset full)) h = (omega arith, omega arith, omega arith)
within-words s (Ok (body.Stamp p)) h = (omega arith, omega arith, h)
within-words s (Err r) h = (omega arith, omega arith, omega arith)

pub abi-reads : (tag : ℕ) (s : List ℕ) (b : Result Body Refusal) (n : ℕ) (ws : List ℕ) → b ≡ abi_body tag s → ws ≡ body_words b → n ≡ get_or ws 0 0 → AbiReads tag s n ws
abi-reads tag s b n ws e w k =
    let u : ws ≡ body_words (abi_body tag s) = w ∙ ap body_words e in
    record { words = u; kind = k; answer = answer-words tag s (leb tag max_u8); within = rw u (within-words s (abi_body tag s) (within tag s (leb tag max_u8))) }

module _ (tag : ℕ) (ws ms ns bs out : List ℕ) where
  -- a number is beyond its field
  beyond : (leb tag max_u8 && fits (get_or ws 0 0) (get_or ws 1 0) (get_or ws 2 0)) ≡ false → AbiWrites tag ws ms ns bs out (abi_refused (numbers_of StateContradicts)) out
  unfolding abi_write
  beyond e = record { promise = rw e }

  pub tag_beyond : max_u8 < tag → AbiWrites tag ws ms ns bs out (abi_refused (numbers_of StateContradicts)) out
  tag_beyond h = beyond (rw (lt-leb tag max_u8 h))

  pub none_asked : asked ws ≡ None → AbiWrites tag ws ms ns bs out (abi_refused (numbers_of StateContradicts)) out
  none_asked e = by_test (fits (get_or ws 0 0) (get_or ws 1 0) (get_or ws 2 0)) (λ t. absurd (let k = rw t at e in cc)) (λ t. beyond (by_test (leb tag max_u8) (λ u. rw (u, t)) (λ u. rw u)))

  pub one_asked : (r : Request) (o : Result ℕ Refusal) (after : List ℕ) → tag ≤ max_u8 → asked ws ≡ Some r → Writes tag (requested r ms ns bs) out o after → AbiWrites tag ws ms ns bs out (abi_result (outcome_of o)) after
  unfolding abi_write
  one_asked r o after l e h =
      by_test (fits (get_or ws 0 0) (get_or ws 1 0) (get_or ws 2 0))
      (λ t. let k : r ≡ request_of ws = (let q = rw t at e in cc) in
      record { promise = rw (le-leb tag max_u8 l, t, ← k) (ap in_abi h.outcome) })
      (λ t. absurd (let q = rw t at e in cc))
