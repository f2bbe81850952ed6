-- Sealed builds over words: a sending state as three numbers, its key and the nonce of its next part.
use Rattle.std.specs.Prelude.{◌≡◌, List, [], ◌∷◌, Bool, cond, ◌&&◌, ℕ, get_or}
use Rattle.refusal.specs.declared.Refusal.TheVariants.{StateContradicts}
use Rattle.refusal.specs.Refusals.{numbers_of}
use Rattle.sealed_builder.specs.declared.Sending.{Sending}
use Rattle.sealed_builder.specs.Build as sealed
use Rattle.abi.specs.declared.Written.{Written}
use Rattle.abi.specs.Words.{within, mark_number, mark_of, abi_refused, header_at, header_limits, abi_result}

-- ---- sending states: 0 all nonces are spent, 1 a refused switch handed it back, 2 how many are spent

abbrev pub sending_of : List ℕ → List ℕ → List ℕ → Sending
sending_of ws key nonce = sealed.sending_state key nonce (get_or ws 2 0) (mark_of (get_or ws 0 0)) (mark_of (get_or ws 1 0))

abbrev pub sending_numbers : Sending → List ℕ
sending_numbers s = mark_number s.exhausted ∷ mark_number s.refused ∷ s.spent ∷ []

abbrev pub sending_limits : List ℕ
sending_limits = 1 ∷ 1 ∷ []

-- ---- builds: the answer, the numbers and the nonce of the state, and the buffer; the key stays

pub record AbiSealed : Type 0 where
  pub answer : Written
  pub numbers : List ℕ
  pub nonce : List ℕ
  pub buffer : List ℕ

abbrev pub sealed_with : Written → List ℕ → List ℕ → List ℕ → AbiSealed
sealed_with w ws nonce l = record { answer = w; numbers = ws; nonce = nonce; buffer = l }

abbrev pub in_abi : sealed.Done → AbiSealed
in_abi d = sealed_with (abi_result d.answer) (sending_numbers d.sending) d.sending.nonce d.buffer

-- WHAT BUILDING A SEALED FRAME COMES TO: 26, and nothing is changed or spent, where a word is beyond its field
unfoldable pub abi_sealed : List ℕ → List ℕ → List ℕ → List ℕ → Bool → List ℕ → List ℕ → ℕ → AbiSealed
abi_sealed ws key nonce header abort source buf queued =
    cond (within sending_limits 0 ws && within header_limits 0 header)
    (in_abi (sealed.sealed_done (sending_of ws key nonce) (header_at 0 header) abort source buf queued))
    (sealed_with (abi_refused (numbers_of StateContradicts)) ws nonce buf)

-- THE PROMISE OF A BUILD
pub record AbiBuiltSealed (ws key nonce header : List ℕ) (abort : Bool) (source buf : List ℕ) (queued : ℕ) (r : AbiSealed) : Type 0 where
  pub promise : r ≡ abi_sealed ws key nonce header abort source buf queued
